-- The definitions of this crate, executed on worked cases.
use Rattle.std.specs.Prelude.{◌≡◌, ◌+◌, ℕ, All, Bool, true, false, List, [], ◌∷◌, Some, None, map, vec_capacity, vec_len}
use Rattle.std.specs.Borrow.{Bor}
use Rattle.std.specs.Global.{Vec}
use Rattle.std.specs.List.{AllZip}
use Rattle.std.specs.declared.thread.PromisedHandle.{PromisedHandle}
use Rattle.std.proofs.Common.{arith, refl, subst, sym, ◌∙◌}
use Rattle.std.proofs.lemmas.List.Elements.{All-head, All-cons}
use Rattle.atomic_table.specs.Seated.{TableId}
use Rattle.oim_crew.proofs.StoppedWorkers.{none_of}
use Rattle.oim_crew.specs.Claims.{Claiming, Drawer, Draws, fresh}
use Rattle.oim_crew.specs.Numbers.{once_below, times}
use Rattle.oim_crew.specs.Shifts.{AreUnderWay, IsServed, IsShift, IsStarted}
use Rattle.oim_crew.specs.declared.crew.UnderWay.{UnderWay}
use Rattle.oim_crew.specs.declared.site.Site.{Site}
use Rattle.oim_crew.specs.declared.worker.Shift.{Shift}
use Rattle.oim_crew.specs.declared.worker.ShiftOf.{ShiftOf}

-- Drawn numbers.

drawn_twice : times 2 (2 ∷ 1 ∷ 2 ∷ []) ≡ 2
drawn_twice = refl

below_three : map (once_below 3) (0 ∷ 2 ∷ 3 ∷ 4 ∷ []) ≡ 1 ∷ 1 ∷ 0 ∷ 0 ∷ []
below_three = refl

-- Claims of two items.
abbrev two_items : TableId → Claiming ℕ
two_items id = record { id = id; items = 5 ∷ 6 ∷ []; workers = 3 }

module _ (id : TableId) where
  -- The seat gets the item at the place of its number.
  second_item : Draws (fresh (two_items id)) (Some (1, 6)) (record (fresh (two_items id)) { numbers = 1 ∷ [] })
  second_item = (refl, refl, omega arith, refl)

  another_item : (after : Drawer ℕ) → Draws (fresh (two_items id)) (Some (1, 5)) after → ⊥
  another_item after draws = let e = draws.1 in cc

  none_left : Draws (fresh (two_items id)) None (record (fresh (two_items id)) { finished = true })
  none_left = refl

-- Crews at work. A server is a number here: 10 is the server, 20 the spare one. It gives the sum of
-- itself and the item.
abbrev sums : (server shared number item out : ℕ) → Type 0
sums server shared number item out = out ≡ server + item

abbrev lent : {X : Type 0} → X → Bor X
lent x = record { ref_ptr = (0, 0); now = x }

-- Claims of two items with one seat.
abbrev one_seat : TableId → Claiming ℕ
one_seat id = record { id = id; items = 5 ∷ 6 ∷ []; workers = 1 }

abbrev site : TableId → Site ℕ ℕ ℕ ℕ
site id = record { rt = lent 0; shared = lent 1; server = lent 10; spare = lent 20; claims = lent (one_seat id) }

-- The seat drew the second item and then the first.
abbrev both_drawn : TableId → Vec ℕ → Shift ℕ ℕ
both_drawn id done = record { seat = record { claims = one_seat id; numbers = 1 ∷ 0 ∷ []; finished = true }; done = done; stopped = false }

module _ (id : TableId) (started : Vec (PromisedHandle (Shift ℕ ℕ) (ShiftOf ℕ ℕ ℕ ℕ))) (shifts : Vec (Shift ℕ ℕ)) where
  abbrev at_work : Bool → UnderWay ℕ ℕ ℕ ℕ ℕ
  at_work served = record { room = record { started = started; shifts = shifts }; served = served }

  module _ (done : Vec ℕ) where
    shift_of_the_spare : done.items ≡ 26 ∷ 25 ∷ [] → IsShift (sums 20 1) (one_seat id) (both_drawn id done)
    shift_of_the_spare e = record {
      mine = refl;
      served = subst (λ (os : List ℕ). AllZip (IsServed (sums 20 1) (5 ∷ 6 ∷ [])) (1 ∷ 0 ∷ []) os) (sym e) ((6, refl, refl), ((5, refl, refl), tt));
      whole = refl;
    }

    -- No worker was started, and the spare server served both items.
    spare_at_work : started.items ≡ [] → shifts.items ≡ both_drawn id done ∷ [] → done.items ≡ 26 ∷ 25 ∷ [] → vec_len started ≡ 0 → vec_len shifts ≡ 1
        → vec_capacity shifts ≡ 1 → AreUnderWay sums (site id) (at_work false)
    spare_at_work none one e zero long room = record {
      workers = (
        subst (All (IsStarted 20 1 (one_seat id))) (sym none) (none_of (IsStarted 20 1 (one_seat id)) [] refl),
        subst (All (IsShift (sums 20 1) (one_seat id))) (sym one)
            (All-cons (IsShift (sums 20 1) (one_seat id)) (both_drawn id done) [] (shift_of_the_spare e) (none_of (IsShift (sums 20 1) (one_seat id)) [] refl)),
      );
      count = omega (arith, zero, long);
      room = omega (arith, room);
      spare = λ _. none;
    }

    -- So the server is not in use.
    server_not_at_work : shifts.items ≡ both_drawn id done ∷ [] → done.items ≡ 26 ∷ 25 ∷ [] → AreUnderWay sums (site id) (at_work true) → ⊥
    server_not_at_work one e crew =
        let shift = All-head (IsShift (sums 10 1) (one_seat id)) (both_drawn id done) [] (subst (All (IsShift (sums 10 1) (one_seat id))) one crew.workers.1) in
        let served = subst (λ (os : List ℕ). AllZip (IsServed (sums 10 1) (5 ∷ 6 ∷ [])) (1 ∷ 0 ∷ []) os) e shift.served in
        let item : Some 6 ≡ Some served.0.0 = served.0.1 in
        let gives : 26 ≡ 10 + served.0.0 = served.0.2 in
        cc

  -- Each worker was started or has handed its shift back.
  one_left_out : vec_len started ≡ 0 → vec_len shifts ≡ 0 → (served : Bool) → AreUnderWay sums (site id) (at_work served) → ⊥
  one_left_out none zero served crew = omega (arith, none, zero, crew.count)

  no_room_for_its_shift : vec_capacity shifts ≡ 0 → (served : Bool) → AreUnderWay sums (site id) (at_work served) → ⊥
  no_room_for_its_shift zero served crew = omega (arith, zero, crew.room)

  module _ (handle : PromisedHandle (Shift ℕ ℕ) (ShiftOf ℕ ℕ ℕ ℕ)) where
    -- The one worker was started, and has promised a shift by the server.
    server_at_work : started.items ≡ handle ∷ [] → shifts.items ≡ [] → handle.promise.server.value ≡ 10 → handle.promise.shared.value ≡ 1
        → handle.promise.claims.value ≡ one_seat id → vec_len started ≡ 1 → vec_len shifts ≡ 0 → vec_capacity shifts ≡ 1 → AreUnderWay sums (site id) (at_work true)
    server_at_work one none server shared claims long zero room = record {
      workers = (
        subst (All (IsStarted 10 1 (one_seat id))) (sym one)
            (All-cons (IsStarted 10 1 (one_seat id)) handle [] (server, shared, claims) (none_of (IsStarted 10 1 (one_seat id)) [] refl)),
        subst (All (IsShift (sums 10 1) (one_seat id))) (sym none) (none_of (IsShift (sums 10 1) (one_seat id)) [] refl),
      );
      count = omega (arith, long, zero);
      room = omega (arith, room);
      spare = λ e. absurd (cc);
    }

    -- If a worker was started, the spare server is not in use.
    no_spare_beside_a_worker : started.items ≡ handle ∷ [] → AreUnderWay sums (site id) (at_work false) → ⊥
    no_spare_beside_a_worker one crew = let e : handle ∷ [] ≡ [] = sym one ∙ crew.spare refl in cc

    -- Nor is it by the worker's promise.
    spare_not_at_work : started.items ≡ handle ∷ [] → handle.promise.server.value ≡ 10 → AreUnderWay sums (site id) (at_work false) → ⊥
    spare_not_at_work one server crew =
        let mine = All-head (IsStarted 20 1 (one_seat id)) handle [] (subst (All (IsStarted 20 1 (one_seat id))) one crew.workers.0) in
        let e : 10 ≡ 20 = sym server ∙ mine.0 in
        omega (arith, e)
