-- The results of the workers cover each table once, as the numbers of their seats do.
use Rattle.std.specs.Prelude.{◌≡◌, ◌⊎◌, ◌<◌, ℕ, suc, Bool, true, false, cond, ◌&&◌, List, [], ◌∷◌, ◌++◌, Option, None, All, Any, Contains, MatchBool, count_by, flat_map, length, map, vec_capacity}
use Rattle.std.proofs.Common.{arith, refl, ap, sym, ◌∙◌, subst, ⊎_elim, inl, inr, eqb, get_or, set, sum_by, length-set, get_or-set_other, ◌≢◌}
use Rattle.std.specs.List.{AllZip, list_all}
use Rattle.std.proofs.lemmas.Bool.Decides.{eqb_tells, nat_tests}
use Rattle.std.proofs.lemmas.Grind.{get_or-set_at}
use Rattle.std.proofs.lemmas.List.{map-append}
use Rattle.std.proofs.lemmas.List.Elements.{All-head, All-tail, All-map}
use Rattle.std.proofs.lemmas.List.Folds.{flat_map-map}
use Rattle.std.proofs.lemmas.List.Sums.{sum_by-cons}
use Rattle.oim_report.specs.ReportValue.{ReportValue}
use Rattle.oim_ring.specs.Ends.{ClosedView}
use Rattle.oim_crew.specs.Claims.{Claiming, Drawer}
use Rattle.oim_convert.specs.state.Tasks.{Gives, placed, tables_promised, results_of}
use Rattle.oim_crew.specs.Numbers.{EachOnceBelow, once_below, times}
use Rattle.oim_crew.specs.Shifts.{IsIdle, IsServed, IsShift}
use Rattle.oim_convert.specs.declared.table_task.TableTask.{TableTask}
use Rattle.oim_convert.specs.declared.table_task.TaskResult.{TaskResult}
use Rattle.oim_crew.specs.declared.worker.Shift.{Shift}

-- The numbers that the seats have drawn.

either : (b : Bool) → (b ≡ true) ⊎ (b ≡ false)
either true = inl refl
either false = inr refl

cons_both : {X : Type 0} (x y : X) (xs ys : List X) → x ≡ y → xs ≡ ys → x ∷ xs ≡ y ∷ ys
cons_both x y xs ys e f = λ i. e i ∷ f i

append_both : {X : Type 0} (xs ys zs ws : List X) → xs ≡ ys → zs ≡ ws → xs ++ zs ≡ ys ++ ws
append_both xs ys zs ws e f = λ i. e i ++ f i

module _ {R : Type 0} (told : R → Option (List ℕ)) (report : ReportValue) (limit : ℕ) (served : Bool) (claims : Claiming (TableTask R)) where
  abbrev IsShiftOf : Shift (TableTask R) TaskResult → Type 0
  IsShiftOf shift = IsShift (Gives told report limit served) claims shift

  abbrev table_of : TaskResult → ℕ
  table_of token = token.table

  abbrev seat_of : Shift (TableTask R) TaskResult → Drawer (TableTask R)
  seat_of shift = shift.seat

  abbrev seats_of : List (Shift (TableTask R) TaskResult) → List (Drawer (TableTask R))
  seats_of shifts = map (λ (shift : Shift (TableTask R) TaskResult). shift.seat) shifts

  numbers_tables : (numbers : List ℕ) (tokens : List TaskResult) → AllZip (IsServed (Gives told report limit served) claims.items) numbers tokens → numbers ≡ map table_of tokens
  numbers_tables [] [] all = refl
  numbers_tables [] (t ∷ ts) all = absurd all
  numbers_tables (n ∷ ns) [] all = absurd all
  numbers_tables (n ∷ ns) (t ∷ ts) all = cons_both n t.table ns (map table_of ts) (sym all.0.2.0) (numbers_tables ns ts all.1)

  drawn_tables : (shifts : List (Shift (TableTask R) TaskResult)) → All IsShiftOf shifts → flat_map (λ (shift : Shift (TableTask R) TaskResult). shift.seat.numbers) shifts ≡ tables_promised shifts
  drawn_tables [] all = refl
  drawn_tables (s ∷ ss) all =
      append_both s.seat.numbers (map table_of s.done.items) (flat_map (λ (shift : Shift (TableTask R) TaskResult). shift.seat.numbers) ss) (tables_promised ss)
      (numbers_tables s.seat.numbers s.done.items (All-head IsShiftOf s ss all).served) (drawn_tables ss (All-tail IsShiftOf s ss all))
      ∙ sym (map-append table_of s.done.items (results_of ss))

  -- The results cover the tables as the seats cover the numbers.
  pub covered : (shifts : List (Shift (TableTask R) TaskResult)) (seats : List (Drawer (TableTask R))) → All IsShiftOf shifts → seats ≡ seats_of shifts
      → EachOnceBelow (length claims.items) (flat_map (λ (seat : Drawer (TableTask R)). seat.numbers) seats) → EachOnceBelow (length claims.items) (tables_promised shifts)
  covered shifts seats all same each =
      let drawn : flat_map (λ (seat : Drawer (TableTask R)). seat.numbers) seats ≡ tables_promised shifts =
      ap (λ l. flat_map (λ (seat : Drawer (TableTask R)). seat.numbers) l) same ∙ flat_map-map (λ (seat : Drawer (TableTask R)). seat.numbers) seat_of shifts ∙ drawn_tables shifts all in
      subst (λ (l : List ℕ). EachOnceBelow (length claims.items) l) drawn each

  pub seats_mine : (shifts : List (Shift (TableTask R) TaskResult)) (seats : List (Drawer (TableTask R))) → All IsShiftOf shifts → seats ≡ seats_of shifts
      → All (λ (seat : Drawer (TableTask R)). seat.claims ≡ claims) seats
  seats_mine shifts seats all same =
      subst (λ (l : List (Drawer (TableTask R))). All (λ (seat : Drawer (TableTask R)). seat.claims ≡ claims) l) (sym same)
      (All-map (λ (seat : Drawer (TableTask R)). seat.claims ≡ claims) seat_of shifts (λ k d lt. (all k d lt).mine))

  at_work : (shift : Shift (TableTask R) TaskResult) → IsShiftOf shift → shift.stopped ≡ false → shift.seat.finished ≡ true
  at_work shift s e = subst (λ (b : Bool). MatchBool b (IsIdle claims shift.seat shift.done.items (vec_capacity shift.done)) (shift.seat.finished ≡ true)) e s.whole

  abbrev ends_of : List (Shift (TableTask R) TaskResult) → ℕ
  ends_of shifts = sum_by (λ (shift : Shift (TableTask R) TaskResult). cond shift.seat.finished 1 0) shifts

  some_end : (shifts : List (Shift (TableTask R) TaskResult)) → All IsShiftOf shifts → list_all (λ (shift : Shift (TableTask R) TaskResult). shift.stopped) shifts ≡ false → 0 < ends_of shifts
  some_end [] all e = absurd (cc)
  some_end (s ∷ ss) all e =
      let cons = sum_by-cons (λ (shift : Shift (TableTask R) TaskResult). cond shift.seat.finished 1 0) s ss in
      ⊎_elim
      (λ stopped.
      let rest : list_all (λ (shift : Shift (TableTask R) TaskResult). shift.stopped) ss ≡ false =
      subst (λ (b : Bool). (b && list_all (λ (shift : Shift (TableTask R) TaskResult). shift.stopped) ss) ≡ false) stopped e in
      let more : 0 < ends_of ss = some_end ss (All-tail IsShiftOf s ss all) rest in omega (arith, cons, more))
      (λ working.
      let one : ℕ = 1 in
      let here : cond s.seat.finished 1 0 ≡ one = ap (λ b. cond b 1 0) (at_work s (All-head IsShiftOf s ss all) working) in omega (arith, cons, here))
      (either s.stopped)

  ends_seats : (shifts : List (Shift (TableTask R) TaskResult)) → count_by (λ (seat : Drawer (TableTask R)). seat.finished) (seats_of shifts) ≡ ends_of shifts
  ends_seats [] = refl
  ends_seats (s ∷ ss) =
      omega (
        arith,
        sum_by-cons (λ (shift : Shift (TableTask R) TaskResult). cond shift.seat.finished 1 0) s ss,
        sum_by-cons (λ (seat : Drawer (TableTask R)). cond seat.finished 1 0) s.seat (seats_of ss),
        ends_seats ss,
      )

  -- If some worker has drawn, its seat has found that no item is left.
  pub some_finished : (shifts : List (Shift (TableTask R) TaskResult)) (seats : List (Drawer (TableTask R))) → All IsShiftOf shifts → seats ≡ seats_of shifts
      → list_all (λ (shift : Shift (TableTask R) TaskResult). shift.stopped) shifts ≡ false → 0 < count_by (λ (seat : Drawer (TableTask R)). seat.finished) seats
  some_finished shifts seats all same e =
      subst (λ (l : List (Drawer (TableTask R))). 0 < count_by (λ (seat : Drawer (TableTask R)). seat.finished) l) (sym same) (subst (λ (n : ℕ). 0 < n) (sym (ends_seats shifts)) (some_end shifts all e))

-- The case that a ring's token was lost.

abbrev IsLost : TaskResult → Type 0
IsLost token = token.closed ≡ None

lost_first : (t : TaskResult) (ts : List TaskResult) → IsLost t → Any IsLost (t ∷ ts)
lost_first t ts e = (0, t, omega arith, refl, e)

lost_later : (t : TaskResult) (ts : List TaskResult) → Any IsLost ts → Any IsLost (t ∷ ts)
lost_later t ts (k, x, lt, at, e) = (suc k, x, omega arith, at, e)

-- A place stays empty if no result is for its table, or becomes empty if the token was lost.
empty_place : (tokens : List TaskResult) (closed_feeds : List (Option ClosedView)) (n : ℕ) → n < length closed_feeds → get_or (placed tokens closed_feeds) n None ≡ None
    → ((times n (map (λ (t : TaskResult). t.table) tokens) ≡ 0) × (get_or closed_feeds n None ≡ None)) ⊎ Any IsLost tokens
empty_place [] closed_feeds n lt e = inl (refl, e)
empty_place (t ∷ ts) closed_feeds n lt e =
    ⊎_elim
    (λ none.
    ⊎_elim
    (λ same. let at : n ≡ t.table = sym same.1 in let lt' : t.table < length closed_feeds = omega arith in inr (lost_first t ts (sym (get_or-set_at closed_feeds t.table n t.closed None at lt') ∙ none.1)))
    (λ other.
    let apart : n ≢ t.table = (λ e. other.1 (sym e)) in
    let nothing : ℕ = 0 in
    let here : cond (eqb t.table n) 1 0 ≡ nothing = ap (λ b. cond b 1 0) other.0 in
    let cons = sum_by-cons (λ (m : ℕ). cond (eqb m n) 1 0) t.table (map (λ (u : TaskResult). u.table) ts) in
    let before : times n (map (λ (u : TaskResult). u.table) ts) ≡ 0 = none.0 in
    inl (omega (arith, cons, here, before), sym (get_or-set_other closed_feeds t.table n t.closed None apart) ∙ none.1))
    (eqb_tells t.table n))
    (λ lost. inr (lost_later t ts lost))
    (empty_place ts (set closed_feeds t.table t.closed) n (let len = length-set closed_feeds t.table t.closed in omega (arith, len, lt)) e)

pub placed_append : (xs ys : List TaskResult) (closed_feeds : List (Option ClosedView)) → placed (xs ++ ys) closed_feeds ≡ placed ys (placed xs closed_feeds)
placed_append [] ys closed_feeds = refl
placed_append (x ∷ xs) ys closed_feeds = placed_append xs ys (set closed_feeds x.table x.closed)

placed_len : (tokens : List TaskResult) (closed_feeds : List (Option ClosedView)) → length (placed tokens closed_feeds) ≡ length closed_feeds
placed_len [] closed_feeds = refl
placed_len (t ∷ ts) closed_feeds = placed_len ts (set closed_feeds t.table t.closed) ∙ length-set closed_feeds t.table t.closed

once_for : (n k : ℕ) → k < n → once_below n k ≡ 1
once_for n k lt = grind (arith, nat_tests)

-- If there is one result for each table, a place is empty only if a token was lost.
pub lost_result : (tokens : List TaskResult) (closed_feeds after : List (Option ClosedView)) (n : ℕ) → length closed_feeds ≡ n → after ≡ placed tokens closed_feeds → EachOnceBelow n (map (λ (t : TaskResult). t.table) tokens)
    → Contains after None → Any (λ (t : TaskResult). t.closed ≡ None) tokens
lost_result tokens closed_feeds after n len is each gap =
    let here : Contains (placed tokens closed_feeds) None = subst (λ (l : List (Option ClosedView)). Contains l None) is gap in
    let k : ℕ = here.0 in
    let lt : k < length closed_feeds = let same = placed_len tokens closed_feeds in omega (arith, same, here.1) in
    ⊎_elim (λ none. let once = once_for n k (omega (arith, lt, len)) in let all = each k in absurd (omega (arith, once, all, none.0))) (λ lost. lost) (empty_place tokens closed_feeds k lt here.2)
