-- Workers that were all stopped before they drew.
use Rattle.std.proofs.Common.{◌∙◌, ◌≡◌, ℕ, Bool, true, false, ◌&&◌, List, [], ◌∷◌, ◌++◌, All, length, Some, sym, refl, ap, subst, arith}
use Rattle.std.specs.List.{AllZip, list_all}
use Rattle.std.specs.Bool.{MatchBool}
use Rattle.std.specs.Prelude.{nat_lt, vec_capacity}
use Rattle.std.proofs.lemmas.Bool.{le-ltb}
use Rattle.std.proofs.lemmas.List.Elements.{All-head, All-tail, All-cons, All-pop}
use Rattle.oim_crew.specs.Claims.{Claiming}
use Rattle.oim_crew.specs.declared.worker.Shift.{Shift}
use Rattle.oim_crew.specs.Shifts.{IsIdle, IsServed, IsShift}

-- With no starts, no worker may start.
pub none_may : (place starts : ℕ) → starts ≡ 0 → nat_lt place starts ≡ false
none_may place starts none = le-ltb place starts (omega (arith, none))

pub none_of : {X : Type 0} (P : X → Type 0) (xs : List X) → length xs ≡ 0 → All P xs
none_of P xs none k d h = absurd (omega arith)

both_true : (a b : Bool) → (a && b) ≡ true → (a ≡ true) × (b ≡ true)
both_true true b e = (refl, e)
both_true false b e = absurd (cc)

pub all_stopped_more : {V O : Type 0} (before after : List (Shift V O)) (shift : Shift V O) → after ≡ before ++ shift ∷ []
    → list_all (λ (s : Shift V O). s.stopped) before ≡ true → shift.stopped ≡ true
    → list_all (λ (s : Shift V O). s.stopped) after ≡ true
all_stopped_more {V} {O} before after shift is all one = ap (list_all (λ (s : Shift V O). s.stopped)) is ∙ more before all
  where
    more : (before : List (Shift V O)) → list_all (λ (s : Shift V O). s.stopped) before ≡ true → list_all (λ (s : Shift V O). s.stopped) (before ++ shift ∷ []) ≡ true
    more [] all = rw one refl
    more (s ∷ ss) all = let each = both_true s.stopped (list_all (λ (t : Shift V O). t.stopped) ss) all in rw (each.0, more ss each.1) refl

module _ {V O : Type 0} (claims : Claiming V) where
  abbrev pub IsStopped : Shift V O → Type 0
  IsStopped shift = IsIdle claims shift.seat shift.done.items (vec_capacity shift.done) × (shift.stopped ≡ true)

  module _ (gives : ℕ → V → O → Type 0) where
    stopped_one : (shift : Shift V O) → IsShift gives claims shift → shift.stopped ≡ true → IsStopped shift
    stopped_one shift s e = (subst (λ (b : Bool). MatchBool b (IsIdle claims shift.seat shift.done.items (vec_capacity shift.done)) (shift.seat.finished ≡ true)) e s.whole, e)

    stopped_shift : (shift : Shift V O) → IsStopped shift → IsShift gives claims shift
    stopped_shift shift (idle, e) =
        let none : shift.seat.numbers ≡ [] = ap (λ d. d.numbers) idle.0 in record {
          mine = ap (λ d. d.claims) idle.0;
          served = subst (λ (ns : List ℕ). AllZip (IsServed gives claims.items) ns shift.done.items) (sym none) (subst (λ (os : List O). AllZip (IsServed gives claims.items) [] os) (sym idle.1) tt);
          whole = subst (λ (b : Bool). MatchBool b (IsIdle claims shift.seat shift.done.items (vec_capacity shift.done)) (shift.seat.finished ≡ true)) (sym e) idle;
        }

    pub stopped_all : (shifts : List (Shift V O)) → All (IsShift gives claims) shifts → list_all (λ (s : Shift V O). s.stopped) shifts ≡ true → All IsStopped shifts
    stopped_all [] all e = λ k d h. absurd (omega arith)
    stopped_all (s ∷ ss) all e =
        let each = both_true s.stopped (list_all (λ (t : Shift V O). t.stopped) ss) e in
        All-cons IsStopped s ss (stopped_one s (All-head (IsShift gives claims) s ss all) each.0) (stopped_all ss (All-tail (IsShift gives claims) s ss all) each.1)

    pub stopped_shifts : (shifts : List (Shift V O)) → All IsStopped shifts → All (IsShift gives claims) shifts
    stopped_shifts [] all = λ k d h. absurd (omega arith)
    stopped_shifts (s ∷ ss) all = All-cons (IsShift gives claims) s ss (stopped_shift s (All-head IsStopped s ss all)) (stopped_shifts ss (All-tail IsStopped s ss all))

  pub stopped_last : (before after : List (Shift V O)) (shift : Shift V O) → before ≡ after ++ shift ∷ [] → All IsStopped before → All IsStopped after × IsStopped shift
  stopped_last before after shift e all = All-pop IsStopped before after (Some shift) e all
