-- The first finding has the least fault number that has a place, at the first of its places.
use Rattle.std.proofs.Common.{◌≡◌, ◌∙◌, ◌<◌, ◌≤◌, ℕ, List, [], ◌∷◌, Option, Some, Bool, true, false, refl, sym, arith, nat_eq, if◌then◌else◌}
use Rattle.std.specs.Prelude.{nat_lt, fold}
use Rattle.oim_entries.specs.declared.fault.MetaFault.{MetaFault}
use Rattle.oim_meta.specs.declared.findings.Finding.{Finding}
use Rattle.oim_entries.specs.FaultNames.{fault_number}
use Rattle.oim_meta.specs.Findings.{sooner, first_of}
use Rattle.oim_meta.specs.FindingPlaces.{IsFirst, is_of, places_of}
use Rattle.oim_meta.specs.Paths.{Path}

-- The numbers are the same, or not.
same : (m n : ℕ) → m ≡ n → nat_eq m n ≡ true
same m n e = grind arith

differs : (m n : ℕ) → m < n → nat_eq m n ≡ false
differs m n e = grind arith

differs_up : (m n : ℕ) → n < m → nat_eq m n ≡ false
differs_up m n e = grind arith

lower : (m n : ℕ) → m ≤ n → nat_eq n m ≡ false → m < n
lower m n le ne = grind arith

lt_of : (m n : ℕ) → nat_lt m n ≡ true → m < n
lt_of m n e = grind arith

le_of : (m n : ℕ) → nat_lt m n ≡ false → n ≤ m
le_of m n e = grind arith

-- A finding of a greater number has no place of the fault e.
skip : (e : MetaFault) (x : Finding) (xs : List Finding) → fault_number e < fault_number x.fault → places_of e (x ∷ xs) ≡ places_of e xs
skip e x xs lt = rw (differs_up (fault_number x.fault) (fault_number e) lt) refl

-- The effect of the rest of a walk on the best finding so far.
abbrev IsBest : Finding → List Finding → Option Finding → Type 0
IsBest best xs r = (y : Finding) × (r ≡ Some y) × (fault_number y.fault ≤ fault_number best.fault) × IsFirst (best ∷ xs) (Some y)

one : (best : Finding) → IsFirst (best ∷ []) (Some best)
one best = (([], rw (same (fault_number best.fault) (fault_number best.fault) refl) refl), λ e lt. skip e best [] lt)

-- A finding with a greater number before the others changes nothing.
before : (best y : Finding) (xs : List Finding) → fault_number y.fault < fault_number best.fault → IsFirst xs (Some y) → IsFirst (best ∷ xs) (Some y)
before best y xs lt first = (
  (first.0.0, skip y.fault best xs lt ∙ first.0.1),
  λ e less. let far : fault_number e < fault_number best.fault = omega (arith, lt, less) in skip e best xs far ∙ first.1 e less,
)

-- A later finding that is not better.
after : (best y z : Finding) (xs : List Finding) → fault_number best.fault ≤ fault_number z.fault → fault_number y.fault ≤ fault_number best.fault
    → IsFirst (best ∷ xs) (Some y) → IsFirst (best ∷ z ∷ xs) (Some y)
after best y z xs le up first = (at (is_of y.fault best) refl, none)
  where
    none : (e : MetaFault) → fault_number e < fault_number y.fault → places_of e (best ∷ z ∷ xs) ≡ []
    none e less =
        let far : fault_number e < fault_number best.fault = omega (arith, up, less) in
        let farther : fault_number e < fault_number z.fault = omega (arith, le, far) in
        skip e best (z ∷ xs) far ∙ skip e z xs farther ∙ sym (skip e best xs far) ∙ first.1 e less

    at : (b : Bool) → is_of y.fault best ≡ b → (later : List Path) × (places_of y.fault (best ∷ z ∷ xs) ≡ y.place ∷ later)
    at true e =
        let here : best.place ∷ places_of y.fault xs ≡ y.place ∷ first.0.0 = rw e at first.0.1 in
        let place : best.place ≡ y.place = cc in
        (places_of y.fault (z ∷ xs), rw (e, place) refl)
    at false e =
        let less : fault_number y.fault < fault_number best.fault = lower (fault_number y.fault) (fault_number best.fault) up e in
        let far : fault_number y.fault < fault_number z.fault = omega (arith, le, less) in
        (first.0.0, skip y.fault best (z ∷ xs) less ∙ skip y.fault z xs far ∙ sym (skip y.fault best xs less) ∙ first.0.1)

best_of : (best : Finding) (xs : List Finding) → IsBest best xs (fold sooner (Some best) xs)
best_of best [] = (best, refl, omega arith, one best)
best_of best (z ∷ xs) = at (nat_lt (fault_number z.fault) (fault_number best.fault)) refl (best_of z xs) (best_of best xs)
  where
    at : (b : Bool) → nat_lt (fault_number z.fault) (fault_number best.fault) ≡ b → IsBest z xs (fold sooner (Some z) xs) → IsBest best xs (fold sooner (Some best) xs)
        → IsBest best (z ∷ xs) (fold sooner (if b then Some z else Some best) xs)
    at true e rest _ =
        let lt = lt_of (fault_number z.fault) (fault_number best.fault) e in
        let below : fault_number rest.0.fault < fault_number best.fault = omega (arith, lt, rest.2) in
        let up : fault_number rest.0.fault ≤ fault_number best.fault = omega (arith, below) in
        (rest.0, rest.1, up, before best rest.0 (z ∷ xs) below rest.3)
    at false e _ rest =
        let le = le_of (fault_number z.fault) (fault_number best.fault) e in
        (rest.0, rest.1, rest.2, after best rest.0 z xs le rest.2 rest.3)

pub is_first : (xs : List Finding) → IsFirst xs (first_of xs)
is_first [] = λ e. refl
is_first (x ∷ xs) = let best = best_of x xs in rw best.1 best.3
