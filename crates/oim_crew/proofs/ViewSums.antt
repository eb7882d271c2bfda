-- Sums over views, whose terms are read by `get_elem?`.
use Rattle.std.proofs.Common.{◌≡◌, ℕ, zero, suc, ◌+◌, ◌≤◌, List, [], ◌∷◌, set, sym, refl, ap, ⊎_elim, arith, subst}
use Rattle.std.specs.List.{sum_by}
use Rattle.std.proofs.lemmas.List.Sums.{sum_by-cons}
use mathlib.Core.Option.{some, some-injective, some-ne-none}
use lib.ListN.{get_elem?}
use Rattle.atomic_table.proofs.Lists.{at_set}

module _ {A : Type 0} (f : A → ℕ) where
  -- The sum after one term changed.
  pub sum-set : (l : List A) (i : ℕ) (v w : A) → get_elem? l i ≡ some v → sum_by f (set l i w) + f v ≡ sum_by f l + f w
  sum-set [] i v w e = absurd (some-ne-none v (sym e))
  sum-set (x ∷ xs) zero v w e = let is : f x ≡ f v = ap f (some-injective x v e) in omega (arith, sum_by-cons f x xs, sum_by-cons f w xs)
  sum-set (x ∷ xs) (suc i) v w e = omega (arith, sum_by-cons f x xs, sum_by-cons f x (set xs i w), sum-set xs i v w e)

module _ {A : Type 0} (f g : A → ℕ) where
  pub sum-le : (l : List A) → ((i : ℕ) (v : A) → get_elem? l i ≡ some v → f v ≤ g v) → sum_by f l ≤ sum_by g l
  sum-le [] h = omega arith
  sum-le (x ∷ xs) h = let here : f x ≤ g x = h 0 x refl in let there : sum_by f xs ≤ sum_by g xs = sum-le xs (λ i v. h (suc i) v) in
      omega (arith, sum_by-cons f x xs, sum_by-cons g x xs)

  -- If the sum of g is 0, and f is 0 wherever g is, the sum of f is 0.
  pub sum-none : (l : List A) → sum_by g l ≡ 0 → ((i : ℕ) (v : A) → get_elem? l i ≡ some v → g v ≡ 0 → f v ≡ 0) → sum_by f l ≡ 0
  sum-none [] e h = refl
  sum-none (x ∷ xs) e h = let cons = sum_by-cons g x xs in let here : f x ≡ 0 = h 0 x refl (omega arith) in
      let there : sum_by f xs ≡ 0 = sum-none xs (omega arith) (λ i v. h (suc i) v) in omega (arith, sum_by-cons f x xs)

  -- A term that has all of the sum of g has all of the sum of f.
  pub sum-only : (blank : A) → f blank ≡ 0 → g blank ≡ 0 → (l : List A) (i : ℕ) (v : A) → get_elem? l i ≡ some v → sum_by g l ≡ g v
      → ((j : ℕ) (u : A) → get_elem? l j ≡ some u → g u ≡ 0 → f u ≡ 0) → sum_by f l ≡ f v
  sum-only blank fb gb l i v at all h =
      let p = sum-set f l i v blank at in let q = sum-set g l i v blank at in
      let none : sum_by f (set l i blank) ≡ 0 = sum-none (set l i blank) (omega arith)
      (λ j u e. ⊎_elim (λ t. λ _. subst (λ (y : A). f y ≡ 0) t.1 fb) (λ t. h j u t.1) (at_set l i j blank u e)) in
      omega arith
