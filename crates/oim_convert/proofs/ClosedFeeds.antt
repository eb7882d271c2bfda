-- The closed feeds and lists while the drains are settled one after another.
use Rattle.std.specs.Prelude.{◌≡◌, ℕ, ◌+◌, ◌<◌, zero, suc, List, [], ◌∷◌, ◌++◌, Option, Some, None, length, slice_get, slice_set, map}
use Rattle.std.proofs.Common.{arith, ap, sym, ◌∙◌, subst, append_assoc}
use Rattle.std.proofs.lemmas.Option.{slice_get-get_or}
use Rattle.std.proofs.Common.{get_or}
use Rattle.oim_convert.specs.Tasks.{Each}

-- Emptying a place keeps the others.
pub closed_kept : {X : Type 0} (xs : List (Option X)) (i k : ℕ) (x : X) → slice_get (slice_set xs i None) k ≡ Some (Some x) → slice_get xs k ≡ Some (Some x)
closed_kept [] i k x e = absurd (cc)
closed_kept (y ∷ ys) zero zero x e = absurd (cc)
closed_kept (y ∷ ys) zero (suc k) x e = e
closed_kept (y ∷ ys) (suc i) zero x e = e
closed_kept (y ∷ ys) (suc i) (suc k) x e = closed_kept ys i k x e

pub closed_read : {X : Type 0} (xs : List (Option X)) (i : ℕ) (d : Option X) (x : X) → i < length xs → get_or xs i d ≡ Some x → slice_get xs i ≡ Some (Some x)
closed_read xs i d x lt e = slice_get-get_or xs i d lt ∙ ap (λ o. Some o) e

pub each_first : {X : Type 0} (P : ℕ → X → Type 0) (n : ℕ) (x : X) (xs ys : List X) → ys ≡ x ∷ xs → Each P n ys → P n x × Each P (suc n) xs
each_first {X} P n x xs ys e each = subst (λ (l : List X). Each P n l) e each

pub each_more : {X : Type 0} (P : ℕ → X → Type 0) (n : ℕ) (xs : List X) (y : X) → Each P n xs → P (n + length xs) y → Each P n (xs ++ y ∷ [])
each_more P n [] y each here = (let e : n + 0 ≡ n = omega arith in subst (λ (m : ℕ). P m y) e here, tt)
each_more P n (x ∷ xs) y each here =
    (each.0, each_more P (suc n) xs y each.1 (let e : n + length (x ∷ xs) ≡ suc n + length xs = omega arith in subst (λ (m : ℕ). P m y) e here))

pub map_one : {X Y : Type 0} (f : X → Y) (done : List Y) (x : X) (xs ys : List X) (y : Y) → ys ≡ x ∷ xs → y ≡ f x → done ++ map f ys ≡ (done ++ y ∷ []) ++ map f xs
map_one f done x xs ys y e here = ap (λ l. done ++ map f l) e ∙ (ap (λ z. done ++ (z ∷ map f xs)) (sym here) ∙ sym (append_assoc done (y ∷ []) (map f xs)))
