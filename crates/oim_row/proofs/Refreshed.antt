-- One slot refreshed after another.
use Rattle.std.proofs.Common.{◌≡◌, ◌<◌, ◌+◌, ℕ, zero, suc, List, [], ◌∷◌, length, map, get_or, set, refl, ap, subst, ◌∙◌, arith}
use Rattle.std.specs.List.{All}

pub set_map : {A B : Type 0} (f : A → B) (xs : List A) (i : ℕ) (x y : A) → i < length xs → x ≡ get_or xs i x → f y ≡ f x → map f (set xs i y) ≡ map f xs
set_map f [] i x y b is e = refl
set_map f (z ∷ xs) zero x y b is e = ap (λ q. q ∷ map f xs) (e ∙ ap f is)
set_map f (z ∷ xs) (suc i) x y b is e = ap (λ q. f z ∷ q) (set_map f xs i x y (omega arith) is e)

pub set_below : {A : Type 0} (P : A → Type 0) (xs : List A) (i : ℕ) (y : A) → i < length xs → ((k : ℕ) (d : A) → k < i → P (get_or xs k d))
    → P y → (k : ℕ) (d : A) → k < suc i → P (get_or (set xs i y) k d)
set_below P [] i y b p q k d h = absurd (omega arith)
set_below P (z ∷ xs) zero y b p q zero d h = q
set_below P (z ∷ xs) zero y b p q (suc k) d h = absurd (omega arith)
set_below P (z ∷ xs) (suc i) y b p q zero d h = p zero d (omega arith)
set_below P (z ∷ xs) (suc i) y b p q (suc k) d h = set_below P xs i y (omega arith) (λ j e g. p (suc j) e (omega arith)) q k d (omega arith)

pub set_all : {A : Type 0} (P : A → Type 0) (xs : List A) (i : ℕ) (y : A) → All P xs → P y → All P (set xs i y)
set_all P [] i y p q k d h = p k d h
set_all P (z ∷ xs) zero y p q zero d h = q
set_all P (z ∷ xs) zero y p q (suc k) d h = p (suc k) d h
set_all P (z ∷ xs) (suc i) y p q zero d h = p zero d (omega arith)
set_all P (z ∷ xs) (suc i) y p q (suc k) d h = set_all P xs i y (λ j e g. p (suc j) e (omega arith)) q k d (omega arith)

-- One more item is read.
pub below_more : {A : Type 0} (P : A → Type 0) (xs : List A) (i : ℕ) (x : A) → i < length xs → x ≡ get_or xs i x → ((k : ℕ) (d : A) → k < i → P (get_or xs k d))
    → P x → (k : ℕ) (d : A) → k < i + 1 → P (get_or xs k d)
below_more P [] i x b is p q k d h = absurd (omega arith)
below_more P (z ∷ xs) zero x b is p q zero d h = subst P is q
below_more P (z ∷ xs) zero x b is p q (suc k) d h = absurd (omega arith)
below_more P (z ∷ xs) (suc i) x b is p q zero d h = p zero d (omega arith)
below_more P (z ∷ xs) (suc i) x b is p q (suc k) d h = below_more P xs i x (omega arith) is (λ j e g. p (suc j) e (omega arith)) q k d (omega arith)
