-- What stays true when items are added to a list.
use Rattle.std.proofs.Common.{◌≡◌, ℕ, zero, suc, List, [], ◌∷◌, ◌++◌, length, Some, refl, sym, ap, ◌∙◌, append_assoc, append-nil, arith}
use Rattle.std.specs.List.{slice_get, All}
use Rattle.oim_row.specs.References.{Grows}

pub slice_get-append : {A : Type 0} (xs ys : List A) (i : ℕ) (x : A) → slice_get xs i ≡ Some x → slice_get (xs ++ ys) i ≡ Some x
slice_get-append [] ys i x e = absurd (cc)
slice_get-append (y ∷ xs) ys zero x e = e
slice_get-append (y ∷ xs) ys (suc i) x e = slice_get-append xs ys i x e

pub grows_none : {A : Type 0} (xs : List A) → Grows xs xs
grows_none xs = record { more = []; is = sym (append-nil xs) }

pub grows_twice : {A : Type 0} (xs ys zs : List A) → Grows xs ys → Grows ys zs → Grows xs zs
grows_twice xs ys zs p q = record { more = p.more ++ q.more; is = q.is ∙ ap (λ t. t ++ q.more) p.is ∙ append_assoc xs p.more q.more }

-- One more item.
pub all_push : {A : Type 0} (P : A → Type 0) (xs : List A) (x : A) → All P xs → P x → All P (xs ++ x ∷ [])
all_push P [] x p q zero d h = q
all_push P [] x p q (suc k) d h = absurd (omega arith)
all_push P (y ∷ xs) x p q zero d h = p zero d (omega arith)
all_push P (y ∷ xs) x p q (suc k) d h = all_push P xs x (λ j e b. p (suc j) e (omega arith)) q k d (omega arith)

pub slice_get-last : {A : Type 0} (xs : List A) (x : A) → slice_get (xs ++ x ∷ []) (length xs) ≡ Some x
slice_get-last [] x = refl
slice_get-last (y ∷ xs) x = slice_get-last xs x

pub all_append : {A : Type 0} (P : A → Type 0) (xs ys : List A) → All P xs → All P ys → All P (xs ++ ys)
all_append P [] ys p q k d h = q k d h
all_append P (x ∷ xs) ys p q zero d h = p zero d (omega arith)
all_append P (x ∷ xs) ys p q (suc k) d h = all_append P xs ys (λ j e b. p (suc j) e (omega arith)) q k d (omega arith)
