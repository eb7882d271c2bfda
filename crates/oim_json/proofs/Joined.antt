-- Texts joined by commas, one more at the end.
use Rattle.std.proofs.Common.{◌≡◌, ℕ, ◌+◌, ◌<◌, List, [], ◌∷◌, ◌++◌, length, take, get_or, map, refl, sym, ap, ◌∙◌, arith, append_assoc}
use Rattle.std.proofs.lemmas.List.{take_more, map-append, length-map, length-take-le}
use Rattle.std.specs.Prelude.{Some}
use Rattle.std.specs.List.{slice_get}
use Rattle.std.proofs.lemmas.Option.{slice_get_within, get_or_from_slice_get}
use Rattle.oim_json.specs.JsonText.{joined}
use Rattle.oim_json.specs.state.Writing.{comma_before}

joined-push : (xs : List (List ℕ)) (y : List ℕ) → joined (xs ++ y ∷ []) ≡ joined xs ++ (comma_before (length xs) ++ y)
joined-push [] y = refl
joined-push (x ∷ []) y = refl
joined-push (x ∷ z ∷ xs) y = ap (λ t. x ++ (44 ∷ t)) (joined-push (z ∷ xs) y) ∙ sym (append_assoc x (44 ∷ joined (z ∷ xs)) (44 ∷ y))

-- One step of a loop that writes the items of xs.
pub joined-more : {X : Type 0} (f : X → List ℕ) (xs : List X) (i : ℕ) (d : X) → i < length xs
    → joined (map f (take (i + 1) xs)) ≡ joined (map f (take i xs)) ++ (comma_before i ++ f (get_or xs i d))
joined-more f xs i d h =
    let short : i ≡ length (map f (take i xs)) = sym (length-map (take i xs) f ∙ length-take-le i xs (omega arith)) in
    ap (λ ys. joined (map f ys)) (take_more xs i d h) ∙ ap joined (map-append f (take i xs) (get_or xs i d ∷ []))
    ∙ joined-push (map f (take i xs)) (f (get_or xs i d)) ∙ ap (λ n. joined (map f (take i xs)) ++ (comma_before n ++ f (get_or xs i d))) (sym short)

-- The same, by the item at the index.
pub joined_got : {X : Type 0} (f : X → List ℕ) (xs : List X) (i : ℕ) (x : X) → slice_get xs i ≡ Some x
    → joined (map f (take (i + 1) xs)) ≡ joined (map f (take i xs)) ++ (comma_before i ++ f x)
joined_got f xs i x got =
    joined-more f xs i x (slice_get_within xs i x got) ∙ ap (λ y. joined (map f (take i xs)) ++ (comma_before i ++ f y)) (get_or_from_slice_get xs i x x got)
