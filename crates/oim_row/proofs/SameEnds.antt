-- Texts whose first and last bytes are the same.
use Rattle.std.proofs.Common.{◌≡◌, ◌+◌, ◌-◌, ◌≤◌, ◌++◌, ℕ, List, length, slice_range, drop, ap, sym, ◌∙◌, arith}
use Rattle.std.proofs.lemmas.List.{drop-drop, length-drop, take_all}
use Rattle.std.proofs.lemmas.List.Folds.{drop_split}

-- The last n bytes, as the end of the last k bytes.
rest : (k n : ℕ) (xs : List ℕ) → length xs ≡ n + k → n ≤ k → drop (0 + k) xs ≡ drop (k - n) (slice_range xs n (n + k))
rest k n xs lx few = sym (
    ap (drop (k - n)) (take_all (n + k - n) (drop n xs) (omega (arith, length-drop n xs, lx)))
    ∙ drop-drop (k - n) n xs
    ∙ ap (λ (i : ℕ). drop i xs) (omega (arith, few)))

-- Texts of the same length whose first and last k bytes are the same, and that have no other bytes.
pub same_ends : (k n : ℕ) (xs ys : List ℕ) → length xs ≡ n + k → length ys ≡ n + k → n ≤ k
    → slice_range xs 0 (0 + k) ≡ slice_range ys 0 (0 + k) → slice_range xs n (n + k) ≡ slice_range ys n (n + k) → xs ≡ ys
same_ends k n xs ys lx ly few first last =
    drop_split xs 0 (0 + k) (omega arith)
    ∙ ap (λ (f : List ℕ). f ++ drop (0 + k) xs) first
    ∙ ap (λ (r : List ℕ). slice_range ys 0 (0 + k) ++ r) (rest k n xs lx few ∙ ap (drop (k - n)) last ∙ sym (rest k n ys ly few))
    ∙ sym (drop_split ys 0 (0 + k) (omega arith))
