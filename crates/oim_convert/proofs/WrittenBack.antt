-- A list written back as a whole.
use Rattle.std.specs.Prelude.{◌≡◌, ℕ, List, [], ◌++◌, length, take, drop}
use Rattle.std.proofs.Common.{arith, ap, ◌∙◌}
use Rattle.std.proofs.Common.{append-nil}
use Rattle.std.proofs.Math.ListN.{drop_of_length-le}
use Rattle.std.proofs.lemmas.List.{take_all}

pub written_back : {X : Type 0} (n : ℕ) (xs ys : List X) → length xs ≡ length ys → n ≡ length ys → take n (xs ++ drop (length xs) ys) ≡ xs
written_back {X} n xs ys same whole =
    let none : drop (length xs) ys ≡ [] = drop_of_length-le ys {i = length xs} (omega arith) in
    let all : xs ++ drop (length xs) ys ≡ xs = ap (λ l. xs ++ l) none ∙ append-nil xs in
    ap (λ l. take n l) all ∙ take_all n xs (omega arith)
