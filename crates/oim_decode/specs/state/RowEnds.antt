-- The rows of a piece in stretches, and where the facts of each row end in its stretch.
use Rattle.std.specs.Prelude.{◌≡◌, ℕ, ◌+◌, List, [], ◌∷◌, ◌++◌, get_or, length, take}
use Rattle.std.specs.List.{flat_map}
use Rattle.oim_resolve.specs.FactParts.{FactParts as Fact}

-- How many facts there are up to the end of each row, with n before the first row.
unfoldable pub counts_from : ℕ → List (List Fact) → List ℕ
counts_from n [] = []
counts_from n (row ∷ rows) = (n + length row) ∷ counts_from (n + length row) rows

-- The rows of the stretches, in order.
abbrev pub stretches : List (List (List Fact)) → List (List Fact)
stretches all = flat_map (λ rows. rows) all

-- The first `count` rows end in the stretch at place `at.0`, which has the last `at.1` of them,
-- whatever rows follow the stretches.
abbrev pub IsEndIn : List (List (List Fact)) → ℕ → ℕ × ℕ → Type 0
IsEndIn full count at = (last : List (List Fact)) → take count (stretches full ++ last) ≡ stretches (take at.0 full) ++ take at.1 (get_or full at.0 last)
