-- Digits at the start of a text.
use Rattle.std.specs.Prelude.{ℕ, List, [], ◌∷◌, if◌then◌else◌}
use Rattle.std.specs.Int.{is_in_range}

-- The text without the digits at its start that are up to a greatest digit.
abbrev pub after_digits : ℕ → List ℕ → List ℕ
after_digits most [] = []
after_digits most (c ∷ cs) = if is_in_range 48 most c then after_digits most cs else c ∷ cs
