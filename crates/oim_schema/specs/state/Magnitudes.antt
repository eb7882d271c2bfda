-- The magnitudes of numbers with a sign.
use Rattle.std.specs.Prelude.{ℕ, ◌≤◌, IfSome}
use Rattle.oim_schema.specs.declared.integers.Magnitudes.{Magnitudes}

-- A magnitude is one of these.
abbrev pub IsWithin : Magnitudes → ℕ → Type 0
IsWithin m n = (m.least ≤ n) × IfSome m.most (λ most. n ≤ most)
