-- Parameters: names with their values, in the order of their file.
use Rattle.std.specs.Prelude.{ℕ, List}

abbrev pub ParametersValue : Type 0
ParametersValue = List (List ℕ × List ℕ)
