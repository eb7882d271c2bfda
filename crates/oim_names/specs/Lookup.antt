-- Lists of names with values, such as JSON objects and namespaces, and the lookup of a name in
-- them.
use Rattle.std.specs.Prelude.{ℕ, List, [], ◌∷◌, Option, Some, None, if◌then◌else◌}
use Rattle.std.specs.Str.{bytes_eq}

-- The value of a name: the first if the name occurs more than once.
abbrev pub value_at : {V : Type 0} → List ℕ → List (List ℕ × V) → Option V
value_at n [] = None
value_at n (e ∷ es) = if bytes_eq e.0 n then Some e.1 else value_at n es
