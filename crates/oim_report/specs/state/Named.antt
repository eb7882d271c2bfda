-- Values by name, as the program keeps them.
use Rattle.std.specs.Prelude.{◌≡◌, ℕ, List, ◌&&◌, Option, Some, if◌then◌else◌, map}
use Rattle.std.specs.List.{AllByRecursion}
use Rattle.std.specs.Option.{option_and_then, unwrap_or}
use Rattle.std.specs.Str.{bytes_eq}
use Rattle.oim_names.specs.Lookup.{value_at}

-- A look-up finds what was added, and each value that was added.
abbrev pub AreFound : {V : Type 0} → (List ℕ → Option V) → List (List ℕ × V) → Type 0
AreFound find added = ((name : List ℕ) → find name ≡ value_at name added) × AllByRecursion (λ e. find e.0 ≡ Some e.1) added

-- What a look-up finds after a value was added.
abbrev pub found_more : {V : Type 0} → (List ℕ → Option V) → List ℕ → V → List ℕ → Option V
found_more find name value n = if bytes_eq name n then Some value else find n

-- The values with another value of a name.
abbrev pub with_value : {V : Type 0} → List (List ℕ × V) → List ℕ → V → List (List ℕ × V)
with_value added name value = map (λ e. (e.0, if bytes_eq name e.0 then value else e.1)) added

-- The values that a look-up finds, with their names in the order of others.
abbrev pub copied : {V : Type 0} → (List ℕ → Option V) → List (List ℕ × V) → List (List ℕ × V)
copied find others = map (λ e. (e.0, unwrap_or (find e.0) e.1)) others

-- Values by name, in groups that have names too.
abbrev pub Grouped : Type 0 → Type 0
Grouped V = List (List ℕ × List (List ℕ × V))

-- The value of a name in a group.
abbrev pub value_under : {V : Type 0} → Grouped V → List ℕ → List ℕ → Option V
value_under groups group name = option_and_then (value_at name) (value_at group groups)

-- `new` extends some groups by a name in a group: this name has the value there, and every other
-- name has what it had.
abbrev pub ExtendsUnder : {V : Type 0} → Grouped V → List ℕ → List ℕ → V → Grouped V → Type 0
ExtendsUnder groups group name v new =
    (g n : List ℕ) → value_under new g n ≡ (if bytes_eq group g && bytes_eq name n then Some v else value_under groups g n)
