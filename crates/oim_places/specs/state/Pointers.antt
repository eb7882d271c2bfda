-- A character of a pointer, as it is or as it is shown.
use Rattle.std.specs.Prelude.{ℕ, Bool, true, false, List}
use Rattle.oim_places.specs.Shown.{shown_char}
use Rattle.oim_places.specs.Pointers.{pointer_char}

-- A character of a key, or as it is shown.
abbrev pub char_of : Bool → ℕ → List ℕ
char_of true c = pointer_char c
char_of false c = shown_char c
