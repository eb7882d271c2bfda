-- The bytes of a text, in its own string or shared.
use Rattle.std.specs.Prelude.{ℕ, List}
use Rattle.std.specs.String.{string_bytes}
use Rattle.std.specs.Arc.{arc_str_bytes}
use Rattle.oim_names.specs.declared.text.Body.{Body}
use Rattle.oim_names.specs.declared.text.Body.TheVariants.{Alone, Shared}

abbrev pub bytes_in : Body → List ℕ
bytes_in (Alone string) = string_bytes string
bytes_in (Shared text) = arc_str_bytes text
