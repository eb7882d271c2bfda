-- The forms of simple types, for the cells of facts and for typed dimensions. (XML Schema Part 2,
-- second edition: the lexical space of each type)
use Rattle.std.specs.Prelude.{ℕ, List, Bool, false, Option, Some, None, is_none, is_some}
use Rattle.oim_names.specs.Bindings.{Bindings}
use Rattle.oim_names.specs.Language.{is_language}
use Rattle.oim_names.specs.Names.{is_ncname}
use Rattle.oim_names.specs.QName.{qname_of}
use Rattle.oim_cells.specs.Boolean.{is_boolean_text}
use Rattle.oim_cells.specs.Cells.{numeral_of}
use Rattle.oim_cells.specs.declared.cells.Accuracy.{Accuracy}
use Rattle.oim_report.specs.declared.kind.SimpleType.{SimpleType}
use Rattle.oim_report.specs.declared.kind.SimpleType.TheVariants as simple
use Rattle.oim_schema.specs.DatesTimes.{is_date_form}
use Rattle.oim_schema.specs.Durations.{is_duration}
use Rattle.oim_schema.specs.HexBinary.{is_hex_binary}
use Rattle.oim_schema.specs.Integers.{is_bounded_integer}

-- A numeral without a suffix.
abbrev pub is_bare : Option (List ℕ × Option Accuracy) → Bool
is_bare None = false
is_bare (Some p) = is_none p.1

-- A text that is trimmed of blanks has the form of a type.
abbrev pub has_simple_form : Bindings → SimpleType → List ℕ → Bool
has_simple_form names (simple.Number n) t = is_bare (numeral_of n t)
has_simple_form names (simple.Bounded b) t = is_bounded_integer b t
has_simple_form names simple.Boolean t = is_boolean_text t
has_simple_form names simple.QName t = is_some (qname_of names t)
has_simple_form names (simple.DateTime f) t = is_date_form f t
has_simple_form names simple.Duration t = is_duration t
has_simple_form names simple.Language t = is_language t
has_simple_form names simple.NcName t = is_ncname t
has_simple_form names simple.HexBinary t = is_hex_binary t
