-- Dimensions that are not well-formed (xBRL-CSV 1.0: dimensions and their values; special values;
-- references).
use Rattle.std.specs.Prelude.{ℕ, List, Bool, true, false, not, ◌||◌, ◌&&◌, bytes_eq, Option, Some, None, option_and_then, codes}
use Rattle.serde_json.specs.Data.{Data}
use Rattle.oim_names.specs.Bindings.{Bindings}
use Rattle.oim_names.specs.Names.{is_identifier}
use Rattle.oim_names.specs.QName.{qname_of}
use Rattle.oim_cells.specs.Cells.{Meaning, meaning_of}
use Rattle.oim_cells.specs.Cells as meaning
use Rattle.oim_report.specs.Types.{TypesValue, kind_in}
use Rattle.oim_report.specs.declared.kind.Kind.{Kind}
use Rattle.oim_report.specs.declared.kind.Kind.TheVariants.{Number, Text, Boolean, Date, Name, Other, Explicit, Typed, Concept, TypedBy, Member}
use Rattle.oim_meta.specs.Members.{is_text, text_of, section, any_member}
use Rattle.oim_meta.specs.Levels.{any_level}
use Rattle.oim_meta.specs.Prefixes.{prefixes_of}
use Rattle.oim_meta.specs.Written.{strip_front, name_and_side}

-- A core dimension.
abbrev pub is_core : List ℕ → Bool
is_core key =
    bytes_eq key (codes "concept") || bytes_eq key (codes "entity") || bytes_eq key (codes "period") || bytes_eq key (codes "unit") || bytes_eq key (codes "language")

-- The kind of the concept or dimension that a key names as a QName.
abbrev pub kind_named : TypesValue → Bindings → List ℕ → Option Kind
kind_named types names key = option_and_then (λ n. kind_in types n.0 n.1) (qname_of names key)

abbrev pub is_typed : Option Kind → Bool
is_typed None = false
is_typed (Some (Number n)) = false
is_typed (Some Text) = false
is_typed (Some Boolean) = false
is_typed (Some Date) = false
is_typed (Some Name) = false
is_typed (Some Other) = false
is_typed (Some Explicit) = false
is_typed (Some Typed) = true
is_typed (Some (Concept c)) = false
is_typed (Some (TypedBy t)) = true
is_typed (Some Member) = false

abbrev pub is_dimension : Option Kind → Bool
is_dimension None = false
is_dimension (Some (Number n)) = false
is_dimension (Some Text) = false
is_dimension (Some Boolean) = false
is_dimension (Some Date) = false
is_dimension (Some Name) = false
is_dimension (Some Other) = false
is_dimension (Some Explicit) = true
is_dimension (Some Typed) = true
is_dimension (Some (Concept c)) = false
is_dimension (Some (TypedBy t)) = true
is_dimension (Some Member) = false

-- An unknown special value, or nil or empty where it is not allowed.
abbrev pub is_bad_meaning : Option Kind → Meaning → Bool
is_bad_meaning kind meaning.Absent = false
is_bad_meaning kind meaning.Nil = not (is_typed kind)
is_bad_meaning kind meaning.Empty = not (is_typed kind)
is_bad_meaning kind (meaning.Text t) = false
is_bad_meaning kind meaning.Unknown = true

-- After a dollar sign, a second one begins a literal text. Anything else must be a reference.
abbrev pub is_bad_reference : List ℕ → List ℕ → Option (List ℕ) → Bool
is_bad_reference key rest (Some doubled) = false
is_bad_reference key rest None = not (is_identifier (name_and_side key rest).0)

abbrev pub is_bad_by_dollar : Option Kind → List ℕ → List ℕ → Option (List ℕ) → Bool
is_bad_by_dollar kind key s (Some rest) = is_bad_reference key rest (strip_front (codes "$") rest)
is_bad_by_dollar kind key s None = is_bad_meaning kind (meaning_of s)

-- A text that is neither a reference nor a literal of the key.
abbrev pub is_bad_text : Option Kind → List ℕ → List ℕ → Bool
is_bad_text kind key s = is_bad_by_dollar kind key s (strip_front (codes "$") s)

-- The key is neither core nor a dimension of the types; or the value is not a text, or neither a
-- reference nor a literal.
unfoldable pub is_bad_dimension : TypesValue → Bindings → List ℕ → Data → Bool
is_bad_dimension types names key d =
    (not (is_core key) && not (is_dimension (kind_named types names key))) || not (is_text d) || is_bad_text (kind_named types names key) key (text_of d)

-- Some dimension of one level is bad.
abbrev pub has_bad_dimension : TypesValue → Bindings → Data → Bool
has_bad_dimension types names d = any_member (is_bad_dimension types names) (section (codes "dimensions") d)

-- 11: a bad dimension of report, template, column or property group.
unfoldable pub has_bad_dimensions : TypesValue → Data → Bool
has_bad_dimensions types d = any_level (has_bad_dimension types (prefixes_of d)) (has_bad_dimension types (prefixes_of d)) d
