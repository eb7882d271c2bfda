-- The value that a text of the metadata writes for a dimension, as a relation (xBRL-CSV 1.0:
-- literals, parameter references and row numbers; its special values). A text that writes no value
-- is a fault.
use Rattle.std.specs.Prelude.{◌≡◌, ℕ, List, ◌++◌, codes, nat_eq, true, false, Option, Some}
use Rattle.std.specs.List.{starts_with}
use Rattle.oim_names.specs.Names.{is_identifier}
use Rattle.oim_cells.specs.Cells.{Meaning, meaning_of}
use Rattle.oim_cells.specs.Cells as meaning
use Rattle.oim_report.specs.declared.kind.Kind.{Kind}
use Rattle.oim_report.specs.declared.kind.Kind.TheVariants.{Typed, TypedBy}
use Rattle.oim_report.specs.declared.kind.SimpleType.{SimpleType}
use Rattle.oim_report.specs.declared.data.Side.TheVariants.{Whole, Start, End}
use Rattle.oim_report.specs.declared.data.Written.{Written}
use Rattle.oim_report.specs.declared.data.Written.TheVariants.{Absent, Nil, Empty, Text}
use Rattle.oim_meta.specs.Written.{named}

-- A typed dimension: of any text, or of a simple type.
pub data IsTyped : Kind → Type 0 where
  of_text : IsTyped Typed
  of_type : (type : SimpleType) → IsTyped (TypedBy type)

-- A literal by its meaning, for a dimension of this kind. Nil and empty are values of typed
-- dimensions only.
pub data IsLiteral : Option Kind → Meaning → Written → Type 0 where
  absent : (kind : Option Kind) → IsLiteral kind meaning.Absent Absent
  nil : (kind : Kind) → IsTyped kind → IsLiteral (Some kind) meaning.Nil Nil
  empty : (kind : Kind) → IsTyped kind → IsLiteral (Some kind) meaning.Empty Empty
  text : (kind : Option Kind) (t : List ℕ) → IsLiteral kind (meaning.Text t) (Text t)

-- The text writes the value at this key: a literal, a literal that begins with a dollar sign, which
-- is doubled, or a reference. Only a reference at the key period may have a side. A reference names
-- the number of the row, a column or a parameter.
pub data Writes : Option Kind → List ℕ → List ℕ → Written → Type 0 where
  literal : (kind : Option Kind) (key t : List ℕ) (value : Written) → starts_with nat_eq t (codes "$") ≡ false → IsLiteral kind (meaning_of t) value
      → Writes kind key t value
  doubled : (kind : Option Kind) (key rest : List ℕ) → Writes kind key (codes "$$" ++ rest) (Text (codes "$" ++ rest))
  reference : (kind : Option Kind) (key name : List ℕ) → is_identifier name ≡ true → Writes kind key (codes "$" ++ name) (named name Whole)
  at_start : (kind : Option Kind) (name : List ℕ) → is_identifier name ≡ true
      → Writes kind (codes "period") (codes "$" ++ name ++ codes "@start") (named name Start)
  at_end : (kind : Option Kind) (name : List ℕ) → is_identifier name ≡ true
      → Writes kind (codes "period") (codes "$" ++ name ++ codes "@end") (named name End)
