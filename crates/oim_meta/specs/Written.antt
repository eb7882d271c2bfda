-- A dimension's value as the metadata writes it (xBRL-CSV 1.0: literals, parameter references and
-- row numbers; its special values).
use Rattle.std.specs.Prelude.{ℕ, ◌-◌, List, bytes_eq, nat_eq, length, take, drop, Option, Some, None, codes, if◌then◌else◌}
use Rattle.std.specs.List.{starts_with, ends_with}
use Rattle.oim_cells.specs.Cells.{Meaning, meaning_of}
use Rattle.oim_cells.specs.Cells as meaning
use Rattle.oim_report.specs.declared.data.Side.{Side}
use Rattle.oim_report.specs.declared.data.Side.TheVariants.{Whole, Start, End}
use Rattle.oim_report.specs.declared.data.Written.{Written}
use Rattle.oim_report.specs.declared.data.Written.TheVariants.{Absent, Nil, Empty, Text, RowNumber, Named}

-- The text after the prefix p.
unfoldable pub strip_front : List ℕ → List ℕ → Option (List ℕ)
strip_front p s = if starts_with nat_eq s p then Some (drop (length p) s) else None

-- The text before the suffix p.
unfoldable pub strip_back : List ℕ → List ℕ → Option (List ℕ)
strip_back p s = if ends_with nat_eq s p then Some (take (length s - length p) s) else None

-- The number of the row, or the value of a name.
abbrev pub named : List ℕ → Side → Written
named name side = if bytes_eq name (codes "rowNumber") then RowNumber side else Named name side

abbrev pub or_whole : List ℕ → Option (List ℕ) → Option (List ℕ) → List ℕ × Side
or_whole text (Some front) end = (front, Start)
or_whole text None (Some front) = (front, End)
or_whole text None None = (text, Whole)

-- A reference without its dollar sign: a name and a side. Only the key period can have a side.
unfoldable pub name_and_side : List ℕ → List ℕ → List ℕ × Side
name_and_side key text =
    if bytes_eq key (codes "period") then or_whole text (strip_back (codes "@start") text) (strip_back (codes "@end") text) else (text, Whole)

-- The value that such a reference writes.
abbrev pub reference_of : List ℕ → List ℕ → Written
reference_of key text = named (name_and_side key text).0 (name_and_side key text).1

-- A literal by its meaning. An unknown one is a fault.
abbrev pub literal_by : Meaning → Written
literal_by meaning.Absent = Absent
literal_by meaning.Nil = Nil
literal_by meaning.Empty = Empty
literal_by (meaning.Text s) = Text s
literal_by meaning.Unknown = Absent

abbrev pub unless_dollar : List ℕ → List ℕ → Option (List ℕ) → Written
unless_dollar key rest (Some doubled) = Text rest
unless_dollar key rest None = reference_of key rest

abbrev pub by_dollar : List ℕ → List ℕ → Option (List ℕ) → Written
by_dollar key s (Some rest) = unless_dollar key rest (strip_front (codes "$") rest)
by_dollar key s None = literal_by (meaning_of s)

-- The value that a text writes at a dimension's key. Two dollar signs begin a literal text, one
-- begins a reference, and other texts are literals.
abbrev pub written_of : List ℕ → List ℕ → Written
written_of key s = by_dollar key s (strip_front (codes "$") s)
