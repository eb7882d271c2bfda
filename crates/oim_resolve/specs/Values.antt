-- What a written property gives in a row: a literal, the row number, or the row's cell, or else a
-- parameter. (xBRL-CSV 1.0, column and parameter references, special values)
use Rattle.std.specs.Prelude.{ℕ, List, [], ◌∷◌, Option, Some, None, decimal, unwrap_or}
use Rattle.std.specs.Option.{option_or, option_and_then, option_map_or}
use Rattle.oim_cells.specs.Cells.{Meaning, meaning_of}
use Rattle.oim_cells.specs.Cells as m
use Rattle.oim_report.specs.Readers.{column_named, parameter_of}
use Rattle.oim_cells.specs.declared.cells.Accuracy.{Accuracy}
use Rattle.oim_report.specs.declared.data.Side.{Side}
use Rattle.oim_report.specs.declared.data.Side.TheVariants as side
use Rattle.oim_report.specs.declared.data.Written.{Written}
use Rattle.oim_report.specs.declared.data.Written.TheVariants as w
use Rattle.oim_report.specs.declared.data.WrittenDecimals.{WrittenDecimals}
use Rattle.oim_report.specs.declared.data.WrittenDecimals.TheVariants as d
use Rattle.oim_resolve.specs.Cell.{Cell, text_at}

-- A text, unless it is empty.
abbrev pub not_empty : List ℕ → Option (List ℕ)
not_empty [] = None
not_empty (b ∷ bs) = Some (b ∷ bs)

-- The text of the row's cell in the column with this name, if it is not empty.
abbrev pub text_in_row : Cell → List ℕ → Option (List ℕ)
text_in_row c n = option_and_then (λ i. not_empty (text_at c i)) (column_named c.report c.table n)

-- The meaning of what a reference names: the row's cell, else the table's parameter, else the
-- report's.
abbrev pub referred : Cell → List ℕ → Meaning
referred c n = option_map_or meaning_of (option_or (text_in_row c n) (parameter_of c.report c.table n)) m.Absent

-- A value that is written as a literal, the same in every row. None for a reference.
abbrev pub literal_of : Written → Option Meaning
literal_of w.Absent = Some m.Absent
literal_of w.Nil = Some m.Nil
literal_of w.Empty = Some m.Empty
literal_of (w.Text t) = Some (m.Text t)
literal_of (w.RowNumber s) = None
literal_of (w.Named n s) = None

-- The meaning of a reference in the row. A literal refers to nothing.
abbrev pub reference_value : Cell → Written → Meaning
reference_value c (w.RowNumber s) = m.Text (decimal c.row.number)
reference_value c (w.Named n s) = referred c n
reference_value c _ = m.Absent

-- The literal, or else the meaning of the reference.
abbrev pub value : Cell → Written → Meaning
value c x = unwrap_or (literal_of x) (reference_value c x)

-- The side of a duration that a reference asks for.
abbrev pub side_of : Written → Side
side_of (w.RowNumber s) = s
side_of (w.Named n s) = s
side_of _ = side.Whole

-- Written decimals give an accuracy, or a text that is read as one.
pub data Stated : Type 0 where
  Fixed : Accuracy → Stated
  Read : Meaning → Stated

abbrev pub decimals_value : Cell → WrittenDecimals → Stated
decimals_value c d.Absent = Read m.Absent
decimals_value c (d.Fixed a) = Fixed a
decimals_value c d.RowNumber = Read (m.Text (decimal c.row.number))
decimals_value c (d.Named n) = Read (referred c n)
