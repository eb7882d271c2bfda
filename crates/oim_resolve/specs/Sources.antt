-- Where the value of a reference comes from: the row's cell in the column of this name if it is not
-- empty, or else a parameter of this name. (xBRL-CSV 1.0, column and parameter references)
use Rattle.std.specs.Prelude.{ℕ, List, Option, Some, None}
use Rattle.std.specs.Option.{option_and_then, option_map, option_map_or}
use Rattle.oim_cells.specs.Cells.{Meaning, meaning_of}
use Rattle.oim_cells.specs.Cells as m
use Rattle.oim_report.specs.Readers.{column_named, parameter_of}
use Rattle.oim_resolve.specs.Cell.{Cell, meaning_at, text_at}
use Rattle.oim_resolve.specs.Values.{not_empty}
use Rattle.oim_resolve.specs.declared.cell.sources.CellSource.{CellSource}
use Rattle.oim_resolve.specs.declared.cell.sources.CellSource.TheVariants as source

-- The place of the column of this name, if the row's cell there is not empty.
abbrev pub cell_named : Cell → List ℕ → Option ℕ
cell_named c n = option_and_then (λ i. option_map (λ _. i) (not_empty (text_at c i))) (column_named c.report c.table n)

-- A parameter, if it is there.
abbrev pub parameter_source : Option (List ℕ) → CellSource
parameter_source (Some t) = source.Parameter
parameter_source None = source.Nothing

abbrev pub source_of : Cell → List ℕ → CellSource
source_of c n = option_map_or source.Cell (cell_named c n) (parameter_source (parameter_of c.report c.table n))

-- The value that a name has from a source.
abbrev pub value_from : Cell → List ℕ → CellSource → Meaning
value_from c n (source.Cell i) = meaning_at c i
value_from c n source.Parameter = option_map_or meaning_of (parameter_of c.report c.table n) m.Absent
value_from c n source.Nothing = m.Absent
