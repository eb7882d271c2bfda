-- The cells of a row, as they are read.
use Rattle.std.specs.Prelude.{ℕ}
use Rattle.oim_resolve.specs.Cell.{Cell, cell_of}
use Rattle.oim_row.specs.Rows.{RowValue, row_in}

-- The cell of a column in the row.
abbrev pub cell_in : RowValue → ℕ → Cell
cell_in x c = cell_of x.header.report x.header.table (row_in x) c
