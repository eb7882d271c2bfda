-- A cell: a row of a table of a report, and the index of a column. (xBRL-CSV 1.0, tables: each cell
-- of a fact column is a fact or none)
use Rattle.std.specs.Prelude.{◌<◌, ◌≡◌, ℕ, List, [], length, slice_index_or}
use Rattle.oim_cells.specs.Cells.{Meaning, meaning_of}
use Rattle.oim_report.specs.ReportValue.{ReportValue}
use Rattle.oim_report.specs.declared.data.Column.{Column}
use Rattle.oim_report.specs.declared.data.ColumnKind.TheVariants.{Fact}
use Rattle.oim_report.specs.Readers.{column_of, columns_of}
use Rattle.oim_resolve.specs.declared.fact.Row.{Row}

pub record Cell : Type 0 where
  pub report : ReportValue
  pub table : ℕ
  pub row : Row
  pub column : ℕ

abbrev pub cell_of : ReportValue → ℕ → Row → ℕ → Cell
cell_of report table row column = record { report = report; table = table; row = row; column = column }

abbrev pub column : Cell → Column
column c = column_of c.report c.table c.column

-- The indexes are in range, the row has a cell for each column, and the column holds facts.
pub record IsCell (c : Cell) : Type 0 where
  pub table : c.table < length c.report.tables
  pub column : c.column < length (columns_of c.report c.table)
  pub cells : length c.row.cells ≡ length (columns_of c.report c.table)
  pub fact : (column_of c.report c.table c.column).kind ≡ Fact

-- The text of the row's cell at an index.
abbrev pub text_at : Cell → ℕ → List ℕ
text_at c i = slice_index_or c.row.cells i []

abbrev pub meaning_at : Cell → ℕ → Meaning
meaning_at c i = meaning_of (text_at c i)
