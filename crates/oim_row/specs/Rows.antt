-- A row of a table, as its cells are read. (xBRL-CSV 1.0, table files)
use Rattle.std.specs.Prelude.{ℕ, List}
use Rattle.oim_records.specs.Grids.{Record}
use Rattle.oim_report.specs.Readers.{column_of, columns_of}
use Rattle.oim_report.specs.declared.data.Column.{Column}
use Rattle.oim_resolve.specs.declared.fact.Row.{Row}
use Rattle.oim_rows.specs.RowFacts.{TableHeaderValue, row_of}

-- A row of a table: its table's header, its number, and its fields under the header.
pub record RowValue : Type 0 where
  pub header : TableHeaderValue
  pub number : ℕ
  pub fields : Record

-- The row with a cell for each column of the template.
abbrev pub row_in : RowValue → Row
row_in x = row_of x.header x.number x.fields

-- The columns of the table's template.
abbrev pub columns_in : TableHeaderValue → List Column
columns_in f = columns_of f.report f.table

abbrev pub column_in : TableHeaderValue → ℕ → Column
column_in f c = column_of f.report f.table c
