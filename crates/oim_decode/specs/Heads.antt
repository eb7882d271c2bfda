-- The head of a table's file: its header, which is the first record, and the rows after it.
use Rattle.std.specs.Prelude.{ℕ, List, [], ◌∷◌}
use Rattle.oim_records.specs.Grids.{Record}
use Rattle.oim_report.specs.ReportValue.{ReportValue}
use Rattle.oim_rows.specs.RowFacts.{TableHeaderValue}
use Rattle.oim_rows.specs.Streams.{table_header_of}

-- The first record, which is the header.
abbrev pub header_in : List Record → Record
header_in [] = []
header_in (r ∷ rows) = r

-- The header of a table whose file begins with these records.
abbrev pub table_header_in : ReportValue → ℕ → ℕ → List Record → TableHeaderValue
table_header_in report table limit records = table_header_of report table limit (header_in records)
