-- A cell's fact as far as the first two steps of the cell settle it, and whether a row's identifier
-- is new.
use Rattle.std.specs.Prelude.{⊤, ◌≡◌, List, [], ℕ, ◌+◌, false, if◌then◌else◌, Option, Some, None, option_map, Result, Ok, unwrap_or}
use Rattle.std.specs.List.{list_any}
use Rattle.std.specs.Str.{bytes_eq}
use Rattle.csv.specs.Records.{field_at}
use Rattle.oim_records.specs.Grids.{Field, Record}
use Rattle.oim_report.specs.Readers.{columns_of}
use Rattle.oim_report.specs.ReportValue.{ReportValue}
use Rattle.oim_resolve.specs.Cell.{cell_of}
use Rattle.oim_resolve.specs.Facts.{early_result}
use Rattle.oim_resolve.specs.FactParts.{FactParts as Fact}
use Rattle.oim_resolve.specs.declared.fact.Row.{Row}
use Rattle.oim_rows.specs.declared.fault.TableFault.{TableFault}
use Rattle.oim_rows.specs.RowFacts.{is_fact_column, at_place}

-- What the cell at an index of the header gives, if its first two steps settle it.
abbrev pub early_fact_at : ReportValue → ℕ → Row → ℕ → Option ℕ → Option (Result (Option Fact) TableFault)
early_fact_at report table row p None = Some (Ok None)
early_fact_at report table row p (Some c) = if is_fact_column (columns_of report table) c then option_map (at_place table row.number (p + 1)) (early_result (cell_of report table row c)) else Some (Ok None)

-- No earlier row has the row's identifier.
abbrev pub IsNewId : Option ℕ → List Field → Record → Type 0
IsNewId None ids r = ⊤
IsNewId (Some p) ids r = list_any (bytes_eq (unwrap_or (field_at r p) [])) ids ≡ false
