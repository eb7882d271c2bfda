-- The results of a table's reader for its header and for its rows, step by step.
use Rattle.std.specs.Prelude.{ℕ, Option, List, ◌+◌, Bool, true, false, Some, None, option_map, Result, Ok, Err}
use Rattle.oim_report.specs.ReportValue.{ReportValue}
use Rattle.oim_rows.specs.declared.fault.TableFault.{TableFault}
use Rattle.oim_rows.specs.Header.{Header, or_else, repeated_fault, row_id_fault, file_fault, unknown_fault}
use Rattle.oim_records.specs.Grids.{Field, Record}
use Rattle.oim_records.specs.declared.read_fault.ReadFault.{ReadFault}
use Rattle.oim_resolve.specs.FactParts.{FactParts as Fact}
use Rattle.oim_rows.specs.RowFacts.{TableHeaderValue, row_fault}
use Rattle.oim_rows.specs.declared.fault.TableKind.TheVariants as kind
use Rattle.oim_rows.specs.Streams.{stream_from, fault_of_read, GivesNext}

-- A column that occurs twice, or a missing column of row identifiers.
abbrev pub columns_fault : ReportValue → ℕ → Header → Option TableFault
columns_fault report table h = or_else (repeated_fault table h) (row_id_fault report table h)

-- What the reader's result for the header gives without taking memory: its own fault, no record, or
-- a cell that is not empty and names no column.
abbrev pub early_header_fault : ReportValue → ℕ → Result Bool ReadFault → Record → Option TableFault
early_header_fault report table (Err f) r = Some (fault_of_read table f)
early_header_fault report table (Ok false) r = Some (file_fault table kind.NoHeader)
early_header_fault report table (Ok true) r = unknown_fault report table r

-- What the reader's result for row `n` gives without taking memory: its own fault, the end, or a
-- fault of the row itself.
abbrev pub early_row_answer : TableHeaderValue → ℕ → List Field → Result Bool ReadFault → Record → Option (Result (Option (List Fact)) TableFault)
early_row_answer g n ids (Err f) r = Some (Err (fault_of_read g.table f))
early_row_answer g n ids (Ok false) r = Some (Ok None)
early_row_answer g n ids (Ok true) r = option_map Err (row_fault g n ids r)

-- The facts of a row as a result.
abbrev pub row_answer : Result (List Fact) TableFault → Result (Option (List Fact)) TableFault
row_answer (Ok facts) = Ok (Some facts)
row_answer (Err e) = Err e

-- Row `n` is read: the identifiers before and after it, the records from it on and after it.
abbrev pub GivesRow : TableHeaderValue → ℕ → (before after : List Field) → List Record → Result (Option (List Fact)) TableFault → Option (List Record) → Type 0
GivesRow g n before after rs result left = GivesNext g.table (stream_from g n before rs) result (option_map (stream_from g (n + 1) after) left)
