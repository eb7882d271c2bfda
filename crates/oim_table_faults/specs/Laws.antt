-- What holds of the faults of every table.
use Rattle.std.specs.Prelude.{◌≡◌, ◌↔◌, List, [], ◌∷◌, ℕ, ◌+◌, Option, Some, None, Ok}
use Rattle.oim_records.specs.Grids.{Field, Record}
use Rattle.oim_report.specs.ReportValue.{ReportValue}
use Rattle.oim_resolve.specs.FactParts.{FactParts as Fact}
use Rattle.oim_rows.specs.RowFacts.{TableHeaderValue, id_place_of, ids_after, row_result}
use Rattle.oim_rows.specs.Streams.{table_stream}
use Rattle.oim_rows.specs.declared.fault.TableFault.{TableFault}
use Rattle.oim_table_faults.specs.TableFaults.{bad_rows, faults_of_row, table_faults}

-- The first fault of a list.
abbrev pub first_in : List TableFault → Option TableFault
first_in [] = None
first_in (e ∷ es) = Some e

-- The first of all faults is the fault of the table's stream.
abbrev pub FirstIsOfStream : Type 0
FirstIsOfStream = (report : ReportValue) (table limit : ℕ) (file : Option (List ℕ)) → first_in (table_faults report table limit file) ≡ (table_stream report table limit file).fault

-- A table has no faults exactly if its stream has none.
abbrev pub NoneIfNotRefused : Type 0
NoneIfNotRefused =
    (report : ReportValue) (table limit : ℕ) (file : Option (List ℕ)) → (table_faults report table limit file ≡ []) ↔ ((table_stream report table limit file).fault ≡ None)

-- A row has no faults exactly if it gives facts.
abbrev pub GoodHasNone : Type 0
GoodHasNone =
    (g : TableHeaderValue) (n : ℕ) (ids : List Field) (r : Record) → (faults_of_row g n ids r ≡ []) ↔ ((facts : List Fact) × (row_result g n ids r ≡ Ok facts))

-- Such a row adds nothing to the faults of its table.
abbrev pub GoodAddsNothing : Type 0
GoodAddsNothing =
    (g : TableHeaderValue) (n : ℕ) (ids : List Field) (r : Record) (rows : List Record) (facts : List Fact) → row_result g n ids r ≡ Ok facts
    → bad_rows g n ids (r ∷ rows) ≡ bad_rows g (n + 1) (ids_after (id_place_of g) ids r) rows
