-- All faults of a table: that of its file before its rows, or else those of its rows, in their
-- order. (xBRL-CSV 1.0, table files: the first record is the header, row n is the nth record after
-- it)
use Rattle.std.specs.Prelude.{List, [], ◌∷◌, ℕ, ◌+◌, nat_lt, if◌then◌else◌, Option, Some, None, is_none, Result, Ok, Err}
use Rattle.std.specs.List.{enumerate_from, flat_map}
use Rattle.oim_records.specs.Grids.{Field, Record, grid}
use Rattle.oim_report.specs.ReportValue.{ReportValue}
use Rattle.oim_rows.specs.Header.{file_header_fault}
use Rattle.oim_rows.specs.RowFacts.{TableHeaderValue, fact_at, id_place_of, ids_after, row_fault, row_of}
use Rattle.oim_rows.specs.Streams.{no_file, table_header_of}
use Rattle.oim_rows.specs.declared.fault.TableFault.{TableFault}

-- The fault of a result, if it has one.
abbrev pub fault_in : {A : Type 0} → Result A TableFault → List TableFault
fault_in (Ok given) = []
fault_in (Err e) = e ∷ []

-- The fault of each cell of row `n` that has one, in header order.
abbrev pub cell_faults : TableHeaderValue → ℕ → Record → List TableFault
cell_faults g n r = flat_map (λ cell. fault_in (fact_at g.report g.table (row_of g n r) cell.0 cell.1)) (enumerate_from 0 g.columns)

-- A first fault alone, or else the others.
abbrev pub alone_or : Option TableFault → List TableFault → List TableFault
alone_or None others = others
alone_or (Some e) others = e ∷ []

-- The faults of row `n`, if earlier rows have the identifiers `ids`: the first fault of the row
-- itself alone, or else those of its cells.
abbrev pub faults_of_row : TableHeaderValue → ℕ → List Field → Record → List TableFault
faults_of_row g n ids r = alone_or (row_fault g n ids r) (cell_faults g n r)

-- The identifiers that rows have up to row `n`. It has one if it is not Ragged or NotUtf8 and its
-- identifier is not missing or bad, whatever else it has. (It is not past the limit.)
abbrev pub ids_up_to : TableHeaderValue → ℕ → List Field → Record → List Field
ids_up_to g n ids r = if is_none (row_fault g n [] r) then ids_after (id_place_of g) ids r else ids

-- The faults of one row before those of the later ones. A row without a fault adds nothing.
abbrev pub row_before : List TableFault → List (List TableFault) → List (List TableFault)
row_before [] later = later
row_before (e ∷ es) later = (e ∷ es) ∷ later

-- The faults of each bad row from row `n` on, if the rows before have the identifiers `ids`. The
-- first row past the limit is the last one.
unfoldable pub bad_rows : TableHeaderValue → ℕ → List Field → List Record → List (List TableFault)
bad_rows g n ids [] = []
bad_rows g n ids (r ∷ rows) = row_before (faults_of_row g n ids r) (if nat_lt g.limit n then [] else bad_rows g (n + 1) (ids_up_to g n ids r) rows)

-- The bad rows of a file whose header has no fault.
abbrev pub bad_rows_of : ReportValue → ℕ → ℕ → List Record → List (List TableFault)
bad_rows_of report table limit [] = []
bad_rows_of report table limit (r ∷ rows) = bad_rows (table_header_of report table limit r) 1 [] rows

-- All faults of these rows.
abbrev pub faults_of_rows : List (List TableFault) → List TableFault
faults_of_rows rows = flat_map (λ row. row) rows

-- All faults of a table whose file has these records: that of its header alone, or else those of
-- its rows.
abbrev pub file_faults : ReportValue → ℕ → ℕ → List Record → List TableFault
file_faults report table limit records = alone_or (file_header_fault report table records) (faults_of_rows (bad_rows_of report table limit records))

-- All faults of a table whose file has these bytes, or that has no file.
abbrev pub table_faults : ReportValue → ℕ → ℕ → Option (List ℕ) → List TableFault
table_faults report table limit None = alone_or (no_file report table).fault []
table_faults report table limit (Some bytes) = file_faults report table limit (grid bytes)
