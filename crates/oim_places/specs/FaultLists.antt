-- All faults of a table with what is at their places, row by row, and their records in the file of
-- faults.
use Rattle.std.specs.Prelude.{◌≡◌, ℕ, List, [], ◌∷◌, Option, Some, None, Result, Ok, Err, IfSome, map}
use Rattle.std.specs.List.{All, flat_map}
use Rattle.oim_files.specs.Metadata.{profile}
use Rattle.oim_records.specs.Grids.{Record, grid}
use Rattle.oim_report.specs.ReportValue.{ReportValue}
use Rattle.oim_rows.specs.Header.{file_header_fault}
use Rattle.oim_rows.specs.Streams.{IsOutside}
use Rattle.oim_rows.specs.declared.fault.TableFault.{TableFault}
use Rattle.oim_table_faults.specs.TableFaults.{bad_rows_of, table_faults}
use Rattle.oim_places.specs.FaultPlaces.{HasRow, stands_at}
use Rattle.oim_places.specs.FaultRows.{fault_fields}
use Rattle.oim_places.specs.declared.bad_rows.LocatedFault.{LocatedFault}
use Rattle.oim_places.specs.declared.fault_cause.FaultCause.{FaultCause}

-- The header's fault alone, or else the faults of the rows.
abbrev pub header_or : Option TableFault → List (List TableFault) → List (List TableFault)
header_or None rows = rows
header_or (Some e) rows = (e ∷ []) ∷ []

-- The faults of a table whose file has these records, row by row.
abbrev pub faults_by_row : ReportValue → ℕ → ℕ → List Record → List (List TableFault)
faults_by_row report table limit records = header_or (file_header_fault report table records) (bad_rows_of report table limit records)

-- The record of a fault with this cause in the file of faults, for a table with this identifier
-- whose file has these bytes.
abbrev pub record_of : List ℕ → List ℕ → TableFault → FaultCause → Record
record_of id bytes f c = fault_fields id f (stands_at bytes f.row f.column) c

-- The records of all faults of that table, by their causes.
abbrev pub fault_records : List ℕ → (TableFault → FaultCause) → ReportValue → ℕ → ℕ → List ℕ → List Record
fault_records id cause report table limit bytes = map (λ f. record_of id bytes f (cause f)) (table_faults report table limit (Some bytes))

-- They are those of its rows, in order.
abbrev pub RecordsByRow : Type 0
RecordsByRow = (id : List ℕ) (cause : TableFault → FaultCause) (report : ReportValue) (table limit : ℕ) (bytes : List ℕ)
    → fault_records id cause report table limit bytes ≡ flat_map (λ faults. map (λ f. record_of id bytes f (cause f)) faults) (faults_by_row report table limit (grid bytes))

-- What is left of a table's faults: `left`, row by row, if the bytes of its file are known.
-- `heads`, `cells` and `lines` are the bytes from which the header, the rows and the lines are
-- read, if they are known. `header` and `row` are the records at hand, and `number` is that of the
-- row, or 0 for the header.
pub record LocatedLeft : Type 0 where
  pub table : ℕ
  pub left : Option (List (List TableFault))
  pub heads : Option (List ℕ)
  pub cells : Option (List ℕ)
  pub lines : Option (List ℕ)
  pub number : ℕ
  pub header : Record
  pub row : Record

-- The table is the same, and so are the files from which header, rows and lines are read.
abbrev pub KeepsFiles : LocatedLeft → LocatedLeft → Type 0
KeepsFiles old new = (new.table ≡ old.table) × (new.heads ≡ old.heads) × (new.cells ≡ old.cells) × (new.lines ≡ old.lines)

-- An answer if these faults are left: those of the first row, and the others remain; or the end, if
-- none is left. Or a reader failed or memory ran out.
abbrev pub GivesRow : ℕ → List (List TableFault) → Result (Option (List LocatedFault)) TableFault → Option (List (List TableFault)) → Type 0
GivesRow table rows (Ok (Some located)) None = ⊥
GivesRow table rows (Ok (Some located)) (Some later) = rows ≡ map (λ l. l.fault) located ∷ later
GivesRow table rows (Ok None) left = rows ≡ []
GivesRow table rows (Err e) left = IsOutside table e

-- The place is that of the fault, by the bytes of the cells and by those of the lines.
abbrev pub HasPlaceIn : Option (List ℕ) → Option (List ℕ) → LocatedFault → Type 0
HasPlaceIn cells lines l =
    IfSome cells (λ bytes. (l.place.header ≡ (stands_at bytes l.fault.row l.fault.column).header) × (l.place.cell ≡ (stands_at bytes l.fault.row l.fault.column).cell))
    × IfSome lines (λ bytes. l.place.line ≡ (stands_at bytes l.fault.row l.fault.column).line)

abbrev pub ArePlacesIn : Option (List ℕ) → Option (List ℕ) → List LocatedFault → Type 0
ArePlacesIn cells lines located = All (HasPlaceIn cells lines) located

-- The records at hand are the header and the row of each fault.
abbrev pub AreAt : Option (List ℕ) → Record → Record → List LocatedFault → Type 0
AreAt cells header row located = IfSome cells (λ bytes. All (λ l. HasRow (grid bytes) l.fault.row header row) located)

-- The three readers have these bytes.
abbrev pub AreReadersOf : Option (List ℕ) → Option (List ℕ) → Option (List ℕ) → List ℕ → Type 0
AreReadersOf heads cells lines bytes = (heads ≡ Some bytes) × (cells ≡ Some bytes) × (lines ≡ Some bytes)

-- All faults of the table whose file has these bytes are left.
abbrev pub IsStartOf : ReportValue → ℕ → LocatedLeft → List ℕ → Type 0
IsStartOf report table rows bytes = (rows.left ≡ Some (faults_by_row report table profile.rows (grid bytes))) × AreReadersOf rows.heads rows.cells rows.lines bytes
