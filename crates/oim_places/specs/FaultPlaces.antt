-- What is in the files of a report at the place of a table's fault: the line of its record, and the
-- cells of the header and of the row.
use Rattle.std.specs.Prelude.{◌≡◌, ◌⊎◌, ℕ, zero, suc, Bool, true, false, List, [], ◌++◌, Option, Some, None, slice_get, unwrap_or}
use Rattle.csv.specs.Records.{field_at, fields_of}
use Rattle.oim_records.specs.Grids.{Field, Record, grid}
use Rattle.oim_files.specs.Metadata.{profile}
use Rattle.oim_rows.specs.Streams.{IsOutside, Stream, table_stream}
use Rattle.oim_rows.specs.declared.fault.TableFault.{TableFault}
use Rattle.oim_rows.specs.declared.fault.TableKind.{TableKind}
use Rattle.oim_rows.specs.declared.fault.TableKind.TheVariants as kind
use Rattle.oim_report.specs.Readers.{table_of}
use Rattle.oim_report.specs.ReportValue.{ReportValue}
use Rattle.oim_files.specs.Folders.{Files, IsFolderOf}
use Rattle.oim_places.specs.Cells.{as_text}
use Rattle.oim_places.specs.FolderFiles.{FoundIn}
use Rattle.oim_places.specs.LineNumbers.{IsLineOf, line_of_record}
use Rattle.oim_places.specs.declared.fault_places.FaultPlace.{FaultPlace}
use Rattle.oim_places.specs.declared.records.RowAgain.{RowAgain}

-- The record at a place, and its cell in a column, which is counted from 1; empty if it does not
-- exist.
abbrev pub record_or_empty : List Record → ℕ → Record
record_or_empty records number = unwrap_or (slice_get records number) []

abbrev pub column_place : ℕ → Option ℕ
column_place zero = None
column_place (suc place) = Some place

abbrev pub field_of : Record → Option ℕ → Field
field_of fields None = []
field_of fields (Some place) = unwrap_or (field_at fields place) []

abbrev pub column_text : Record → ℕ → List ℕ
column_text fields column = as_text (field_of fields (column_place column))

-- The record of this number. The header, which has number 0, is not a row.
abbrev pub IsRowAt : List Record → ℕ → Record → Type 0
IsRowAt records zero row = row ≡ []
IsRowAt records (suc number) row = slice_get records (suc number) ≡ Some row

-- The header of these records, and one of their rows.
abbrev pub HasRow : List Record → ℕ → Record → Record → Type 0
HasRow records number header row = (slice_get records 0 ≡ Some header) × IsRowAt records number row

-- The record of this number, or the empty one for the header or a record that does not exist.
abbrev pub row_or_empty : List Record → ℕ → Record
row_or_empty records zero = []
row_or_empty records (suc number) = record_or_empty records (suc number)

-- What a table's file has at a row and a column.
abbrev pub stands_at : List ℕ → (row column : ℕ) → FaultPlace
stands_at bytes row column = record {
  line = line_of_record row bytes;
  header = column_text (record_or_empty (grid bytes) 0) column;
  cell = column_text (row_or_empty (grid bytes) row) column;
}

-- The fault is of a file as a whole, and has no place in it.
abbrev pub is_of_file : TableKind → Bool
is_of_file kind.NoFile = true
is_of_file kind.Read = true
is_of_file kind.NoHeader = true
is_of_file kind.UnknownHeader = false
is_of_file kind.RepeatedHeader = false
is_of_file kind.NoRowIdColumn = false
is_of_file kind.Ragged = false
is_of_file kind.NotUtf8 = false
is_of_file kind.TooManyRows = false
is_of_file kind.MissingRowId = false
is_of_file kind.BadRowId = false
is_of_file kind.RepeatedRowId = false
is_of_file (kind.Cell f) = false
is_of_file kind.Memory = true
is_of_file kind.NoThread = true

-- Nothing is known of the place.
abbrev pub unknown_place : FaultPlace
unknown_place = record { line = None; header = []; cell = [] }

-- The stream of the table whose file has these bytes.
abbrev pub stream_of_file : ReportValue → (table : ℕ) → List ℕ → Stream
stream_of_file report table bytes = table_stream report table profile.rows (Some bytes)

-- The first fault of that table.
abbrev pub fault_of_file : ReportValue → (table : ℕ) → List ℕ → Option TableFault
fault_of_file report table bytes = (stream_of_file report table bytes).fault

-- The fault of a table's stream as it is found by reading: a reader may fail and memory may run
-- out.
abbrev pub EndsStream : (table : ℕ) → Stream → TableFault → Type 0
EndsStream table s f = IsOutside table f ⊎ (s.fault ≡ Some f)

-- The same of the table's file.
abbrev pub IsTableFault : ReportValue → (table : ℕ) → List ℕ → TableFault → Type 0
IsTableFault report table bytes f = EndsStream table (stream_of_file report table bytes) f

-- The table's file has these bytes and the fault, and these are its header and the fault's record.
abbrev pub HasRecordOf : ReportValue → TableFault → RowAgain → List ℕ → Type 0
HasRecordOf report f again bytes = HasRow (grid bytes) f.row (fields_of again.header) (fields_of again.row) × IsTableFault report f.table bytes f

-- What is in the file at a row and a column. The line may be unknown, because reading it may fail.
abbrev pub IsPlaceIn : (row column : ℕ) → FaultPlace → List ℕ → Type 0
IsPlaceIn row column p bytes = (p.header ≡ (stands_at bytes row column).header) × (p.cell ≡ (stands_at bytes row column).cell)
    × IsLineOf row bytes p.line

-- The file at this path has the fault as its first, the fault has a place in it, and `holds` is
-- true of its bytes.
abbrev pub HasFaultIn : Files → List ℕ → ReportValue → TableFault → (List ℕ → Type 0) → Type 0
HasFaultIn files path report f holds = (is_of_file f.kind ≡ false) × FoundIn files path (λ bytes. (fault_of_file report f.table bytes ≡ Some f) × holds bytes)

-- The place is that of the fault.
abbrev pub IsPlaceAt : Files → List ℕ → ReportValue → TableFault → FaultPlace → Type 0
IsPlaceAt files path report f p = HasFaultIn files path report f (IsPlaceIn f.row f.column p)

-- The path of a table's file, in the folder of the metadata's path.
abbrev pub IsTablePath : List ℕ → ReportValue → ℕ → List ℕ → Type 0
IsTablePath meta report table path = (base : List ℕ) × IsFolderOf base meta × (path ≡ base ++ (table_of report table).url)

-- Nothing is known of the place, or it is that of the fault in the table's file, for a report with
-- metadata at this path.
abbrev pub IsPlaceOf : Files → List ℕ → ReportValue → TableFault → FaultPlace → Type 0
IsPlaceOf files meta report f p = (p ≡ unknown_place) ⊎ ((path : List ℕ) × IsTablePath meta report f.table path × IsPlaceAt files path report f p)
