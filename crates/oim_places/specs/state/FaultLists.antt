-- What is left of a table's faults, by its parts.
use Rattle.std.specs.Prelude.{◌≡◌, ℕ, List, [], Option, Some, None, IfSome, slice_get}
use Rattle.oim_records.specs.Grids.{Record, grid}
use Rattle.oim_rows.specs.declared.fault.TableFault.{TableFault}
use Rattle.oim_table_faults.specs.Reading.{FaultsLeft}
use Rattle.oim_places.specs.FaultLists.{header_or}
use Rattle.oim_places.specs.FaultPlaces.{IsRowAt, column_text}
use Rattle.oim_places.specs.declared.fault_places.FaultPlace.{FaultPlace}

-- The header's fault, if it has one and it was not given yet; or else those of the rows.
abbrev pub left_with : Option TableFault → Option FaultsLeft → Option (List (List TableFault))
left_with header None = Some (header_or header [])
left_with header (Some rows) = rows.left

-- The rows are those of the table, in the file with these bytes. If they do not exist, the row at
-- hand is empty.
abbrev pub AreOf : ℕ → Option (List ℕ) → Record → Option FaultsLeft → Type 0
AreOf table file row None = row ≡ []
AreOf table file row (Some rows) = (rows.table ≡ table) × (rows.file ≡ file)

-- The number of the current row, or 0 for the header.
abbrev pub number_of : Option FaultsLeft → ℕ
number_of None = 0
number_of (Some rows) = rows.given

-- The file with these bytes has this header.
abbrev pub HasHeader : Option (List ℕ) → Record → Type 0
HasHeader file header = IfSome file (λ bytes. slice_get (grid bytes) 0 ≡ Some header)

-- The file with these bytes has this row of that number.
abbrev pub HasRowOf : Option (List ℕ) → ℕ → Record → Type 0
HasRowOf file number row = IfSome file (λ bytes. IsRowAt (grid bytes) number row)

-- What is at a column of a record that begins at this line, under this header.
abbrev pub IsPlacedIn : Record → Record → (line column : ℕ) → FaultPlace → Type 0
IsPlacedIn header row line column p = (p.header ≡ column_text header column) × (p.cell ≡ column_text row column) × (p.line ≡ Some line)
