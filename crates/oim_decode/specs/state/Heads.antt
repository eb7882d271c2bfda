-- The first bytes of a table's file and the fault of its header, as the program reads them.
use Rattle.std.specs.Prelude.{◌≡◌, ◌⊎◌, ℕ, List, [], ◌∷◌, Some}
use Rattle.csv.specs.declared.parser.State.TheVariants as state
use Rattle.oim_records.specs.Grids.{Record, grid, records_left}
use Rattle.oim_report.specs.ReportValue.{ReportValue}
use Rattle.oim_rows.specs.Header.{file_header_fault}
use Rattle.oim_rows.specs.Streams.{IsOutside}
use Rattle.oim_rows.specs.declared.fault.TableFault.{TableFault}

-- The bytes of a byte-order mark.
abbrev pub mark : List ℕ
mark = 0xEF ∷ 0xBB ∷ 0xBF ∷ []

-- The records of a piece of a file.
abbrev pub records_in : List ℕ → List Record
records_in bytes = records_left state.StartRecord bytes

-- The fault of a table's file before its first row: that of its header, or one from outside.
abbrev pub IsHeaderFault : ReportValue → ℕ → List ℕ → TableFault → Type 0
IsHeaderFault report table bytes e = IsOutside table e ⊎ (file_header_fault report table (grid bytes) ≡ Some e)
