-- The place that an explanation gives for a table's fault: its file as a whole, or a line and a
-- cell.
use Rattle.std.specs.Prelude.{◌≡◌, ◌⊎◌, ◌≤◌, ℕ, List, Option, length}
use Rattle.oim_files.specs.Folders.{Files}
use Rattle.oim_report.specs.ReportValue.{ReportValue}
use Rattle.oim_rows.specs.declared.fault.TableFault.{TableFault}
use Rattle.oim_places.specs.FaultPlaces.{HasFaultIn, IsTablePath, column_place}
use Rattle.oim_places.specs.FilePlaces.{place_text}
use Rattle.oim_places.specs.LineNumbers.{IsLineOf}
use Rattle.oim_places.specs.Shown.{shown}
use Rattle.oim_explain.specs.declared.explanation.Explanation.{Explanation}

-- The text names the fault's cell by its column, and its row by the line at which it begins in
-- these bytes, if that is known.
abbrev pub NamesPlace : List ℕ → TableFault → List ℕ → List ℕ → Type 0
NamesPlace path f bytes text = (line : Option ℕ) × IsLineOf f.row bytes line × (text ≡ place_text path line (column_place f.column))

-- The explanation is of the file at this path as a whole, or its place is that of the fault, which
-- is the file's first.
abbrev pub ExplainsAt : Files → List ℕ → ReportValue → TableFault → Explanation → Type 0
ExplainsAt files path report f e = (e.place ≡ shown path) ⊎ HasFaultIn files path report f (λ bytes. NamesPlace path f bytes e.place)

-- The same for a table of a report whose metadata is at this path. A table that does not exist is
-- explained at the metadata.
abbrev pub ExplainsTable : Files → List ℕ → ReportValue → TableFault → Explanation → Type 0
ExplainsTable files meta report f e = ((length report.tables ≤ f.table) × (e.place ≡ shown meta)) ⊎ ((path : List ℕ) × IsTablePath meta report f.table path × ExplainsAt files path report f e)
