-- How the record of a table's fault is found in the files.
use Rattle.std.specs.Prelude.{◌≡◌, List, ◌∷◌, IfSome}
use Rattle.csv.specs.Records.{fields_of}
use Rattle.oim_records.specs.Grids.{grid}
use Rattle.oim_rows.specs.declared.fault.TableFault.{TableFault}
use Rattle.oim_places.specs.FaultLists.{LocatedLeft}
use Rattle.oim_places.specs.FaultPlaces.{HasRow, stands_at}
use Rattle.oim_places.specs.declared.fault_places.FaultRecord.{FaultRecord}

-- The fault is the first of those that are left, and this is its record with its place.
pub record IsFirstIn (rows : LocatedLeft) (f : TableFault) (r : FaultRecord) : Type 0 where
  pub first : IfSome rows.left (λ left. (others : List TableFault) × (later : List (List TableFault)) × (left ≡ (f ∷ others) ∷ later))
  pub cells : IfSome rows.cells (λ bytes. HasRow (grid bytes) f.row (fields_of r.cells.header) (fields_of r.cells.row))
  pub texts : IfSome rows.cells (λ bytes. (r.place.header ≡ (stands_at bytes f.row f.column).header) × (r.place.cell ≡ (stands_at bytes f.row f.column).cell))
  pub line : IfSome rows.lines (λ bytes. r.place.line ≡ (stands_at bytes f.row f.column).line)
