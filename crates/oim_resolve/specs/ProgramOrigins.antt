-- What contracts see of a cell, a writer with what it writes, and an origin: what their references
-- point to.
use Rattle.std.specs.Borrow.{Bor}
use Rattle.oim_resolve.specs.Cell.{Cell, cell_of}
use Rattle.oim_resolve.specs.declared.cell.cell_of.CellOf.{CellOf}
use Rattle.oim_resolve.specs.declared.cell.origins.FaultOrigin.{FaultOrigin}
use Rattle.oim_resolve.specs.declared.cell.origins.FaultOrigin.TheVariants as seen
use Rattle.oim_resolve.specs.declared.cell.writers.Writer.{Writer}
use Rattle.oim_resolve.specs.Origins.{Origin, OwnCell, GroupCell, Dimension, Decimals}

abbrev pub seen_cell : CellOf → Cell
seen_cell c = cell_of c.report.now c.table c.row.now c.column

abbrev pub seen_writer : {W : Type 0} → Writer × Bor W → Writer × W
seen_writer w = (w.0, w.1.now)

abbrev pub seen_origin : FaultOrigin → Origin
seen_origin seen.Cell = OwnCell
seen_origin (seen.GroupCell i) = GroupCell i
seen_origin (seen.Dimension n) = Dimension n.now
seen_origin seen.Decimals = Decimals
