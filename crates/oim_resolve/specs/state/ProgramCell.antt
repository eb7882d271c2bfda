-- The cell of a place.
use Rattle.oim_resolve.specs.declared.cell.cell_at.CellAt.{CellAt}
use Rattle.oim_resolve.specs.Cell.{Cell}
use Rattle.oim_resolve.specs.ProgramOrigins.{seen_cell}

abbrev pub cell_at : CellAt → Cell
cell_at p = seen_cell p.cell
