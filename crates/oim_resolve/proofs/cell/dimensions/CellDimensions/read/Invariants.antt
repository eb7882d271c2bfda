use Rattle.std.proofs.Common.{◌≡◌, Ok, take}
use Rattle.oim_resolve.specs.Faults.{unless}
use Rattle.oim_resolve.specs.ProgramCell.{held}
use Rattle.oim_resolve.specs.state.ProgramCell.{cell_at}
use Rattle.oim_resolve.specs.state.ProgramDimensions.{dimensions_of}
use Rattle.oim_resolve.proofs.cell.dimensions.CellDimensions.read.Given as goal

abbrev pub invariant-loop-name : goal.invariant-loop-name
invariant-loop-name l = unless l.least (Ok l.given) ≡ dimensions_of (cell_at l.self.place) l.kind (held (take l.name-index l.name-items))
