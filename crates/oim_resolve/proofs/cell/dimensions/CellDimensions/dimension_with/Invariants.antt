use Rattle.std.proofs.Common.{◌≡◌, drop}
use Rattle.oim_resolve.specs.ProgramCell.{held}
use Rattle.oim_resolve.specs.Origins.{dimension_sources, origin_in}
use Rattle.oim_resolve.specs.state.ProgramCell.{cell_at}
use Rattle.oim_resolve.specs.Writers.{first_answer}
use Rattle.oim_resolve.proofs.cell.dimensions.CellDimensions.dimension_with.Given as goal

abbrev pub invariant-loop-name : goal.invariant-loop-name
invariant-loop-name l =
    first_answer (origin_in l.fault) (dimension_sources (cell_at l.self.place) l.kind (held (drop l.name-index l.names))) ≡ first_answer (origin_in l.fault) (dimension_sources (cell_at l.self.place) l.kind (held l.names))
