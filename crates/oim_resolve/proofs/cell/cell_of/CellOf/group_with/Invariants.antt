use Rattle.std.proofs.Common.{◌≡◌, drop}
use Rattle.oim_resolve.specs.Cell.{column}
use Rattle.oim_resolve.specs.Origins.{group_sources, origin_in}
use Rattle.oim_resolve.specs.ProgramOrigins.{seen_cell}
use Rattle.oim_resolve.specs.Writers.{first_answer}
use Rattle.oim_resolve.proofs.cell.cell_of.CellOf.group_with.Given as goal

abbrev pub invariant-loop-place : goal.invariant-loop-place
invariant-loop-place l =
    first_answer (origin_in l.fault) (group_sources (seen_cell l.self) (drop l.place-index l.place-items)) ≡ first_answer (origin_in l.fault) (group_sources (seen_cell l.self) (column (seen_cell l.self)).from)
