use Rattle.std.proofs.Common.{◌≡◌, drop}
use Rattle.oim_resolve.specs.Cell.{column}
use Rattle.oim_resolve.specs.ProgramOrigins.{seen_cell}
use Rattle.oim_resolve.specs.Writers.{first_answer, group_writers, writes}
use Rattle.oim_resolve.proofs.cell.cell_of.CellOf.group_writer_of.Given as goal

abbrev pub invariant-loop-place : goal.invariant-loop-place
invariant-loop-place l =
    first_answer (writes l.name) (group_writers (seen_cell l.self) (drop l.place-index l.place-items)) ≡ first_answer (writes l.name) (group_writers (seen_cell l.self) (column (seen_cell l.self)).from)
