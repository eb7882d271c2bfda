use Rattle.oim_resolve.specs.ProgramOrigins.{seen_cell}
use Rattle.oim_resolve.specs.Writers.{writes}
use Rattle.oim_resolve.proofs.WriterLevels.{in_group}
use Rattle.oim_resolve.proofs.cell.cell_of.CellOf.group_writer_of.Goals as goal

pub returns-in-loop-place : goal.returns-in-loop-place
returns-in-loop-place c =
    in_group (writes c.args.name.now) (seen_cell c.args.self.now) c.as_slice-place-items.result.now c.loop-place.place-index _ 0 c.in-Some.level.now _
    c.loop-place-test.true c.in-Some.ensures.group c.in-Some-written_at.ensures c.loop-place.invariant
