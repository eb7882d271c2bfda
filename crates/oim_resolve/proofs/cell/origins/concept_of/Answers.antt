use Rattle.std.proofs.Common.{codes}
use Rattle.oim_resolve.specs.Facts.{concept_faults, concept_kind, given}
use Rattle.oim_resolve.specs.Faults.{least}
use Rattle.oim_resolve.specs.state.ProgramCell.{cell_at}
use Rattle.oim_resolve.proofs.Outcomes.{read_fault, read_none, read_value}
use Rattle.oim_resolve.proofs.Readings.{kind_unread}
use Rattle.oim_resolve.proofs.cell.origins.concept_of.Goals as goal

pub returns-in-Ok : goal.returns-in-Ok
returns-in-Ok c =
    let cell = cell_at c.args.place in
    record {
      kind = read_value (least (concept_faults cell)) (concept_kind cell) c.in-Ok.kind c.in-Ok.ensures;
      fault = read_none (least (concept_faults cell)) (concept_kind cell) c.in-Ok.kind c.in-Ok.ensures;
    }

pub returns-in-Err : goal.returns-in-Err
returns-in-Err c =
    let cell = cell_at c.args.place in
    record {
      kind = kind_unread cell.report (given cell (codes "concept")) c.in-Err.fault c.in-Err.ensures;
      fault = read_fault (least (concept_faults cell)) (concept_kind cell) c.in-Err.fault c.in-Err.ensures;
    }
