use Rattle.std.proofs.Common.{subst}
use Rattle.oim_rows.specs.RowFacts.{facts_from, row_of}
use Rattle.oim_rows.specs.Streams.{OrNoMemory}
use Rattle.oim_rows.proofs.row_plan.RowPlan.facts.Goals as goal

pub returns-in-Ok : goal.returns-in-Ok
returns-in-Ok c =
    let plan = c.args.self.now in
    subst (λ r. OrNoMemory plan.table c.facts_of_cells.result (facts_from plan.report plan.table (row_of plan c.args.number r) 0 plan.columns)) c.in-Ok.ensures c.facts_of_cells.ensures
