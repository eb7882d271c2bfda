use Rattle.std.proofs.Common.{◌≡◌, drop}
use Rattle.oim_rows.specs.RowFacts.{facts_from}
use Rattle.oim_rows.proofs.FactLists.{after_these}
use Rattle.oim_rows.proofs.row_plan.RowPlan.facts_of_row.Given as goal

abbrev pub invariant-loop-i : goal.invariant-loop-i
invariant-loop-i l = facts_from l.self.report l.self.table l.row 0 l.columns ≡ after_these l.facts (facts_from l.self.report l.self.table l.row l.i (drop l.i l.columns))
