use Rattle.std.proofs.Common.{◌≡◌, List, drop}
use Rattle.oim_resolve.specs.FactParts.{FactParts as Fact}
use Rattle.oim_rows.specs.RowFacts.{facts_from}
use Rattle.oim_rows.proofs.FactLists.{after_these}
use Rattle.oim_rows.proofs.row_plan.RowPlan.check_cells.Given as goal

abbrev pub invariant-loop-i : goal.invariant-loop-i
invariant-loop-i l = (fs : List Fact) × (facts_from l.self.report l.self.table l.row 0 l.columns ≡ after_these fs (facts_from l.self.report l.self.table l.row l.i (drop l.i l.columns)))
