use Rattle.std.proofs.Common.{◌<◌, None, arith, get_or, length, refl}
use Rattle.oim_rows.specs.RowFacts.{fact_at}
use Rattle.oim_rows.proofs.FactLists.{fact_is, facts_from-at, one_checked}
use Rattle.oim_rows.proofs.row_plan.RowPlan.check_cells.Goals as goal

pub loop-i-preserved : goal.loop-i-preserved
loop-i-preserved c =
    let x = c.args.self.now in
    let h = c.columns-columns.result.now in
    let i = c.loop-i.i in
    let so = c.loop-i.invariant in
    let lt : i < length h = omega (arith, c.loop-i-test.true) in
    let o = c.in_ok-fact_of_cell.field-0 in
    let is = fact_is x.table o (fact_at x.report x.table c.args.row.now i (get_or h i None)) c.in_ok-fact_of_cell.ensures.fact in
    one_checked so.0 o _ _ _ _ is so.1 (facts_from-at x.report x.table c.args.row.now i h (get_or h i None) None lt refl)
