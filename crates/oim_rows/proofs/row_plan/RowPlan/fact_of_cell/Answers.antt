use Rattle.std.proofs.Common.{◌≡◌, Err, sym, true}
use Rattle.oim_rows.specs.RowFacts.{is_fact_column}
use Rattle.oim_rows.proofs.EarlyCells.{refused_at}
use Rattle.oim_rows.proofs.ReadCells.{is_cell}
use Rattle.oim_rows.proofs.row_plan.RowPlan.fact_of_cell.Goals as goal

pub resolve-requires : goal.resolve-requires
resolve-requires c =
    let range = rw c.self.view_is at c.self.invariant.in_range in
    let columns = rw c.self.view_is at c.self.invariant.all_columns in
    let found : is_fact_column c.self.inside.columns.now c.in-Some.column ≡ true = sym c.if-not-is_fact.ensures in
    rw (c.report.ensures, c.table-table.ensures.value, c.requires.header) (is_cell _ _ _ _ range c.requires.cells (rw columns at found))

pub returns-in-Err-Memory-clause-early : goal.returns-in-Err-Memory-clause-early
returns-in-Err-Memory-clause-early c =
    let columns = rw c.self.view_is at c.self.invariant.all_columns in
    let found : is_fact_column c.self.inside.columns.now c.in-Some.column ≡ true = sym c.if-not-is_fact.ensures in
    let early = rw (c.report.ensures, c.table-table.ensures.value, c.requires.header, c.in-Err-Memory.field-0-is) at c.in-Err-Memory.ensures.early in
    refused_at c.args.self.now.report c.args.self.now.table c.args.row.now c.args.place c.args.column c.in-Some.column (Err c.whole_fault.result) c.in-Some.is (rw columns at found) early
