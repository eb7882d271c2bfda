use Rattle.std.proofs.Common.{◌∙◌, ap, length}
use Rattle.std.proofs.lemmas.List.FromFn.{length-map-range_with_len}
use Rattle.oim_report.specs.Readers.{columns_of}
use Rattle.oim_resolve.specs.declared.fact.Row.{Row}
use Rattle.oim_rows.specs.RowFacts.{cell_at}
use Rattle.oim_rows.proofs.row_plan.RowPlan.facts_of_cells.Goals as goal

pub facts_of_row-requires-clause-cells : goal.facts_of_row-requires-clause-cells
facts_of_row-requires-clause-cells g c =
    ap (λ (r : Row). length r.cells) c.in-Ok.ensures
    ∙ length-map-range_with_len (cell_at c.args.self.now.columns (g.C.Cells.cells c.args.row.now)) 0 (length (columns_of c.args.self.now.report c.args.self.now.table))
