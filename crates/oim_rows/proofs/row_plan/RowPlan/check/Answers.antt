use Rattle.std.proofs.Common.{◌∙◌, ap, length}
use Rattle.std.proofs.lemmas.List.FromFn.{length-map-range_with_len}
use Rattle.csv.specs.Records.{fields_of}
use Rattle.oim_report.specs.Readers.{columns_of}
use Rattle.oim_resolve.specs.declared.fact.Row.{Row}
use Rattle.oim_rows.specs.RowFacts.{cell_at}
use Rattle.oim_rows.proofs.row_plan.RowPlan.check.Goals as goal

pub check_cells-requires-clause-cells : goal.check_cells-requires-clause-cells
check_cells-requires-clause-cells c =
    ap (λ (r : Row). length r.cells) c.in-Ok-row.ensures
    ∙ length-map-range_with_len (cell_at c.args.self.now.columns (fields_of c.in-Ok.record)) 0 (length (columns_of c.args.self.now.report c.args.self.now.table))
