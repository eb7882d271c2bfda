use Rattle.std.proofs.Common.{◌≡◌, ◌<◌, ◌∙◌, ap, length, sym, true}
use Rattle.std.proofs.lemmas.List.FromFn.{length-map-range_with_len}
use Rattle.oim_report.specs.Readers.{columns_of}
use Rattle.oim_resolve.specs.declared.fact.Row.{Row}
use Rattle.oim_rows.specs.RowFacts.{cell_at, is_fact_column}
use Rattle.oim_table_faults.proofs.RowCells.{is_cell}
use Rattle.oim_table_faults.proofs.cell_faults.fault_of_cell.Goals as goal

pub resolve-requires : goal.resolve-requires
resolve-requires c =
    let x = c.args.row.now in
    let g = x.header in
    let range : g.table < length g.report.tables = rw c.table-2.ensures.value at c.table-2.ensures.within in
    let cells : length c.args.cells.now.cells ≡ length (columns_of g.report g.table) =
    ap (λ (r : Row). length r.cells) c.requires ∙ length-map-range_with_len (cell_at g.columns x.fields) 0 (length (columns_of g.report g.table)) in
    let columns : c.template_columns.result.now ≡ columns_of g.report g.table = rw (c.report.ensures, c.table.ensures.value) at c.template_columns.ensures in
    let found : is_fact_column c.template_columns.result.now c.in-Some.column ≡ true = sym c.if-not-is_fact.ensures in
    rw (c.report-2.ensures, c.table-2.ensures.value) (is_cell g.report g.table c.args.cells.now c.in-Some.column range cells (rw columns at found))
