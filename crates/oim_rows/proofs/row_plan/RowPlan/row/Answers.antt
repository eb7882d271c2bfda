use Rattle.std.proofs.Common.{◌≡◌, ◌∙◌, ap, map, length, refl, sym}
use Rattle.std.specs.List.{range_with_len}
use Rattle.std.proofs.lemmas.Simd.{map-map}
use Rattle.oim_report.specs.Readers.{columns_of}
use Rattle.oim_rows.specs.RowFacts.{field_or_empty, source_of_column, cell_at}
use Rattle.oim_rows.proofs.row_plan.RowPlan.row.Goals as goal

pub returns : goal.returns
returns g c =
    let fields = g.C.Cells.cells c.args.row.now in
    let columns = range_with_len 0 (length c.self.inside.columns.now) in
    let counted : length c.self.inside.columns.now ≡ length (columns_of c.self.inside.header.value.report c.self.inside.header.value.table) = ap length c.self.invariant.all_columns in
    let sources = c.as_slice.ensures.value ∙ c.self.invariant.sources_are in
    let cells : c.in_ok-cells.cells ≡ map (cell_at c.self.inside.header.value.columns fields) columns =
    c.in_ok-cells.ensures ∙ ap (map (field_or_empty fields)) sources ∙ map-map (field_or_empty fields) (source_of_column c.self.inside.header.value.columns) columns in
    let id = c.new.ensures ∙ c.in_ok-id.ensures in
    let one : c.args.header.now ≡ c.self.inside.header.value = c.requires.header ∙ sym c.self.view_is in
    rw (c.new-2.ensures, cells, counted, id, one, ← c.self.view_is) refl
