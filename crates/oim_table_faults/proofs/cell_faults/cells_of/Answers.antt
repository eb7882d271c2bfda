use Rattle.std.proofs.Common.{◌≡◌, ◌∙◌, ◌+◌, ◌++◌, ◌∷◌, [], ap, map, sym, zero-add}
use Rattle.std.specs.List.{range_with_len}
use Rattle.std.proofs.lemmas.List.{map-append}
use Rattle.oim_rows.specs.RowFacts.{TableHeaderValue, cell_at, field_or_empty, source_of_column}
use Rattle.oim_table_faults.proofs.RowCells.{range_with_len-more}
use Rattle.oim_table_faults.proofs.cell_faults.cells_of.Goals as goal

pub loop-column-preserved : goal.loop-column-preserved
loop-column-preserved c =
    let fields = c.args.row.now.fields in
    let f = cell_at c.args.row.now.header.columns fields in
    let column = c.loop-column.column in
    let more : range_with_len 0 (column + 1) ≡ range_with_len 0 column ++ column ∷ [] = rw (zero-add column) at (range_with_len-more 0 column) in
    let joined : map f (range_with_len 0 (column + 1)) ≡ map f (range_with_len 0 column) ++ f column ∷ [] = ap (map f) more ∙ map-append f (range_with_len 0 column) (column ∷ []) in
    let place = c.source.ensures ∙ ap (λ (g : TableHeaderValue). source_of_column g.columns column) c.header.ensures in
    let item : c.in_ok-from_str.field-0 ≡ f column = c.in_ok-from_str.ensures ∙ c.text_at-text.ensures ∙ ap (field_or_empty fields) place in
    c.in_ok-push.ensures ∙ ap (λ t. t ++ c.in_ok-from_str.field-0 ∷ []) c.loop-column.invariant ∙ ap (λ x. map f (range_with_len 0 column) ++ x ∷ []) item ∙ sym joined
