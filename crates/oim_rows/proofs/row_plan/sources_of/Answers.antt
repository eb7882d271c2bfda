use Rattle.std.proofs.Common.{◌≡◌, ◌∙◌, ◌+◌, ◌++◌, ◌∷◌, [], ap, map, zero-add}
use Rattle.std.specs.List.{range_with_len}
use Rattle.std.proofs.lemmas.List.{map-append}
use Rattle.oim_rows.specs.RowFacts.{source_of_column}
use Rattle.oim_rows.proofs.Places.{range_with_len-more}
use Rattle.oim_rows.proofs.row_plan.sources_of.Goals as goal

pub loop-column-preserved : goal.loop-column-preserved
loop-column-preserved c =
    let f = source_of_column c.args.header.now.columns in
    let column = c.loop-column.column in
    let more : range_with_len 0 (column + 1) ≡ range_with_len 0 column ++ column ∷ [] = rw (zero-add column) at (range_with_len-more 0 column) in
    let joined : map f (range_with_len 0 (column + 1)) ≡ map f (range_with_len 0 column) ++ f column ∷ [] = ap (map f) more ∙ map-append f (range_with_len 0 column) (column ∷ []) in
    let pushed = c.in_ok-push.ensures.items in
    cc
