use Rattle.std.proofs.Common.{◌≡◌, ◌∙◌, ◌+◌, ◌++◌, ◌∷◌, [], ap, take}
use Rattle.std.proofs.lemmas.List.{map-append}
use Rattle.oim_report.specs.Readers.{columns_of}
use Rattle.oim_rows.specs.Header.{named_column, header_of}
use Rattle.oim_rows.proofs.Places.{take-field_at}
use Rattle.oim_rows.proofs.header.columns_of.Goals as goal

pub loop-i-preserved : goal.loop-i-preserved
loop-i-preserved g c =
    let fields = g.C.Cells.cells c.args.row.now in
    let columns = columns_of c.args.report.now c.args.table in
    let more = take-field_at fields c.loop-i.i c.field.result.now c.field.ensures in
    let joined : header_of columns (take (c.loop-i.i + 1) fields) ≡ header_of columns (take c.loop-i.i fields) ++ named_column columns c.field.result.now ∷ [] =
    ap (header_of columns) more ∙ map-append (named_column columns) (take c.loop-i.i fields) (c.field.result.now ∷ []) in
    let pushed = c.in_ok-push.ensures.items in
    cc
