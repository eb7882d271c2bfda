use Rattle.std.proofs.Common.{◌∙◌, sym}
use Rattle.oim_rows.specs.RowFacts.{is_not_text}
use Rattle.oim_rows.proofs.Places.{position_from-here, position_from-next}
use Rattle.oim_rows.proofs.cells.first_not_text.Goals as goal

pub returns-then-is_not_text : goal.returns-then-is_not_text
returns-then-is_not_text g c =
    sym (c.loop-i.invariant ∙ position_from-here is_not_text (g.C.Cells.cells c.args.row.now) c.loop-i.i c.field.result.now c.field.ensures (sym c.if-is_not_text.ensures))

pub loop-i-preserved : goal.loop-i-preserved
loop-i-preserved g c =
    c.loop-i.invariant ∙ position_from-next is_not_text (g.C.Cells.cells c.args.row.now) c.loop-i.i c.field.result.now c.field.ensures (sym c.if-is_not_text.ensures)
