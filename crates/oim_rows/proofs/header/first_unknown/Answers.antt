use Rattle.std.proofs.Common.{◌∙◌, sym}
use Rattle.oim_rows.proofs.Places.{position_from-here, position_from-next}
use Rattle.oim_report.specs.Readers.{columns_of}
use Rattle.oim_rows.specs.Header.{is_unknown}
use Rattle.oim_rows.proofs.header.first_unknown.Goals as goal

pub returns-then-is_unknown_cell : goal.returns-then-is_unknown_cell
returns-then-is_unknown_cell g c =
    sym (c.loop-i.invariant ∙ position_from-here (is_unknown (columns_of c.args.report.now c.args.table)) (g.C.Cells.cells c.args.row.now) c.loop-i.i c.field.result.now c.field.ensures (sym c.if-is_unknown_cell.ensures))

pub loop-i-preserved : goal.loop-i-preserved
loop-i-preserved g c =
    c.loop-i.invariant ∙ position_from-next (is_unknown (columns_of c.args.report.now c.args.table)) (g.C.Cells.cells c.args.row.now) c.loop-i.i c.field.result.now c.field.ensures (sym c.if-is_unknown_cell.ensures)
