use Rattle.std.proofs.Common.{◌≡◌, [], Some, None, ap, sym, subst, ◌∙◌, arith}
use Rattle.oim_records.specs.Reads.{KeepsLeft, left_behind}
use Rattle.oim_pieces.specs.state.Cutting.{CutterLeft, left_over}
use Rattle.oim_pieces.proofs.RecordCounts.{rows_few}
use Rattle.oim_pieces.proofs.cutter.Cutter.cut.Goals as goal

pub overflow_add-self : goal.overflow_add-self
overflow_add-self g c =
    let piece = c.in-Ok-Some.field-0-0 in
    let few = rows_few piece.bytes.items in
    let is = rw c.in-Ok-Some.field-0-is at c.in-Ok-Some.ensures.records in
    omega (arith, few, is, c.if-self.false, c.self.invariant.0, piece.bytes.ok, piece.bytes.small)

pub returns-in-Ok-None-clause-none : goal.returns-in-Ok-None-clause-none
returns-in-Ok-None-clause-none g c =
    let end = rw c.in-Ok-None.field-0-is at c.in-Ok-None.ensures.end in
    let left = ap (λ o. left_over o (left_behind [] c.self.inside.pieces)) (sym c.in-None.is) ∙ ap (λ (x : CutterLeft). x.left) c.self.view_is in
    (subst (λ l. KeepsLeft l (Some [])) left end, ap (λ (x : CutterLeft). x.next) c.self.view_is)
