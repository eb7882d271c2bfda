use Rattle.std.proofs.Common.{◌+◌, ap, sym, ◌∙◌}
use Rattle.oim_records.specs.PieceTaking.{bytes_left}
use Rattle.oim_rows.specs.RowFacts.{TableHeaderValue}
use Rattle.oim_pieces.specs.state.Cutting.{CutterLeft}
use Rattle.oim_pieces.proofs.Openings.{behind_chain, behind_next, behind_stream}
use Rattle.oim_pieces.proofs.pieces_under_way.PiecesUnderWay.after_head.Goals as goal

pub invariant_of-result : goal.invariant_of-result
invariant_of-result g c =
    let threads = c.in-Ok.ensures.threads in
    let next = ap (λ (x : CutterLeft). x.next) c.new.ensures ∙ ap (λ n. 1 + n) c.rows-rows.ensures in (
      ap (λ (x : TableHeaderValue). x.table) threads ∙ sym (ap (λ (x : CutterLeft). x.table) c.new.ensures),
      ap (λ (x : TableHeaderValue). x.limit) threads ∙ sym (ap (λ (x : CutterLeft). x.limit) c.new.ensures),
      behind_chain c.args.report.now c.args.table c.args.limit c.args.head _ _ _ c.in-Ok.ensures.pieces (sym threads) c.requires.header next,
    )

pub returns-in-Ok-clause-stream : goal.returns-in-Ok-clause-stream
returns-in-Ok-clause-stream g c =
    behind_stream c.args.report.now c.args.table c.args.limit c.args.head (bytes_left c.args.pieces) _ _ _ c.new.result.next _
    c.in-Ok.ensures.threads c.new-in-Ok.ensures c.in-Ok.ensures.pieces (ap (λ (x : CutterLeft). x.left) c.new.ensures) c.requires.header
    (ap (λ (x : CutterLeft). x.next) c.new.ensures ∙ ap (λ n. 1 + n) c.rows-rows.ensures) c.in-Ok.ensures.header

pub returns-in-Ok-clause-next : goal.returns-in-Ok-clause-next
returns-in-Ok-clause-next g c =
    behind_next c.args.report.now c.args.table c.args.limit c.args.head _ c.new.result.next c.in-Ok.ensures.pieces
    (ap (λ (x : CutterLeft). x.next) c.new.ensures ∙ ap (λ n. 1 + n) c.rows-rows.ensures)
