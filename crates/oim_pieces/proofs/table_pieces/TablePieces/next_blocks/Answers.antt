use Rattle.std.proofs.Common.{ap, refl, sym, subst, ◌∙◌}
use Rattle.oim_rows.specs.Streams.{facts_of_rows}
use Rattle.oim_decode.specs.state.Blocks.{end_or_left}
use Rattle.oim_pieces.specs.PiecesLeft.{KeepsStream, PiecesLeft}
use Rattle.oim_pieces.specs.state.PiecesUnderWay.{stream_in}
use Rattle.oim_pieces.proofs.Gives.{fault_given, piece_given, short_given}
use Rattle.oim_pieces.proofs.table_pieces.TablePieces.next_blocks.Goals as goal

pub returns-in-Some-join_front-clause-blocks : goal.returns-in-Some-join_front-clause-blocks
returns-in-Some-join_front-clause-blocks g c =
    let pieces_under_way = c.self.inside.pieces_under_way in
    let ahead = c.cut_ahead.new.self in
    let joined = c.in-Some-join_front.joined in
    let kept = c.cut_ahead.ensures.stream in
    let old = ap (λ o. end_or_left o (stream_in pieces_under_way)) (sym c.in-None.is) ∙ ap (λ (p : PiecesLeft). p.left) c.self.view_is in
    let table = c.cut_ahead.ensures.table.0 ∙ ap (λ (p : PiecesLeft). p.table) c.self.view_is in
    let read = rw c.in-Some-join_front.is at c.join_front.ensures.some in
    let gave = rw c.in-None.is at c.give.ensures.blocks in
    piece_given c.args.self.now.table (λ blocks. facts_of_rows blocks.items) c.give.result c.args.self.now.left (stream_in ahead) (stream_in c.join_front.new.self) joined.rows joined.fault
    _ (subst (λ o. KeepsStream o (stream_in ahead)) old kept) (rw table at read) gave

pub returns-in-Some-join_front-clause-fault : goal.returns-in-Some-join_front-clause-fault
returns-in-Some-join_front-clause-fault g c =
    let pieces_under_way = c.self.inside.pieces_under_way in
    let ahead = c.cut_ahead.new.self in
    let joined = c.in-Some-join_front.joined in
    let kept = c.cut_ahead.ensures.stream in
    let old = ap (λ o. end_or_left o (stream_in pieces_under_way)) (sym c.in-None.is) ∙ ap (λ (p : PiecesLeft). p.left) c.self.view_is in
    let table = c.cut_ahead.ensures.table.0 ∙ ap (λ (p : PiecesLeft). p.table) c.self.view_is in
    let read = rw c.in-Some-join_front.is at c.join_front.ensures.some in
    let short = rw (c.join_front.ensures.table.0 ∙ table) at c.give.ensures.fault in
    short_given c.args.self.now.table c.give.result c.args.self.now.left (stream_in ahead) (stream_in c.join_front.new.self) joined.rows joined.fault
    _ (subst (λ o. KeepsStream o (stream_in ahead)) old kept) (rw table at read) short

pub returns-in-None-join_front-clause-fault : goal.returns-in-None-join_front-clause-fault
returns-in-None-join_front-clause-fault g c =
    let table = c.join_front.ensures.table.0 ∙ c.cut_ahead.ensures.table.0 ∙ ap (λ (p : PiecesLeft). p.table) c.self.view_is in
    fault_given c.args.self.now.table c.answer_of-in-None-join_front.result c.args.self.now.left (stream_in c.join_front.new.self) _ c.end-end.result
    (rw table at c.end-end.ensures) c.answer_of-in-None-join_front.ensures.err refl
