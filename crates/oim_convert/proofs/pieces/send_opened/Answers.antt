use Rattle.std.proofs.Common.{[], ap, refl, subst, sym, ◌∙◌}
use Rattle.std.proofs.lemmas.Option.{IfSome_then}
use Rattle.oim_convert.specs.Histories.{facts_in}
use Rattle.oim_pieces.specs.PiecesLeft.{PiecesLeft}
use Rattle.oim_ring.specs.Ends.{FeedView}
use Rattle.oim_convert.specs.state.Reading.{IsReading}
use Rattle.oim_convert.proofs.SentFacts.{block_given, end_given, fault_given, reading_begins, reading_kept, rest_given}
use Rattle.oim_rows.specs.Streams.{facts_of_rows}
use Rattle.oim_convert.proofs.pieces.send_opened.Goals as goal

pub loop-init : goal.loop-init
loop-init g c = record {
  table = refl;
  ring = refl;
  reading = reading_begins c.args.pieces.table c.args.pieces.left (facts_in c.args.feed.now.sent) [] (ap facts_in c.requires.fresh) refl;
}

pub loop-preserved : goal.loop-preserved
loop-preserved g c =
    let back = c.in-Err.back in
    let table = c.in-Err.ensures.pieces.0 ∙ c.loop.invariant.table in
    let gives = rw (c.in-Ok-Some.field-0-is, table) at c.in-Ok-Some.ensures.blocks in
    let blocks = c.in-Ok-Some.blocks in
    record {
      table = ap (λ (p : PiecesLeft). p.table) c.make_ready.ensures.pieces ∙ c.next_blocks.ensures.same.0 ∙ table;
      ring = ap (λ (f : FeedView). f.ring) c.make_ready.ensures.feed ∙ c.put_all.ensures.ring ∙ c.loop.invariant.ring;
      reading = IfSome_then c.args.pieces.left c.loop.invariant.reading (λ whole r.
          subst (λ (p : PiecesLeft). IsReading c.args.pieces.table whole (facts_in c.make_ready.new.feed.sent) [] p.left)
          (sym c.make_ready.ensures.pieces)
          (subst (λ (f : FeedView). IsReading c.args.pieces.table whole (facts_in f.sent) [] c.next_blocks.new.self.left)
          (sym c.make_ready.ensures.feed)
          (block_given c.args.pieces.table whole (facts_in c.loop.feed.sent) [] [] c.next_blocks.new.self.left back.left
          (facts_of_rows blocks.items) (facts_in c.put_all.new.feed.sent)
          (reading_kept c.args.pieces.table whole (facts_in c.loop.feed.sent) [] c.loop.pieces.left back.left r c.in-Err.ensures.pieces.1) gives c.put_all.ensures.sent)));
    }

pub returns-in-Ok-clause-given : goal.returns-in-Ok-clause-given
returns-in-Ok-clause-given g c =
    let rest = c.in-Ok.rest in
    IfSome_then c.args.pieces.left c.loop.invariant.reading (λ whole r.
    rest_given c.args.pieces.table rest.table whole (facts_in c.loop.feed.sent) (facts_in c.send_blocks.new.feed.sent) rest.pending c.loop.pieces.left rest.left
    c.send_blocks.result (c.in-Ok.ensures.rest.0 ∙ c.loop.invariant.table) c.in-Ok.ensures.rest.1 c.in-Ok.ensures.rest.2 r (c.send_blocks.ensures.given whole))

pub returns-in-Ok-None-clause-given : goal.returns-in-Ok-None-clause-given
returns-in-Ok-None-clause-given g c =
    let back = c.in-Err.back in
    let gives = rw (c.in-Ok-None.field-0-is, c.in-Err.ensures.pieces.0 ∙ c.loop.invariant.table) at c.in-Ok-None.ensures.end in
    rw c.leave.ensures (IfSome_then c.args.pieces.left c.loop.invariant.reading (λ whole r.
    end_given c.args.pieces.table whole (facts_in c.loop.feed.sent) [] [] back.left c.next_blocks.new.self.left
    (reading_kept c.args.pieces.table whole (facts_in c.loop.feed.sent) [] c.loop.pieces.left back.left r c.in-Err.ensures.pieces.1) gives))

pub returns-in-Err-next_blocks-clause-given : goal.returns-in-Err-next_blocks-clause-given
returns-in-Err-next_blocks-clause-given g c =
    let back = c.in-Err.back in
    let gives = rw (c.in-Err.ensures.pieces.0 ∙ c.loop.invariant.table) at c.in-Err-next_blocks.ensures.fault in
    rw c.leave-in-Err-next_blocks.ensures (IfSome_then c.args.pieces.left c.loop.invariant.reading (λ whole r.
    fault_given c.args.pieces.table whole (facts_in c.loop.feed.sent) [] [] back.left c.next_blocks.new.self.left
    (reading_kept c.args.pieces.table whole (facts_in c.loop.feed.sent) [] c.loop.pieces.left back.left r c.in-Err.ensures.pieces.1) c.in-Err-next_blocks.fault gives))
