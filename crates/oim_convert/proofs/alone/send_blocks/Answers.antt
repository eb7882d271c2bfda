use Rattle.std.proofs.Common.{ap, refl, ◌∙◌}
use Rattle.oim_convert.specs.Histories.{facts_in}
use Rattle.oim_convert.proofs.SentFacts.{block_given, end_given, facts_push, fault_given}
use Rattle.oim_convert.proofs.alone.send_blocks.Goals as goal

pub loop-init : goal.loop-init
loop-init g c = record {
  table = refl;
  ring = refl;
  reading = λ whole r. r;
}

pub loop-preserved : goal.loop-preserved
loop-preserved g c =
    let gives = rw (c.in-Ok-Some.field-0-is, c.loop.invariant.table) at c.in-Ok-Some.ensures.next in
    let block = c.in-Ok-Some.block in
    record {
      table = c.next_block.ensures.same.0 ∙ c.loop.invariant.table;
      ring = c.put_waiting.ensures.ring ∙ c.loop.invariant.ring;
      reading = λ whole r.
          block_given c.args.blocks.now.table whole (facts_in c.loop.feed.sent) c.loop.blocks.pending c.next_block.new.self.pending
          c.next_block.new.self.left c.loop.blocks.left block (facts_in c.put_waiting.new.feed.sent) (c.loop.invariant.reading whole r) gives
          (ap facts_in c.put_waiting.ensures.sent ∙ facts_push c.loop.feed.sent block);
    }

pub returns-in-Ok-None-clause-given : goal.returns-in-Ok-None-clause-given
returns-in-Ok-None-clause-given g c =
    let gives = rw (c.in-Ok-None.field-0-is, c.loop.invariant.table) at c.in-Ok-None.ensures.next in
    λ whole r.
    end_given c.args.blocks.now.table whole (facts_in c.loop.feed.sent) c.loop.blocks.pending c.next_block.new.self.pending c.loop.blocks.left c.next_block.new.self.left
    (c.loop.invariant.reading whole r) gives

pub returns-in-Err-clause-given : goal.returns-in-Err-clause-given
returns-in-Err-clause-given g c =
    let gives = rw (c.loop.invariant.table) at c.in-Err.ensures.next in
    λ whole r.
    fault_given c.args.blocks.now.table whole (facts_in c.loop.feed.sent) c.loop.blocks.pending c.next_block.new.self.pending c.loop.blocks.left c.next_block.new.self.left
    (c.loop.invariant.reading whole r) c.in-Err.fault gives
