use Rattle.std.proofs.Common.{◌++◌, ◌∙◌}
use Rattle.std.specs.Vec.Iter.{into_iter_items}
use Rattle.oim_rows.specs.Streams.{facts_of_rows}
use Rattle.oim_convert.specs.Histories.{facts_in}
use Rattle.oim_convert.proofs.PutBlocks.{block_put}
use Rattle.oim_convert.proofs.pieces.put_all.Goals as goal

pub loop-block-preserved : goal.loop-block-preserved
loop-block-preserved g c = record {
  ring = c.put_waiting.ensures.ring ∙ c.loop-block.invariant.ring;
  sent = block_put c.loop-block.feed.sent c.put_waiting.new.feed.sent c.in-Some.block (facts_in c.args.feed.now.sent ++ facts_of_rows c.args.blocks.items)
      (into_iter_items c.loop-block.block-iterator) (into_iter_items c.next.new.self) c.loop-block.invariant.sent c.in-Some.ensures.steps.0 c.put_waiting.ensures.sent;
}
