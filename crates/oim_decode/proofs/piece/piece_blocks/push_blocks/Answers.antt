use Rattle.std.proofs.Common.{◌++◌, ap, arith, length}
use Rattle.std.proofs.lemmas.List.{length-drop}
use Rattle.oim_rows.specs.Streams.{facts_of_rows}
use Rattle.oim_decode.proofs.BlockLists.{block_more, block_taken}
use Rattle.oim_decode.proofs.piece.piece_blocks.push_blocks.Goals as goal

pub loop-alloc-smaller : goal.loop-alloc-smaller
loop-alloc-smaller c = omega (arith, c.count.ensures, c.loop-alloc-test.true, ap length c.in_ok-block.ensures.left, length-drop 256 c.loop-alloc.facts)

pub loop-alloc-preserved : goal.loop-alloc-preserved
loop-alloc-preserved c =
    block_more c.loop-alloc.blocks.items c.push.new.self.items (facts_of_rows c.args.blocks.now.items ++ c.args.facts) c.in_ok-block.block c.loop-alloc.facts c.take_block.new.self
    c.loop-alloc.invariant c.in_ok-push.ensures.items (block_taken 256 c.loop-alloc.facts c.in_ok-block.block c.take_block.new.self c.in_ok-block.ensures.block c.in_ok-block.ensures.left)
