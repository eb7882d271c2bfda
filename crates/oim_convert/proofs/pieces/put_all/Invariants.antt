use Rattle.std.proofs.Common.{◌≡◌, ◌++◌}
use Rattle.std.specs.Vec.Iter.{into_iter_items}
use Rattle.oim_rows.specs.Streams.{facts_of_rows}
use Rattle.oim_convert.specs.Histories.{facts_in}
use Rattle.oim_convert.proofs.pieces.put_all.Given as goal

abbrev pub invariant-loop-block : goal.invariant-loop-block
invariant-loop-block g l = record {
  ring : l.feed.ring ≡ l.fn.feed.ring;
  sent : facts_in l.feed.sent ++ facts_of_rows (into_iter_items l.block-iterator) ≡ facts_in l.fn.feed.sent ++ facts_of_rows l.fn.blocks.items;
}
