use Rattle.std.proofs.Common.{◌≡◌}
use Rattle.oim_convert.specs.Histories.{facts_in}
use Rattle.oim_convert.specs.state.Reading.{IsReading}
use Rattle.oim_rows.specs.Streams.{Stream}
use Rattle.oim_convert.proofs.alone.send_blocks.Given as goal

abbrev pub invariant-loop : goal.invariant-loop
invariant-loop g l = record {
  table : l.blocks.table ≡ l.fn.blocks.table;
  ring : l.feed.ring ≡ l.fn.feed.ring;
  reading : (whole : Stream) → IsReading l.fn.blocks.table whole (facts_in l.fn.feed.sent) l.fn.blocks.pending l.fn.blocks.left
      → IsReading l.fn.blocks.table whole (facts_in l.feed.sent) l.blocks.pending l.blocks.left;
}
