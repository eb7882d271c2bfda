use Rattle.std.proofs.Common.{◌≡◌, [], IfSome}
use Rattle.oim_convert.specs.Histories.{facts_in}
use Rattle.oim_convert.specs.state.Reading.{IsReading}
use Rattle.oim_convert.proofs.pieces.send_opened.Given as goal

abbrev pub invariant-loop : goal.invariant-loop
invariant-loop g l = record {
  table : l.pieces.table ≡ l.fn.pieces.table;
  ring : l.feed.ring ≡ l.fn.feed.ring;
  reading : IfSome l.fn.pieces.left (λ whole. IsReading l.fn.pieces.table whole (facts_in l.feed.sent) [] l.pieces.left);
}
