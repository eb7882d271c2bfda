use Rattle.std.proofs.Common.{◌≡◌}
use Rattle.oim_convert.proofs.pieces.make_ready.Given as goal

abbrev pub invariant-loop : goal.invariant-loop
invariant-loop g l = record {
  pieces : l.pieces ≡ l.fn.pieces;
  feed : l.feed ≡ l.fn.feed;
}
