use Rattle.std.proofs.Common.{◌≡◌, true}
use Rattle.oim_ring.specs.Items.{blocks_only}
use Rattle.oim_merge.specs.Writers.{given}
use Rattle.oim_merge.proofs.merging.take_all.Given as goal

abbrev pub invariant-loop : goal.invariant-loop
invariant-loop g l = record {
  ring : l.drain.ring ≡ l.fn.drain.ring;
  blocks : blocks_only l.drain.taken ≡ true;
  faults : l.faults ≡ l.fn.faults;
  given : l.writer ≡ given l.fn.writer l.drain.taken (g.W.Sink.seen l.sink);
}
