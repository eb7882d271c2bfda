use Rattle.std.proofs.Common.{◌≡◌}
use Rattle.oim_pieces.proofs.thread_spares.ThreadSpares.lend.Given as goal

abbrev pub invariant-loop : goal.invariant-loop
invariant-loop g l = record {
  decoder : l.decoder ≡ l.fn.decoder;
}
