use Rattle.std.proofs.Common.{◌≡◌}
use Rattle.oim_pieces.proofs.helper_thread.look_again.Given as goal

abbrev pub invariant-loop : goal.invariant-loop
invariant-loop g l = record {
  share : l.share ≡ l.fn.share;
}
