use Rattle.std.proofs.Common.{◌≡◌}
use Rattle.oim_convert.proofs.sending.close_waiting.Given as goal

abbrev pub invariant-loop : goal.invariant-loop
invariant-loop g l = l.feed ≡ l.fn.feed
