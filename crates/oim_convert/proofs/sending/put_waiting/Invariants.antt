use Rattle.std.proofs.Common.{◌≡◌}
use Rattle.oim_convert.proofs.sending.put_waiting.Given as goal

abbrev pub invariant-loop : goal.invariant-loop
invariant-loop g l = (l.feed.ring ≡ l.fn.feed.ring) × (l.feed.sent ≡ l.fn.feed.sent) × (l.block ≡ l.fn.block)
