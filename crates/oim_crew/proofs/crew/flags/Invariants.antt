use Rattle.std.proofs.Common.{◌≡◌, ◌≤◌, vec_capacity, vec_len}
use Rattle.oim_crew.proofs.crew.flags.Given as goal

abbrev pub invariant-loop-made : goal.invariant-loop-made
invariant-loop-made l = (vec_len l.stops ≡ l._made) × (l.workers ≤ vec_capacity l.stops)
