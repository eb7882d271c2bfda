use Rattle.std.proofs.Common.{◌≡◌}
use Rattle.oim_pieces.proofs.memory.Memory.take_spares.Given as goal

abbrev pub invariant-loop : goal.invariant-loop
invariant-loop l = l.decoder ≡ l.fn.decoder
