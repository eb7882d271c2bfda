use Rattle.std.proofs.Common.{◌≡◌, length}
use Rattle.oim_schema.specs.HexBinary.{are_octets}
use Rattle.oim_schema.proofs.hex_binary.are_octets.Given as goal

abbrev pub invariant-loop-others : goal.invariant-loop-others
invariant-loop-others l = are_octets l.rest ≡ are_octets l.text

abbrev pub decreases-loop-others : goal.decreases-loop-others
decreases-loop-others l = length l.rest
