use Rattle.std.proofs.Common.{◌≡◌, ◌++◌, length}
use Rattle.oim_rows.specs.Streams.{facts_of_rows}
use Rattle.oim_decode.proofs.piece.piece_blocks.push_blocks.Given as goal

abbrev pub invariant-loop-alloc : goal.invariant-loop-alloc
invariant-loop-alloc l = facts_of_rows l.blocks.items ++ l.facts ≡ facts_of_rows l.fn.blocks.items ++ l.fn.facts

abbrev pub decreases-loop-alloc : goal.decreases-loop-alloc
decreases-loop-alloc l = length l.facts
