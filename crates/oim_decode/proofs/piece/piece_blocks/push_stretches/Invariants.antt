use Rattle.std.proofs.Common.{◌≡◌, ◌++◌}
use Rattle.std.specs.Vec.Iter.{into_iter_items}
use Rattle.oim_rows.specs.Streams.{facts_of_rows}
use Rattle.oim_decode.specs.state.RowEnds.{stretches}
use Rattle.oim_decode.proofs.piece.piece_blocks.push_stretches.Given as goal

abbrev pub invariant-loop-stretch : goal.invariant-loop-stretch
invariant-loop-stretch l = facts_of_rows l.blocks.items ++ facts_of_rows (stretches (into_iter_items l.stretch-iterator)) ≡ facts_of_rows l.fn.blocks.items ++ facts_of_rows (stretches l.fn.full.items)
