use Rattle.std.proofs.Common.{[]}
use Rattle.oim_records.specs.Reads.{KeepsLeft, left_behind}
use Rattle.oim_decode.proofs.piece.first_records.first_piece.Given as goal

abbrev pub invariant-loop : goal.invariant-loop
invariant-loop g l = KeepsLeft (left_behind [] l.fn.pieces) (left_behind [] l.pieces)
