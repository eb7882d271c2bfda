use Rattle.std.proofs.Common.{[]}
use Rattle.oim_records.specs.PieceTaking.{bytes_left}
use Rattle.oim_records.specs.Reads.{KeepsLeft, left_behind}
use Rattle.oim_pieces.specs.state.Cutting.{HasAtLeast}
use Rattle.oim_pieces.proofs.cutter.next_with_rows.Given as goal

abbrev pub invariant-loop : goal.invariant-loop
invariant-loop g l = record {
  rows : KeepsLeft (left_behind [] l.fn.pieces) (left_behind [] l.pieces);
  bytes : HasAtLeast (bytes_left l.fn.pieces) [] (bytes_left l.pieces);
}
