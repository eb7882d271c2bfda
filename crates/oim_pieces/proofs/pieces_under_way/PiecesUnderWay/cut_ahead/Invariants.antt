use Rattle.std.proofs.Common.{◌≡◌}
use Rattle.oim_pieces.specs.PiecesLeft.{KeepsStream, NoMoreSteps}
use Rattle.oim_pieces.specs.state.PiecesUnderWay.{next_row, steps_in, stream_in}
use Rattle.oim_pieces.proofs.pieces_under_way.PiecesUnderWay.cut_ahead.Given as goal

abbrev pub invariant-loop : goal.invariant-loop
invariant-loop g l = record {
  stream : KeepsStream (stream_in l.fn.self) (stream_in l.self);
  steps : NoMoreSteps (steps_in l.fn.self) (steps_in l.self);
  next : next_row l.self ≡ next_row l.fn.self;
  table : l.self.cutter.table ≡ l.fn.self.cutter.table;
  limit : l.self.cutter.limit ≡ l.fn.self.cutter.limit;
}
