use Rattle.std.proofs.Common.{◌≡◌, length}
use Rattle.oim_pieces.proofs.pieces_under_way.PiecesUnderWay.drain.Given as goal

abbrev pub invariant-loop : goal.invariant-loop
invariant-loop g l = record {
  table : l.self.cutter.table ≡ l.fn.self.cutter.table;
  limit : l.self.cutter.limit ≡ l.fn.self.cutter.limit;
}

abbrev pub decreases-loop : goal.decreases-loop
decreases-loop g l = length l.self.pieces
