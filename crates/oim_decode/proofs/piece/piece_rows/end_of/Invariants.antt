use Rattle.oim_decode.proofs.RowCuts.{EndsIn}
use Rattle.oim_decode.proofs.piece.piece_rows.end_of.Given as goal

abbrev pub invariant-loop-i : goal.invariant-loop-i
invariant-loop-i l = EndsIn l.fn.full l.fn.count l.i l.left
