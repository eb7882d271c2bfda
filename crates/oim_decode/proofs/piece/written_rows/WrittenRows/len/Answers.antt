use Rattle.std.proofs.Common.{ap, arith, length}
use Rattle.oim_decode.proofs.RowCuts.{counts_length}
use Rattle.oim_decode.proofs.piece.written_rows.WrittenRows.len.Goals as goal

pub returns : goal.returns
returns c = omega (arith, c.len.ensures, ap length c.self.invariant.1, counts_length 0 c.self.inside.rows.value, ap length c.self.view_is)
