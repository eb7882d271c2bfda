use Rattle.std.proofs.Common.{[]}
use Rattle.oim_records.specs.PieceTaking.{bytes_left}
use Rattle.oim_records.specs.Reads.{left_behind}
use Rattle.oim_pieces.proofs.CutLaws.{rows_ended}
use Rattle.oim_pieces.proofs.cutter.next_with_rows.Goals as goal

pub returns-in-None-clause-end : goal.returns-in-None-clause-end
returns-in-None-clause-end g c =
    let end = rw c.in-None.is at c.in_ok-piece.ensures.piece in
    rows_ended (left_behind [] c.args.pieces.now) (bytes_left c.loop.pieces) c.loop.invariant.rows end.0
