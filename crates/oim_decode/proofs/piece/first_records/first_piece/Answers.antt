use Rattle.std.proofs.Common.{[]}
use Rattle.oim_records.specs.PieceTaking.{bytes_left}
use Rattle.oim_records.specs.Reads.{left_behind}
use Rattle.oim_decode.proofs.HeadLaws.{none_found}
use Rattle.oim_decode.proofs.piece.first_records.first_piece.Goals as goal

pub returns-in-None-clause-none : goal.returns-in-None-clause-none
returns-in-None-clause-none g c =
    let end = rw c.in-None.is at c.in_ok-piece.ensures.piece in
    none_found (left_behind [] c.args.pieces.now) (bytes_left c.loop.pieces) c.loop.invariant end.0
