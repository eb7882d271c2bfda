use Rattle.std.proofs.Common.{◌∙◌, ap}
use Rattle.oim_records.specs.Pieces.{unread}
use Rattle.oim_records.proofs.PieceReads.{no-record}
use Rattle.oim_records.proofs.piece_records.PieceRecords.take_spare.Goals as goal

pub returns : goal.returns
returns c = c.replace.ensures ∙ ap unread no-record
