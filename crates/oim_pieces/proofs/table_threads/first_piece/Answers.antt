use Rattle.std.proofs.Common.{◌∙◌}
use Rattle.oim_pieces.proofs.Openings.{piece_is}
use Rattle.oim_pieces.proofs.table_threads.first_piece.Goals as goal

pub returns-clause-piece : goal.returns-clause-piece
returns-clause-piece c =
    piece_is c.here.result _ _ _ (c.here.ensures.0 ∙ c.of_head-asked.ensures.0 ∙ c.header.ensures) (c.here.ensures.1 ∙ c.of_head-asked.ensures.1) (c.here.ensures.2 ∙ c.of_head-asked.ensures.2)
