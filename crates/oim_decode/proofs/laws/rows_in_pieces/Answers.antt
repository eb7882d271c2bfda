use Rattle.oim_decode.proofs.ApartLaws as law
use Rattle.oim_decode.proofs.laws.rows_in_pieces.Goals as goal

pub returns-clause-pieces : goal.returns-clause-pieces
returns-clause-pieces c = law.rows_in_pieces

pub returns-clause-first : goal.returns-clause-first
returns-clause-first c = law.piece_then_rest
