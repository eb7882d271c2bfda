use Rattle.oim_decode.proofs.JoinLaws as law
use Rattle.oim_decode.proofs.laws.joined_pieces_are_read.Goals as goal

pub returns : goal.returns
returns c = law.piece_is_read
