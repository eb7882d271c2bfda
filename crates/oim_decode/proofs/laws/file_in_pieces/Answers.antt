use Rattle.oim_decode.proofs.PieceLaws as law
use Rattle.oim_decode.proofs.laws.file_in_pieces.Goals as goal

pub returns : goal.returns
returns c = law.file_in_pieces
