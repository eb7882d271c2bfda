use Rattle.oim_decode.proofs.TwiceLaw.{same_twice}
use Rattle.oim_decode.proofs.laws.settled_tables_stay.Goals as goal

pub returns : goal.returns
returns c = same_twice
