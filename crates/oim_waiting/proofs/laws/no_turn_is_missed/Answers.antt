use Rattle.oim_waiting.proofs.TurnLaws.{turn_law}
use Rattle.oim_waiting.proofs.laws.no_turn_is_missed.Goals as goal

pub returns : goal.returns
returns c = turn_law
