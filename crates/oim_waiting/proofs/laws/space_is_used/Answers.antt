use Rattle.oim_waiting.proofs.CallLaws.{call_law}
use Rattle.oim_waiting.proofs.laws.space_is_used.Goals as goal

pub returns : goal.returns
returns c = call_law
