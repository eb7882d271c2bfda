use Rattle.oim_meta.proofs.LeastFault.{is_least}
use Rattle.oim_meta.proofs.fault_laws.first_fault_is_least.Goals as goal

pub returns : goal.returns
returns c = is_least
