use Rattle.oim_meta.proofs.ReportFaults.{all_found}
use Rattle.oim_meta.proofs.finding_laws.a_walk_finds_all_faults.Goals as goal

pub returns : goal.returns
returns c = all_found
