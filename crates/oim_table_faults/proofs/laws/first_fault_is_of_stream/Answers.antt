use Rattle.oim_table_faults.proofs.FirstFaults as law
use Rattle.oim_table_faults.proofs.laws.first_fault_is_of_stream.Goals as goal

pub returns-clause-first : goal.returns-clause-first
returns-clause-first c = law.first_is_of_stream

pub returns-clause-none : goal.returns-clause-none
returns-clause-none c = law.none_if_not_refused
