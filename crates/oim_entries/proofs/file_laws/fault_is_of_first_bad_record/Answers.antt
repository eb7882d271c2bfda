use Rattle.oim_entries.proofs.PublishedFaults.{parameters_published, types_published}
use Rattle.oim_entries.proofs.file_laws.fault_is_of_first_bad_record.Goals as goal

pub returns-clause-parameters : goal.returns-clause-parameters
returns-clause-parameters c = parameters_published

pub returns-clause-types : goal.returns-clause-types
returns-clause-types c = types_published
