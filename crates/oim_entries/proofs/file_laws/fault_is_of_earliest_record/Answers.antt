use Rattle.std.proofs.Common.{[]}
use Rattle.oim_entries.specs.ParametersFile.{parameters_file}
use Rattle.oim_entries.specs.TypesFile.{types_file}
use Rattle.oim_entries.proofs.WholeFileLaws.{earliest_bad, earliest_back}
use Rattle.oim_entries.proofs.file_laws.fault_is_of_earliest_record.Goals as goal

pub returns-clause-parameters : goal.returns-clause-parameters
returns-clause-parameters c = λ rs e. (earliest_bad parameters_file 0 [] rs e, earliest_back parameters_file 0 [] rs e)

pub returns-clause-types : goal.returns-clause-types
returns-clause-types c = λ table rs e. (earliest_bad (types_file table) 0 [] rs e, earliest_back (types_file table) 0 [] rs e)
