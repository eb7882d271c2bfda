use Rattle.oim_entries.proofs.PublishedFaults.{parameters_published, told}
use Rattle.oim_entries.specs.ParametersFile.{parameters_entries, parameters_result}
use Rattle.oim_entries.specs.declared.fault.MetaFault.TheVariants.{BadParameter}
use Rattle.oim_entries.proofs.parameters.read_parameters.Goals as goal

pub returns-in-Ok : goal.returns-in-Ok
returns-in-Ok g c =
    let h = told BadParameter c.read_parameters_at.result parameters_entries parameters_result parameters_published (g.R.Read.remaining c.args.reader) c.read_parameters_at.ensures in
    rw c.in-Ok.is at h

pub returns-in-Err : goal.returns-in-Err
returns-in-Err g c =
    let h = told BadParameter c.read_parameters_at.result parameters_entries parameters_result parameters_published (g.R.Read.remaining c.args.reader) c.read_parameters_at.ensures in
    rw c.fault.ensures (rw c.in-Err.is at h)
