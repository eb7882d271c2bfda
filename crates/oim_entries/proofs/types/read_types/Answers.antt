use Rattle.oim_entries.proofs.PublishedFaults.{types_published, told}
use Rattle.oim_entries.specs.TypesFile.{types_entries, types_result}
use Rattle.oim_entries.specs.declared.fault.MetaFault.TheVariants.{BadTypes}
use Rattle.oim_entries.proofs.types.read_types.Goals as goal

pub returns-in-Ok : goal.returns-in-Ok
returns-in-Ok g c =
    let h = told BadTypes c.read_types_at.result types_entries types_result types_published (g.R.Read.remaining c.args.reader) c.read_types_at.ensures in
    rw c.in-Ok.is at h

pub returns-in-Err : goal.returns-in-Err
returns-in-Err g c =
    let h = told BadTypes c.read_types_at.result types_entries types_result types_published (g.R.Read.remaining c.args.reader) c.read_types_at.ensures in
    rw c.fault.ensures (rw c.in-Err.is at h)
