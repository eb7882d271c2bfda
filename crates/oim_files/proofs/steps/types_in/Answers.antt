use Rattle.std.proofs.Common.{None, ap}
use Rattle.oim_records.specs.Grids.{grid}
use Rattle.oim_entries.specs.TypesFile.{types_entries}
use Rattle.oim_entries.specs.declared.fault.MetaFault.TheVariants.{BadTypes}
use Rattle.oim_files.specs.Steps.{reading, types_at}
use Rattle.oim_files.specs.declared.early_fault.EarlyFault.TheVariants as early
use Rattle.oim_files.specs.declared.early_fault.Source.TheVariants as source
use Rattle.oim_files.proofs.StepFacts.{reads_fault, reads_none, reads_value}
use Rattle.oim_files.proofs.steps.types_in.Goals as goal

pub returns-in-Err-clause-gives : goal.returns-in-Err-clause-gives
returns-in-Err-clause-gives g c =
    reads_none (λ files path. reading source.Types None BadTypes (types_at files path)) (g.F.Folder.files c.args.folder.now) c.args.path.now c.in-Err.early c.in-Err.ensures.gives

pub returns-in-Ok-read_types_at-clause-gives : goal.returns-in-Ok-read_types_at-clause-gives
returns-in-Ok-read_types_at-clause-gives g c =
    reads_value g.R.Read.remaining c.in-Ok.reader source.Types None BadTypes (λ bytes. types_entries (grid bytes)) (g.F.Folder.files c.args.folder.now) c.args.path.now
    c.in-Ok-read_types_at.types
    c.in-Ok.ensures.gives c.in-Ok-read_types_at.ensures

pub returns-in-Err-read_types_at-clause-gives : goal.returns-in-Err-read_types_at-clause-gives
returns-in-Err-read_types_at-clause-gives g c =
    reads_fault g.R.Read.remaining c.in-Ok.reader source.Types None BadTypes (λ bytes. types_entries (grid bytes)) (g.F.Folder.files c.args.folder.now) c.args.path.now
    c.in-Err-read_types_at.refusal (early.Report source.Types c.of_refusal-fault.result) (ap (early.Report source.Types) c.of_refusal-fault.ensures)
    c.in-Ok.ensures.gives c.in-Err-read_types_at.ensures
