use Rattle.std.proofs.Common.{Err, None, Ok, Some, ap, refl, rules}
use Rattle.oim_records.specs.Grids.{grid}
use Rattle.oim_entries.specs.ParametersFile.{parameters_entries}
use Rattle.oim_entries.specs.declared.fault.MetaFault.TheVariants.{BadParameter}
use Rattle.oim_files.specs.Steps.{bytes_at, reading}
use Rattle.oim_files.specs.declared.early_fault.EarlyFault.TheVariants as early
use Rattle.oim_files.specs.declared.early_fault.Source.TheVariants as source
use Rattle.oim_files.proofs.StepFacts.{at_path, no_path, reads_fault, reads_none, reads_value}
use Rattle.oim_files.proofs.steps.parameters_of.Goals as goal

pub returns-in_default-clause-gives : goal.returns-in_default-clause-gives
returns-in_default-clause-gives g c = no_path (g.F.Folder.files c.args.folder.now) c.args.base.now c.args.url.now early.Memory refl

pub returns-in-Err-clause-gives : goal.returns-in-Err-clause-gives
returns-in-Err-clause-gives g c =
    at_path (g.F.Folder.files c.args.folder.now) c.args.base.now c.args.url.now c.as_str.result.now (Err c.in-Err.early) (search rules)
    (reads_none (λ files path. reading source.Parameters (Some path) BadParameter (parameters_entries (grid (bytes_at files path))))
    (g.F.Folder.files c.args.folder.now) c.as_str.result.now c.in-Err.early c.in-Err.ensures.gives)

pub returns-in-Ok-read_parameters_at-clause-gives : goal.returns-in-Ok-read_parameters_at-clause-gives
returns-in-Ok-read_parameters_at-clause-gives g c =
    at_path (g.F.Folder.files c.args.folder.now) c.args.base.now c.args.url.now c.as_str.result.now (Ok c.in-Ok-read_parameters_at.parameters) (search rules)
    (reads_value g.R.Read.remaining c.in-Ok-opened.reader source.Parameters (Some c.as_str.result.now) BadParameter (λ bytes.
    parameters_entries (grid bytes)) (g.F.Folder.files c.args.folder.now) c.as_str.result.now c.in-Ok-read_parameters_at.parameters
    c.in-Ok-opened.ensures.gives c.in-Ok-read_parameters_at.ensures)

pub returns-in-Err-read_parameters_at-clause-gives : goal.returns-in-Err-read_parameters_at-clause-gives
returns-in-Err-read_parameters_at-clause-gives g c =
    at_path (g.F.Folder.files c.args.folder.now) c.args.base.now c.args.url.now c.as_str.result.now (Err (early.Report source.Parameters c.of_refusal-fault.result)) (search rules)
    (reads_fault g.R.Read.remaining c.in-Ok-opened.reader source.Parameters (Some c.as_str.result.now) BadParameter (λ bytes.
    parameters_entries (grid bytes)) (g.F.Folder.files c.args.folder.now) c.as_str.result.now c.in-Err-read_parameters_at.refusal
    (early.Report source.Parameters c.of_refusal-fault.result) (ap (early.Report source.Parameters) (search rules))
    c.in-Ok-opened.ensures.gives c.in-Err-read_parameters_at.ensures)
