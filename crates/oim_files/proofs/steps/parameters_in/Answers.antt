use Rattle.oim_files.proofs.StepFacts.{no_parameters}
use Rattle.oim_files.proofs.steps.parameters_in.Goals as goal

pub returns-in-None-clause-gives : goal.returns-in-None-clause-gives
returns-in-None-clause-gives g c = no_parameters (g.F.Folder.files c.args.folder.now) c.args.base.now c.args.url c.none.result c.in-None.is c.none.ensures
