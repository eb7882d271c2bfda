use Rattle.oim_files.proofs.StepFacts.{not_opened, opened_is}
use Rattle.oim_files.proofs.steps.opened.Goals as goal

pub returns-in-Some-clause-gives : goal.returns-in-Some-clause-gives
returns-in-Some-clause-gives g c = opened_is g.R.Read.remaining c.in-Some.reader (g.F.Folder.files c.args.folder.now) c.args.path.now c.in-Some.ensures.opens

pub returns-in-None-clause-gives : goal.returns-in-None-clause-gives
returns-in-None-clause-gives g c =
    not_opened g.R.Read.remaining (g.F.Folder.files c.args.folder.now) c.args.path.now c.cannot_read.result c.in-None.ensures.opens c.cannot_read.ensures
