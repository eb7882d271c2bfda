use Rattle.std.proofs.Common.{◌∙◌, subst, IfSome}
use Rattle.oim_files.specs.Steps.{GivesRest}
use Rattle.oim_files.proofs.StepFacts.{metadata_stop, with_rest}
use Rattle.oim_files.proofs.steps.report_of.Goals as goal

pub returns-in-Err-clause-gives : goal.returns-in-Err-clause-gives
returns-in-Err-clause-gives g c =
    metadata_stop (g.F.Folder.files c.args.folder.now) c.args.base.now c.args.meta.now c.args.types.now c.in-Err.early c.in-Err.ensures.gives

pub returns-clause-gives : goal.returns-clause-gives
returns-clause-gives g c =
    with_rest (g.F.Folder.files c.args.folder.now) c.args.base.now c.args.meta.now c.args.types.now c.in-Ok.bytes.items c.report_with.result c.in-Ok.ensures.gives
    (subst (λ k. IfSome k (λ files. GivesRest files c.args.base.now c.in-Ok.bytes.items c.args.types.now c.report_with.result)) c.in-Ok.ensures.same c.report_with.ensures.gives)

pub returns-in-Err-clause-same : goal.returns-in-Err-clause-same
returns-in-Err-clause-same g c = c.in-Err.ensures.same

pub returns-clause-same : goal.returns-clause-same
returns-clause-same g c = c.report_with.ensures.same ∙ c.in-Ok.ensures.same
