use Rattle.std.proofs.Common.{◌≡◌, ◌∙◌, ◌∷◌, [], Ok, sym, subst, IfSome}
use Rattle.serde_json.specs.View.{view}
use Rattle.oim_report.specs.ReportValue.{ReportValue}
use Rattle.oim_files.specs.Metadata.{profile, report_in}
use Rattle.oim_files.specs.Steps.{Stops, TakesTo, looking, parameters_steps}
use Rattle.oim_files.proofs.MetadataFacts.{reads_value}
use Rattle.oim_files.proofs.StepFacts.{HasParameters, parameters_stop, report_stop, types_stop, url_stop}
use Rattle.oim_files.proofs.steps.report_with.Goals as goal

pub returns-in-Err-clause-gives : goal.returns-in-Err-clause-gives
returns-in-Err-clause-gives g c =
    types_stop (g.F.Folder.files c.args.folder.now) c.args.base.now c.args.types.now c.args.bytes.items c.in-Err.early c.in-Err.ensures.gives

pub returns-in-Err-metadata_in-clause-gives : goal.returns-in-Err-metadata_in-clause-gives
returns-in-Err-metadata_in-clause-gives g c =
    url_stop (g.F.Folder.files c.args.folder.now) c.args.base.now c.args.types.now c.args.bytes.items c.in-Ok.types c.in-Err-metadata_in.early
    c.in-Ok.ensures.gives c.in-Err-metadata_in.ensures.gives

pub returns-in-Err-parameters_in-clause-gives : goal.returns-in-Err-parameters_in-clause-gives
returns-in-Err-parameters_in-clause-gives g c =
    parameters_stop (g.F.Folder.files c.args.folder.now) c.args.base.now c.args.types.now c.args.bytes.items c.in-Ok.types c.in-Ok-metadata_in.found.1 c.in-Err-parameters_in.early
    c.in-Ok.ensures.gives (c.in-Ok-metadata_in.ensures.gives.0, c.in-Ok-metadata_in.ensures.gives.1.1)
    (subst (λ k. IfSome k (λ files. Stops (parameters_steps files c.args.base.now c.in-Ok-metadata_in.found.1) c.in-Err-parameters_in.early))
    c.in-Ok.ensures.same c.in-Err-parameters_in.ensures.gives)

pub returns-clause-gives : goal.returns-clause-gives
returns-clause-gives g c =
    report_stop (g.F.Folder.files c.args.folder.now) c.args.base.now c.args.types.now c.args.bytes.items c.in-Ok.types c.in-Ok-metadata_in.found.1 c.in-Ok-parameters_in.parameters c.report_in.result
    c.in-Ok.ensures.gives (c.in-Ok-metadata_in.ensures.gives.0, c.in-Ok-metadata_in.ensures.gives.1.1)
    (subst (λ k. IfSome k (λ files. HasParameters files c.args.base.now c.in-Ok-metadata_in.found.1 c.in-Ok-parameters_in.parameters))
    c.in-Ok.ensures.same c.in-Ok-parameters_in.ensures.gives)
    (subst (λ w. TakesTo {X = ReportValue} (looking w ∷ []) w c.report_in.result)
    (sym (reads_value profile (report_in profile c.in-Ok-parameters_in.parameters c.in-Ok.types) c.args.bytes.items (view c.in-Ok-metadata_in.found.0)
    c.in-Ok-metadata_in.ensures.gives.1.0.0 c.in-Ok-metadata_in.ensures.gives.1.0.1)) c.report_in.ensures.gives)

pub returns-in-Err-clause-same : goal.returns-in-Err-clause-same
returns-in-Err-clause-same g c = c.in-Err.ensures.same

pub returns-in-Err-metadata_in-clause-same : goal.returns-in-Err-metadata_in-clause-same
returns-in-Err-metadata_in-clause-same g c = c.in-Ok.ensures.same

pub returns-in-Err-parameters_in-clause-same : goal.returns-in-Err-parameters_in-clause-same
returns-in-Err-parameters_in-clause-same g c = c.in-Err-parameters_in.ensures.same ∙ c.in-Ok.ensures.same

pub returns-clause-same : goal.returns-clause-same
returns-clause-same g c = c.in-Ok-parameters_in.ensures.same ∙ c.in-Ok.ensures.same
