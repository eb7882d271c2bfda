use Rattle.std.proofs.Common.{◌≡◌, rules, Err}
use Rattle.serde_json.specs.View.{view}
use Rattle.oim_meta.proofs.Refused.{of_document}
use Rattle.oim_meta.proofs.report.walked.Goals as goal

pub returns-in_err-names-clause-fault : goal.returns-in_err-names-clause-fault
returns-in_err-names-clause-fault c =
    let same : c.from_residual.result ≡ Err c.in_err-names.field-0.0 = search rules in
    rw same (of_document c.args.limits c.args.parameters.now c.args.types.now (view c.args.value.now) c.in_err-names.field-0.0 c.in_err-names.ensures.fault)
