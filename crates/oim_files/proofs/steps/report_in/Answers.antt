use Rattle.std.proofs.Common.{◌≡◌, ◌∷◌, [], Err, None, subst, sym}
use Rattle.serde_json.specs.View.{view}
use Rattle.oim_meta.specs.Findings.{first_of}
use Rattle.oim_meta.specs.FirstFault.{first_fault}
use Rattle.oim_meta.specs.Refusals.{IsFirstOf}
use Rattle.oim_meta.specs.WalkReport.{in_metadata}
use Rattle.oim_meta.specs.declared.refusal.Refusal.TheVariants.{Found}
use Rattle.oim_files.specs.Metadata.{profile, report_in}
use Rattle.oim_files.specs.Steps.{TakesTo, looking}
use Rattle.oim_files.specs.declared.early_fault.EarlyFault.TheVariants as early
use Rattle.oim_files.specs.declared.early_fault.Source.TheVariants as source
use Rattle.oim_files.proofs.MetadataFacts.{value_refuses, value_says}
use Rattle.oim_files.proofs.StepFacts.{looks_finding, looks_memory, looks_value}
use Rattle.oim_files.proofs.steps.report_in.Goals as goal

pub returns-in-Ok : goal.returns-in-Ok
returns-in-Ok c = record {
  gives =
      looks_value (report_in profile c.args.parameters c.args.types (view c.args.metadata)) c.in-Ok.report
      (value_says profile c.args.parameters c.args.types (view c.args.metadata) c.in-Ok.report
      (subst (λ l. first_fault l c.args.parameters c.args.types (view c.args.metadata) ≡ None) c.profile.ensures c.in-Ok.ensures.sound) c.in-Ok.ensures.value);
}

pub returns-in-Err-Found : goal.returns-in-Err-Found
returns-in-Err-Found c = record {
  gives =
      let answer = report_in profile c.args.parameters c.args.types (view c.args.metadata) in
      subst (λ x. TakesTo (looking answer ∷ []) answer (Err (early.Report source.Report x))) (sym c.of_metadata-fault.ensures)
      (looks_finding answer c.in-Err-Found.finding
      (value_refuses profile c.args.parameters c.args.types (view c.args.metadata) c.in-Err-Found.finding
      (subst (λ l. IsFirstOf (in_metadata l c.args.parameters c.args.types (view c.args.metadata)) (Found c.in-Err-Found.finding)) c.profile.ensures
      (rw c.in-Err-Found.field-0-is at c.in-Err-Found.ensures.fault))));
}

pub returns-in-Err-Memory : goal.returns-in-Err-Memory
returns-in-Err-Memory c = record {
  gives =
      let answer = report_in profile c.args.parameters c.args.types (view c.args.metadata) in
      subst (λ o. TakesTo (looking answer ∷ []) answer (Err o)) (sym c.whole.ensures) (looks_memory answer);
}
