use Rattle.std.proofs.Common.{◌∙◌, sym, ap}
use Rattle.oim_schema.specs.Durations.{is_signed_duration, is_duration}
use Rattle.oim_schema.proofs.DurationLaws.{duration_Decides}
use Rattle.oim_schema.proofs.durations.is_duration.Goals as goal

pub returns-clause-means : goal.returns-clause-means
unfolding is_duration
returns-clause-means c =
    let d = duration_Decides c.args.text.now in
    let e = c.is_signed.ensures ∙ ap is_signed_duration c.as_bytes.ensures.value in
    (λ t. d.0 (sym e ∙ t), λ h. e ∙ d.1 h)

pub returns-clause-value : goal.returns-clause-value
unfolding is_duration
returns-clause-value c = c.is_signed.ensures ∙ ap is_signed_duration c.as_bytes.ensures.value
