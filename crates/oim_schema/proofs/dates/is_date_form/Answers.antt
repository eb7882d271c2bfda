use Rattle.std.proofs.Common.{◌∙◌, sym, ap}
use Rattle.oim_schema.specs.DatesTimes.{is_date_form}
use Rattle.oim_schema.proofs.Forms.{form_Decides}
use Rattle.oim_schema.proofs.dates.is_date_form.Goals as goal

pub returns-clause-means : goal.returns-clause-means
returns-clause-means c =
    let d = form_Decides c.args.form c.args.text.now in
    let e = c.has_form.ensures ∙ ap (is_date_form c.args.form) c.as_bytes.ensures.value in
    (λ t. d.0 (sym e ∙ t), λ h. e ∙ d.1 h)
