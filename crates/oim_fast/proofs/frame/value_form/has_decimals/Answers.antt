use Rattle.std.proofs.Common.{ap, ◌∙◌}
use Rattle.oim_fast.specs.state.ValueForms.{is_number_form}
use Rattle.oim_fast.proofs.ValueFormLaws.{number_form}
use Rattle.oim_fast.proofs.frame.value_form.has_decimals.Goals as goal

pub returns : goal.returns
returns c = c.is_number.ensures ∙ ap is_number_form c.form_of.ensures ∙ number_form c.args.kind
