use Rattle.std.proofs.Common.{◌≡◌, ◌∙◌, Some, None, true, sym}
use Rattle.oim_records.proofs.FieldPlaces.{all-from-none, none-from-all}
use Rattle.oim_records.proofs.text_fields.are_text.Goals as goal

pub returns-in-Some : goal.returns-in-Some
returns-in-Some c = (λ h. cc h, λ all. let e : Some c.in-Some.field-0 ≡ None = c.in-Some.ensures ∙ none-from-all 0 c.args.fields.now all in cc e)

pub returns-in-None : goal.returns-in-None
returns-in-None c = (λ _. all-from-none 0 c.args.fields.now (sym c.in-None.ensures), λ _ i. true)
