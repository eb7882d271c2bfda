use Rattle.std.proofs.Common.{◌≡◌, ◌∙◌, ap, ap₂, codes, Bool, true}
use Rattle.std.proofs.lemmas.Result.{IfOk-weaker}
use Rattle.clap.specs.Words.{App, Rule, app_of, new_app, rule_of, with_rule}
use Rattle.clap.specs.Simple.{app_of_fields, on_top}
use Rattle.clap.specs.declared.builder.arg.Arg.{Arg}
use Rattle.oim_run.specs.CommandLine.{one_value, option}
use Rattle.oim_run.proofs.settings.inputs.Goals as goal

required : Rule → Rule
required r = record r { required = true }

is_global : Arg → Bool
is_global a = a.global

versioned : App → App
versioned = on_top (λ s. record s { has_version = true })

unnamed : App → App
unnamed = on_top (λ s. record s { no_binary_name = true })

pub returns : goal.returns
unfolding required is_global versioned unnamed
returns c =
    let meta : rule_of c.required-meta.result ≡ required (one_value (codes "meta")) =
    ap rule_of c.required-meta.ensures ∙ ap required c.one_value.ensures.rule in
    let types : rule_of c.required-types.result ≡ required (option (codes "types")) =
    ap rule_of c.required-types.ensures ∙ ap required c.option.ensures.rule in
    let told : app_of c.version.result ≡ versioned (new_app (codes "xbrl-json")) =
    ap app_of_fields c.version.ensures ∙ ap versioned (ap app_of_fields c.about.ensures ∙ c.new.ensures.app) in
    let empty : app_of c.no_binary_name.result ≡ unnamed (versioned (new_app (codes "xbrl-json"))) =
    ap app_of_fields c.no_binary_name.ensures ∙ ap unnamed (ap app_of_fields c.after_help.ensures ∙ told) in
    let one : app_of c.in_ok-arg.field-0 ≡ with_rule (unnamed (versioned (new_app (codes "xbrl-json")))) (required (one_value (codes "meta"))) =
    c.in_ok-arg.ensures.shape (ap is_global c.required-meta.ensures ∙ c.one_value.ensures.local) ∙ ap₂ with_rule empty meta in
    IfOk-weaker c.arg-2.result _ _ (λ r h. h.shape (ap is_global c.required-types.ensures ∙ c.option.ensures.local) ∙ ap₂ with_rule one types) c.arg-2.ensures
