use Rattle.std.proofs.Common.{rules, sym, ◌∙◌}
use Rattle.oim_json.proofs.Quoted.{all_unescaped}
use Rattle.oim_text.proofs.quoted.put_escaped.Goals as goal

pub returns-then-needs_no_escape-clause-escaped : goal.returns-then-needs_no_escape-clause-escaped
returns-then-needs_no_escape-clause-escaped c =
    rw (all_unescaped c.args.text.now (sym c.needs_no_escape.ensures ∙ c.if-needs_no_escape.true)) (search rules)
