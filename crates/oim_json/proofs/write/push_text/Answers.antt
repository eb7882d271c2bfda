use Rattle.std.proofs.Common.{◌≡◌, ◌++◌, ◌∙◌, append_assoc, rules, subst, sym}
use Rattle.std.specs.Result.{OnOk}
use Rattle.serde_json.proofs.FreeTexts.{text_of_str}
use Rattle.oim_json.proofs.Quoted.{compact_text-string, quoted_as_it_is}
use Rattle.oim_json.proofs.write.push_text.Goals as goal

pub returns-in-Ok : goal.returns-in-Ok
returns-in-Ok c =
    let sent = c.in-Ok.ensures.events in
    let escaped = text_of_str c.args.text.now sent.0 c.in-Ok.bytes.items sent.1 sent.2 ∙ compact_text-string c.args.text.now in
    subst (λ q. OnOk c.extend_from_slice-in-Ok.result (c.extend_from_slice-in-Ok.new.self.items ≡ c.args.out.now.items ++ q)) escaped (search rules)

pub returns-then-needs_no_escape : goal.returns-then-needs_no_escape
returns-then-needs_no_escape c =
    rw (quoted_as_it_is c.args.text.now (sym c.needs_no_escape.ensures ∙ c.if-needs_no_escape.true)) (search (rules, append_assoc))
