use Rattle.std.proofs.Common.{◌∙◌}
use Rattle.serde_json.proofs.FreeTexts.{text_of_str}
use Rattle.oim_json.proofs.Quoted.{compact_text-string}
use Rattle.oim_text.proofs.quoted.written.Goals as goal

pub returns-in-Ok : goal.returns-in-Ok
returns-in-Ok c =
    let sent = c.in-Ok.ensures.events in
    text_of_str c.args.text.now sent.0 c.in-Ok.bytes.items sent.1 sent.2 ∙ compact_text-string c.args.text.now
