use Rattle.std.proofs.Common.{take}
use Rattle.oim_json.proofs.Quoted.{all_unescaped}
use Rattle.oim_fast.proofs.frame.fact.write_text.Goals as goal

pub returns-then-is_number : goal.returns-then-is_number
returns-then-is_number c =
    let value = c.args.value.now in
    rw (all_unescaped (take value.len value.bytes.now) (c.requires.plain c.if-is_number.true)) c.copy.ensures
