use Rattle.std.proofs.Common.{rules, append_assoc}
use Rattle.std.proofs.lemmas.Int.{to_z-of_z}
use mir.Syntax.{w32}
use mir.Val.{SFits}
use Rattle.oim_json.specs.JsonText.{decimals_text}
use Rattle.oim_json.proofs.member.push_decimals.Goals as goal

pub returns-in_ok-push : goal.returns-in_ok-push
unfolding decimals_text
returns-in_ok-push c =
    let fits : SFits w32 c.in-Some.places = search rules in
    let digits = simp to_z-of_z at c.in_ok-push_integer.ensures in
    rw (c.in-Some.is, c.in_ok-push.ensures.items, digits, c.in_ok-extend_from_slice.ensures.items) (simp append_assoc)

pub returns-in_default : goal.returns-in_default
unfolding decimals_text
returns-in_default c = search rules
