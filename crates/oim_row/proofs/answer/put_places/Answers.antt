use Rattle.std.proofs.Common.{◌≡◌, ◌++◌, ◌∷◌, [], Some, rules, append_assoc}
use Rattle.std.proofs.lemmas.Int.{to_z-of_z}
use mir.Syntax.{w32}
use mir.Val.{SFits}
use Rattle.oim_json.specs.JsonText.{decimals_text}
use Rattle.oim_text.proofs.Appends.{appended}
use Rattle.oim_row.proofs.answer.put_places.Goals as goal

pub returns : goal.returns
unfolding decimals_text
returns c =
    let fits : SFits w32 c.args.places = search rules in
    let digits = simp to_z-of_z at c.format.ensures.text in
    let whole : c.put-2.new.self.items ++ 44 ∷ [] ≡ c.args.out.now.items ++ decimals_text (Some c.args.places) = rw (c.in_ok-put-2.ensures.items, c.as_bytes.ensures.value, digits, c.in_ok-put.ensures.items) (simp append_assoc) in
    appended c.push.result c.put-2.new.self.items (44 ∷ []) (c.args.out.now.items ++ decimals_text (Some c.args.places)) c.push.new.self.items c.push.ensures.items whole
