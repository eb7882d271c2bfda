use Rattle.std.proofs.Common.{rules}
use Rattle.std.proofs.lemmas.Int.{to_z-of_z}
use mir.Syntax.{w32}
use mir.Val.{SFits}
use Rattle.oim_fast.proofs.FactTextLaws.{places_placed}
use Rattle.oim_fast.proofs.frame.fact.write_places.Goals as goal

pub returns-clause-bytes : goal.returns-clause-bytes
returns-clause-bytes c =
    let fits : SFits w32 c.args.places = search rules in
    let digits = simp to_z-of_z at c.format.ensures.text in
    let middle = rw (c.as_bytes-digits.ensures.value, digits) at c.copy_short-end.ensures in
    places_placed c.args.places c.copy_short-at.ensures middle c.copy_short.ensures
