use Rattle.std.proofs.Common.{◌≡◌, ◌∙◌, refl, sym, Some, None}
use Rattle.csv.specs.Records.{field_at}
use Rattle.oim_rows.proofs.Places.{field_there}
use Rattle.oim_rows.proofs.cells.known_text_at.Goals as goal

pub returns-in-Some-get : goal.returns-in-Some-get
returns-in-Some-get c =
    let at : field_at c.args.row.now c.in-Some.place ≡ Some c.in-Some-get.text.now = field_there c.args.row.now c.in-Some.place ∙ sym c.in-Some-get.ensures in
    rw (c.in-Some.is, at) refl

pub returns-in-None-get : goal.returns-in-None-get
returns-in-None-get c =
    let none : field_at c.args.row.now c.in-Some.place ≡ None = field_there c.args.row.now c.in-Some.place ∙ sym c.in-None-get.ensures in
    rw (c.in-Some.is, none) refl
