use Rattle.std.proofs.Common.{◌∙◌, Option, ℕ, ap, subst, sym}
use Rattle.oim_rows.specs.RowFacts.{id_place_of, ids_after}
use Rattle.oim_table_faults.specs.state.Rows.{HaveSame}
use Rattle.oim_table_faults.proofs.RowSteps.{added_or_there}
use Rattle.oim_table_faults.proofs.row_faults.keep_id.Goals as goal

pub returns-clause-ids : goal.returns-clause-ids
returns-clause-ids c =
    let x = c.args.row.now in
    let place = sym c.in-Some.is ∙ c.id_place.ensures ∙ ap id_place_of c.header.ensures in
    let both = added_or_there x.header.table c.in-Some.place x.number c.args.ids.now c.add.new.self x.fields c.in_ok-new.field-0 c.in_ok-add.field-0
    (c.in_ok-new.ensures ∙ c.text_at.ensures) c.in_ok-add.ensures.added c.in_ok-add.ensures.ids in
    subst (λ (o : Option ℕ). HaveSame c.add.new.self (ids_after o c.args.ids.now x.fields)) place both.1
