use Rattle.std.proofs.Common.{◌≡◌, ◌∙◌, None, Some, ap, sym, subst}
use Rattle.std.specs.Option.{is_some}
use Rattle.oim_rows.specs.RowFacts.{IsTextRecord}
use Rattle.oim_row.specs.Rows.{RowValue}
use Rattle.oim_decode.specs.state.RowParts.{with_rest}
use Rattle.oim_decode.proofs.Cuts.{all_text}
use Rattle.oim_decode.proofs.RowPartLaws.{left_long, left_of_row, none_open, rest_given, row_of_fields}
use Rattle.oim_decode.proofs.table.text_rows.TextRows.put_more.Goals as goal

pub invariant_of-self : goal.invariant_of-self
invariant_of-self g c =
    let a = c.self.inside in
    let row : RowValue = record { header = a.header; number = a.given; fields = a.records.fields } in
    let bare = none_open row c.take.new.self c.take.ensures.after in
    (c.self.invariant.0, c.self.invariant.1, c.self.invariant.2, c.self.invariant.3, bare.0, bare.1)

pub returns-in_default-clause-facts : goal.returns-in_default-clause-facts
returns-in_default-clause-facts g c =
    let none : c.self.inside.rest ≡ None = sym c.take.ensures.value ∙ c.in_default.is in
    rw (← c.self.view_is) (ap (with_rest c.args.facts.now) (c.take.ensures.after ∙ sym none))

-- The fields of the last record are text.
pub unreachable-requires : goal.unreachable-requires
unreachable-requires g c =
    let a = c.self.inside in
    let some : a.rest ≡ Some c.in-Some.rest = sym c.take.ensures.value ∙ c.in-Some.is in
    let all = all_text 0 a.records.fields (c.self.invariant.4 (ap is_some some)) in
    let none = rw c.in_default-text_fields.is at c.text_fields.ensures in
    none all

pub put_more-requires-clause-texts : goal.put_more-requires-clause-texts
put_more-requires-clause-texts g c =
    let some : c.self.inside.rest ≡ Some c.in-Some.rest = sym c.take.ensures.value ∙ c.in-Some.is in
    subst IsTextRecord (sym c.fields-fields.ensures) (c.self.invariant.4 (ap is_some some))

pub put_more-requires-clause-rest : goal.put_more-requires-clause-rest
put_more-requires-clause-rest g c =
    let a = c.self.inside in
    let some : a.rest ≡ Some c.in-Some.rest = sym c.take.ensures.value ∙ c.in-Some.is in
    let y : RowValue = record { header = a.header; number = a.given; fields = a.records.fields } in
    let row = row_of_fields c.new-row.result a.header a.given c.in-Some-text_fields.texts a.records.fields c.new-row.ensures c.in-Some-text_fields.ensures in
    rest_given c.new-row.result y c.in-Some.rest a.rest row some c.self.invariant.5

pub invariant_of-self-in-Ok : goal.invariant_of-self-in-Ok
invariant_of-self-in-Ok g c =
    let a = c.self.inside in
    let some : a.rest ≡ Some c.in-Some.rest = sym c.take.ensures.value ∙ c.in-Some.is in
    let y : RowValue = record { header = a.header; number = a.given; fields = a.records.fields } in
    let row = row_of_fields c.new-row.result a.header a.given c.in-Some-text_fields.texts a.records.fields c.new-row.ensures c.in-Some-text_fields.ensures in (
      c.put_more.ensures.same ∙ c.self.invariant.0,
      c.self.invariant.1,
      c.self.invariant.2,
      c.self.invariant.3,
      λ _. c.self.invariant.4 (ap is_some some),
      left_of_row c.new-row.result y c.put_more.new.self c.in-Ok.left row c.in-Ok.ensures.rest,
    )

pub returns-in-Ok-clause-facts : goal.returns-in-Ok-clause-facts
returns-in-Ok-clause-facts g c =
    let some : c.self.inside.rest ≡ Some c.in-Some.rest = sym c.take.ensures.value ∙ c.in-Some.is in
    rw (← c.self.view_is) (c.in-Ok.ensures.facts ∙ ap (with_rest c.args.facts.now) (sym some))

pub returns-in-Ok-clause-long : goal.returns-in-Ok-clause-long
returns-in-Ok-clause-long g c = left_long c.new-row.result c.put_more.new.self c.in-Ok.left c.in-Ok.ensures.rest

pub invariant_of-self-in-Err : goal.invariant_of-self-in-Err
invariant_of-self-in-Err g c =
    let a = c.self.inside in
    let row : RowValue = record { header = a.header; number = a.given; fields = a.records.fields } in
    let bare = none_open row c.take.new.self c.take.ensures.after in
    (c.put_more.ensures.same ∙ c.self.invariant.0, c.self.invariant.1, c.self.invariant.2, c.self.invariant.3, bare.0, bare.1)
