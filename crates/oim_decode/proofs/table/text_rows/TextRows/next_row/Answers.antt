use Rattle.std.proofs.Common.{◌≡◌, ◌+◌, ◌∙◌, [], Err, None, ap, option_map, sym}
use Rattle.oim_row.specs.Rows.{RowValue}
use Rattle.oim_rows.specs.Streams.{stream_from}
use Rattle.oim_rows.proofs.StreamLaws.{when_ok}
use Rattle.oim_decode.specs.state.Blocks.{RowsUnread}
use Rattle.oim_decode.specs.state.RowParts.{with_rest}
use Rattle.oim_decode.proofs.Advances.{no_answer}
use Rattle.oim_decode.proofs.Cuts.{all_text}
use Rattle.oim_decode.proofs.PieceSteps.{within_limit}
use Rattle.oim_decode.proofs.RowLaws.{adds_closed, adds_early, none_added, not_early, row_adds, row_fails, text_row}
use Rattle.oim_decode.proofs.RowPartLaws.{left_long, left_of_row, none_open, row_of_fields}
use Rattle.oim_decode.proofs.table.text_rows.TextRows.next_row.Goals as goal

-- NoFacts is left of the row before.
pub invariant_of-self : goal.invariant_of-self
invariant_of-self g c =
    let a = c.self.inside in
    let closed : a.rest ≡ None = ap (λ (r : RowsUnread). r.rest) c.self.view_is ∙ c.requires in
    let row : RowValue = record { header = a.header; number = a.given; fields = c.read-found.new.self.fields } in
    let bare = none_open row a.rest closed in
    (c.self.invariant.0, c.self.invariant.1, c.self.invariant.2, c.self.invariant.3, bare.0, bare.1)

pub returns-in-Some-clause-next : goal.returns-in-Some-clause-next
returns-in-Some-clause-next g c =
    let a = c.self.inside in
    let closed : a.rest ≡ None = ap (λ (r : RowsUnread). r.rest) c.self.view_is ∙ c.requires in
    let took = when_ok c.read-found.result _ _ c.read-found.ensures.takes in
    let first = option_map (stream_from a.header (a.given + 1) a.ids) a.records.left in
    let left = option_map (stream_from a.header (a.given + 1) a.ids) c.read-found.new.self.left in
    rw (← c.self.view_is)
    (adds_closed a.header.table first c.args.facts.now c.args.facts.now a.rest c.in-Some.answer left closed
    (adds_early (a.given + 1) a.header a.ids c.read-found.new.self.fields c.in-Some.answer c.read-found.result c.args.facts.now a.records.left c.read-found.new.self.left
    left took (sym c.in-Some.is ∙ c.early_answer.ensures)))

pub returns-in-Some-clause-none : goal.returns-in-Some-clause-none
returns-in-Some-clause-none g c =
    let a = c.self.inside in
    let closed : a.rest ≡ None = ap (λ (r : RowsUnread). r.rest) c.self.view_is ∙ c.requires in
    none_added (a.given + 1) a.header [] c.read-found.new.self.fields c.in-Some.answer c.read-found.result c.args.facts.now a.rest closed (sym c.in-Some.is ∙ c.early_answer.ensures)

pub returns-in-Some-clause-long : goal.returns-in-Some-clause-long
returns-in-Some-clause-long g c =
    let a = c.self.inside in
    let closed : a.rest ≡ None = ap (λ (r : RowsUnread). r.rest) c.self.view_is ∙ c.requires in
    λ some. absurd (no_answer a.rest (sym closed) some)

-- A row without a fault of its own is text.
pub unreachable-requires : goal.unreachable-requires
unreachable-requires g c =
    let a = c.self.inside in
    let early = not_early (a.given + 1) a.header [] c.read-found.new.self.fields c.read-found.result (sym c.early_answer.ensures ∙ c.in_default.is) in
    let all = all_text 0 c.read-found.new.self.fields (text_row a.header (a.given + 1) [] c.read-found.new.self.fields early.1) in
    let none = rw c.in_default-text_fields.is at c.text_fields.ensures in
    none all

pub invariant_of-self-in-Ok : goal.invariant_of-self-in-Ok
invariant_of-self-in-Ok g c =
    let a = c.self.inside in
    let fields = c.read-found.new.self.fields in
    let early = not_early (a.given + 1) a.header [] fields c.read-found.result (sym c.early_answer.ensures ∙ c.in_default.is) in
    let y : RowValue = record { header = a.header; number = a.given + 1; fields = fields } in
    let row = row_of_fields c.new-row.result a.header (a.given + 1) c.in-Some-text_fields.texts fields c.new-row.ensures c.in-Some-text_fields.ensures in (
      c.add_row.ensures.same ∙ c.self.invariant.0,
      c.self.invariant.1,
      within_limit a.header (a.given + 1) [] fields early.1,
      c.self.invariant.3,
      λ _. text_row a.header (a.given + 1) [] fields early.1,
      left_of_row c.new-row.result y c.add_row.new.facts c.in-Ok.rest row c.in-Ok.ensures.rest,
    )

pub returns-in-Ok-clause-next : goal.returns-in-Ok-clause-next
returns-in-Ok-clause-next g c =
    let a = c.self.inside in
    let early = not_early (a.given + 1) a.header [] c.read-found.new.self.fields c.read-found.result (sym c.early_answer.ensures ∙ c.in_default.is) in
    let took = rw early.0 at c.read-found.ensures.takes in
    rw (← c.self.view_is)
    (row_adds c.new-row.result a.header (a.given + 1) a.ids c.add_row.new.ids c.in-Some-text_fields.texts c.read-found.new.self.fields c.args.facts.now
    (with_rest c.add_row.new.facts c.in-Ok.rest) a.records.left c.read-found.new.self.left c.new-row.ensures c.in-Some-text_fields.ensures took c.in-Ok.ensures.facts c.in-Ok.ensures.ids)

pub returns-in-Ok-clause-long : goal.returns-in-Ok-clause-long
returns-in-Ok-clause-long g c = left_long c.new-row.result c.add_row.new.facts c.in-Ok.rest c.in-Ok.ensures.rest

pub invariant_of-self-in-Err : goal.invariant_of-self-in-Err
invariant_of-self-in-Err g c =
    let a = c.self.inside in
    let closed : a.rest ≡ None = ap (λ (r : RowsUnread). r.rest) c.self.view_is ∙ c.requires in
    let row : RowValue = record { header = a.header; number = a.given; fields = c.read-found.new.self.fields } in
    let bare = none_open row a.rest closed in
    (c.add_row.ensures.same ∙ c.self.invariant.0, c.self.invariant.1, c.self.invariant.2, c.self.invariant.3, bare.0, bare.1)

pub returns-in-Err-clause-next : goal.returns-in-Err-clause-next
returns-in-Err-clause-next g c =
    let a = c.self.inside in
    let closed : a.rest ≡ None = ap (λ (r : RowsUnread). r.rest) c.self.view_is ∙ c.requires in
    let early = not_early (a.given + 1) a.header [] c.read-found.new.self.fields c.read-found.result (sym c.early_answer.ensures ∙ c.in_default.is) in
    let took = rw early.0 at c.read-found.ensures.takes in
    let first = option_map (stream_from a.header (a.given + 1) a.ids) a.records.left in
    rw (← c.self.view_is)
    (adds_closed a.header.table first c.args.facts.now c.add_row.new.facts a.rest (Err c.in-Err.fault) None closed
    (row_fails c.new-row.result a.header (a.given + 1) a.ids c.in-Some-text_fields.texts c.read-found.new.self.fields c.args.facts.now c.add_row.new.facts
    a.records.left c.read-found.new.self.left c.in-Err.fault None c.new-row.ensures c.in-Some-text_fields.ensures took c.in-Err.ensures.facts))

pub returns-in-Err-clause-none : goal.returns-in-Err-clause-none
returns-in-Err-clause-none g c =
    let closed : c.self.inside.rest ≡ None = ap (λ (r : RowsUnread). r.rest) c.self.view_is ∙ c.requires in
    (c.in-Err.ensures.facts.0, closed)

pub returns-in-Err-clause-long : goal.returns-in-Err-clause-long
returns-in-Err-clause-long g c =
    let a = c.self.inside in
    let closed : a.rest ≡ None = ap (λ (r : RowsUnread). r.rest) c.self.view_is ∙ c.requires in
    λ some. absurd (no_answer a.rest (sym closed) some)
