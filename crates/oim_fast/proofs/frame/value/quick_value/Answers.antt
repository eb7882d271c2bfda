use Rattle.std.proofs.Common.{None, Some, List, ℕ, false, refl, sym, subst, ◌∙◌}
use Rattle.oim_cells.specs.Cells.{meaning_of}
use Rattle.oim_rows.specs.RowFacts.{field_or_empty}
use Rattle.oim_fast.specs.state.CellValues.{IsValue}
use Rattle.oim_fast.specs.declared.frame.value.Value.{Value}
use Rattle.oim_fast.proofs.ValueFormLaws.{form_plain}
use Rattle.oim_fast.proofs.ValueLaws.{number_there, plain_value}
use Rattle.oim_fast.proofs.frame.value.quick_value.Goals as goal

pub returns-in-Number : goal.returns-in-Number
returns-in-Number c =
    let cell = field_or_empty c.args.row.now.fields (Some c.args.place) in
    number_there c.args.row.now.header.report (meaning_of cell) c.args.form c.in-Number.number_kind c.number.result c.in-Number.is c.number.ensures

pub returns-then-bytes-ne35 : goal.returns-then-bytes-ne35
returns-then-bytes-ne35 c = λ k read.
    let report = c.args.row.now.header.report in
    let cell = field_or_empty c.args.row.now.fields (Some c.args.place) in
    let value : Value = record { bytes = c.args.bytes; len = c.args.len; accuracy = None; is_nil = false } in
    subst (λ (v : Value). IsValue report k (meaning_of cell) v) (sym c.plain.ensures)
    (plain_value report k cell value c.requires.cell c.requires.within refl refl c.if-len-gt0.true c.if-bytes-ne35.true
    (λ (t : List ℕ). form_plain report k t (read ∙ c.is_text.ensures c.if-is_text.true)))
