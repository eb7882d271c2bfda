use Rattle.std.proofs.Common.{None, Some, false, refl, sym, subst, arith}
use Rattle.oim_cells.specs.Cells.{meaning_of}
use Rattle.oim_rows.specs.RowFacts.{field_or_empty}
use Rattle.oim_fast.specs.state.CellValues.{IsValue}
use Rattle.oim_fast.specs.declared.frame.value.Value.{Value}
use Rattle.oim_text.proofs.Numerals.{suffix_split, whole_split}
use Rattle.oim_fast.proofs.ValueLaws.{number_found}
use Rattle.oim_fast.proofs.frame.value.number.Goals as goal

pub returns-then-end-len : goal.returns-then-end-len
returns-then-end-len c = λ report whole read.
    let cell = field_or_empty c.args.row.now.fields (Some c.args.place) in
    let bytes = c.args.bytes.now in
    let end = c.numeral_len-end.result in
    let value : Value = record { bytes = c.args.bytes; len = end; accuracy = None; is_nil = false } in
    subst (λ (v : Value). IsValue report whole (meaning_of cell) v) (sym c.plain.ensures)
    (number_found report whole c.args.kind cell bytes c.args.len value read c.requires.cell c.requires.within refl refl c.numeral_len-end.ensures.within
    (λ same long. whole_split c.args.kind cell bytes end same (omega (arith, long)) (c.numeral_len-end.ensures.numeral (omega arith))))

pub returns : goal.returns
returns c = λ report whole read.
    let cell = field_or_empty c.args.row.now.fields (Some c.args.place) in
    let bytes = c.args.bytes.now in
    let end = c.numeral_len-end.result in
    let accuracy = c.in_ok-accuracy.accuracy in
    let suffix = c.in_ok-accuracy.ensures in
    let value : Value = record { bytes = c.args.bytes; len = end; accuracy = Some accuracy; is_nil = false } in
    subst (λ (v : Value). IsValue report whole (meaning_of cell) v) (sym c.plain-2.ensures)
    (number_found report whole c.args.kind cell bytes c.args.len value read c.requires.cell c.requires.within refl refl c.numeral_len-end.ensures.within
    (λ same long. suffix_split c.args.kind cell bytes _ suffix.text accuracy end same (omega (arith, long, c.numeral_len-end.ensures.within)) (c.numeral_len-end.ensures.numeral (omega arith)) refl suffix.marked suffix.states))
