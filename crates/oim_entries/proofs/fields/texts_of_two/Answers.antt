use Rattle.std.proofs.Common.{rules, ◌≡◌, ◌<◌, length, arith}
use Rattle.csv.specs.Records.{fields_of}
use Rattle.oim_entries.proofs.FieldFacts.{first-first, first-second, two-first, two-second, two-there, wrong-cell}
use Rattle.oim_entries.proofs.fields.texts_of_two.Goals as goal

pub returns-in_default-clause-none : goal.returns-in_default-clause-none
returns-in_default-clause-none c =
    let two : length (fields_of c.args.row.now) ≡ 2 = search rules in
    two-first (fields_of c.args.row.now) two c.in_default.ensures

pub returns-in_default-clause-wrong : goal.returns-in_default-clause-wrong
returns-in_default-clause-wrong c =
    let r = fields_of c.args.row.now in
    let two : length r ≡ 2 = search rules in
    let less : 0 < length r = omega arith in
    rw c.in_cell.ensures (wrong-cell c.args.number 2 0 r two (first-first r less c.in_default.ensures))

pub returns-in_default-text_at-clause-none : goal.returns-in_default-text_at-clause-none
returns-in_default-text_at-clause-none c =
    let two : length (fields_of c.args.row.now) ≡ 2 = search rules in
    two-second (fields_of c.args.row.now) c.in-Some.first.now two c.in-Some.ensures c.in_default-text_at.ensures

pub returns-in_default-text_at-clause-wrong : goal.returns-in_default-text_at-clause-wrong
returns-in_default-text_at-clause-wrong c =
    let r = fields_of c.args.row.now in
    let two : length r ≡ 2 = search rules in
    let less : 1 < length r = omega arith in
    rw c.in_cell-in_default-text_at.ensures (wrong-cell c.args.number 2 1 r two (first-second r c.in-Some.first.now less c.in-Some.ensures c.in_default-text_at.ensures))

pub returns-clause-texts : goal.returns-clause-texts
returns-clause-texts c =
    let two : length (fields_of c.args.row.now) ≡ 2 = search rules in
    two-there (fields_of c.args.row.now) c.in-Some.first.now c.in-Some-text_at.second.now two c.in-Some.ensures c.in-Some-text_at.ensures
