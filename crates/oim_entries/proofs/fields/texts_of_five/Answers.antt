use Rattle.std.proofs.Common.{rules, ◌≡◌, ◌<◌, length, arith}
use Rattle.csv.specs.Records.{fields_of}
use Rattle.oim_entries.proofs.FieldFacts.{first-first, first-second, first-third, first-fourth, first-fifth}
use Rattle.oim_entries.proofs.FieldFacts.{five-first, five-second, five-third, five-fourth, five-fifth, five-there, wrong-cell}
use Rattle.oim_entries.proofs.fields.texts_of_five.Goals as goal

pub returns-in_default-clause-none : goal.returns-in_default-clause-none
returns-in_default-clause-none c =
    let five : length (fields_of c.args.row.now) ≡ 5 = search rules in
    five-first (fields_of c.args.row.now) five c.in_default.ensures

pub returns-in_default-clause-wrong : goal.returns-in_default-clause-wrong
returns-in_default-clause-wrong c =
    let r = fields_of c.args.row.now in
    let five : length r ≡ 5 = search rules in
    let less : 0 < length r = omega arith in
    rw c.in_cell.ensures (wrong-cell c.args.number 5 0 r five
    (first-first r less c.in_default.ensures))

pub returns-in_default-text_at-clause-none : goal.returns-in_default-text_at-clause-none
returns-in_default-text_at-clause-none c =
    let five : length (fields_of c.args.row.now) ≡ 5 = search rules in
    five-second (fields_of c.args.row.now) c.in-Some.uri.now five c.in-Some.ensures c.in_default-text_at.ensures

pub returns-in_default-text_at-clause-wrong : goal.returns-in_default-text_at-clause-wrong
returns-in_default-text_at-clause-wrong c =
    let r = fields_of c.args.row.now in
    let five : length r ≡ 5 = search rules in
    let less : 1 < length r = omega arith in
    rw c.in_cell-in_default-text_at.ensures (wrong-cell c.args.number 5 1 r five
    (first-second r c.in-Some.uri.now less c.in-Some.ensures c.in_default-text_at.ensures))

pub returns-in_default-text_at-2-clause-none : goal.returns-in_default-text_at-2-clause-none
returns-in_default-text_at-2-clause-none c =
    let five : length (fields_of c.args.row.now) ≡ 5 = search rules in
    five-third (fields_of c.args.row.now) c.in-Some.uri.now c.in-Some-text_at.local.now five c.in-Some.ensures c.in-Some-text_at.ensures c.in_default-text_at-2.ensures

pub returns-in_default-text_at-2-clause-wrong : goal.returns-in_default-text_at-2-clause-wrong
returns-in_default-text_at-2-clause-wrong c =
    let r = fields_of c.args.row.now in
    let five : length r ≡ 5 = search rules in
    let less : 2 < length r = omega arith in
    rw c.in_cell-in_default-text_at-2.ensures (wrong-cell c.args.number 5 2 r five
    (first-third r c.in-Some.uri.now c.in-Some-text_at.local.now less c.in-Some.ensures c.in-Some-text_at.ensures c.in_default-text_at-2.ensures))

pub returns-in_default-text_at-3-clause-none : goal.returns-in_default-text_at-3-clause-none
returns-in_default-text_at-3-clause-none c =
    let five : length (fields_of c.args.row.now) ≡ 5 = search rules in
    five-fourth (fields_of c.args.row.now) c.in-Some.uri.now c.in-Some-text_at.local.now c.in-Some-text_at-2.word.now five c.in-Some.ensures c.in-Some-text_at.ensures c.in-Some-text_at-2.ensures c.in_default-text_at-3.ensures

pub returns-in_default-text_at-3-clause-wrong : goal.returns-in_default-text_at-3-clause-wrong
returns-in_default-text_at-3-clause-wrong c =
    let r = fields_of c.args.row.now in
    let five : length r ≡ 5 = search rules in
    let less : 3 < length r = omega arith in
    rw c.in_cell-in_default-text_at-3.ensures (wrong-cell c.args.number 5 3 r five
    (first-fourth r c.in-Some.uri.now c.in-Some-text_at.local.now c.in-Some-text_at-2.word.now less c.in-Some.ensures c.in-Some-text_at.ensures c.in-Some-text_at-2.ensures c.in_default-text_at-3.ensures))

pub returns-in_default-text_at-4-clause-none : goal.returns-in_default-text_at-4-clause-none
returns-in_default-text_at-4-clause-none c =
    let five : length (fields_of c.args.row.now) ≡ 5 = search rules in
    five-fifth (fields_of c.args.row.now) c.in-Some.uri.now c.in-Some-text_at.local.now c.in-Some-text_at-2.word.now c.in-Some-text_at-3.period.now five c.in-Some.ensures c.in-Some-text_at.ensures c.in-Some-text_at-2.ensures c.in-Some-text_at-3.ensures c.in_default-text_at-4.ensures

pub returns-in_default-text_at-4-clause-wrong : goal.returns-in_default-text_at-4-clause-wrong
returns-in_default-text_at-4-clause-wrong c =
    let r = fields_of c.args.row.now in
    let five : length r ≡ 5 = search rules in
    let less : 4 < length r = omega arith in
    rw c.in_cell-in_default-text_at-4.ensures (wrong-cell c.args.number 5 4 r five
    (first-fifth r c.in-Some.uri.now c.in-Some-text_at.local.now c.in-Some-text_at-2.word.now c.in-Some-text_at-3.period.now less c.in-Some.ensures c.in-Some-text_at.ensures c.in-Some-text_at-2.ensures c.in-Some-text_at-3.ensures c.in_default-text_at-4.ensures))

pub returns-clause-texts : goal.returns-clause-texts
returns-clause-texts c =
    let five : length (fields_of c.args.row.now) ≡ 5 = search rules in
    five-there (fields_of c.args.row.now) c.in-Some.uri.now c.in-Some-text_at.local.now c.in-Some-text_at-2.word.now c.in-Some-text_at-3.period.now c.in-Some-text_at-4.values.now five
    c.in-Some.ensures c.in-Some-text_at.ensures c.in-Some-text_at-2.ensures c.in-Some-text_at-3.ensures c.in-Some-text_at-4.ensures
