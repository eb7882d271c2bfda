use Rattle.std.proofs.Common.{rules, ◌≡◌, ◌<◌, length, arith}
use Rattle.csv.specs.Records.{fields_of}
use Rattle.oim_entries.proofs.FieldFacts.{first-first, first-second, first-third, three-first, three-second, three-there, three-third, wrong-cell}
use Rattle.oim_entries.proofs.fields.texts_of_three.Goals as goal

pub returns-in_default-clause-none : goal.returns-in_default-clause-none
returns-in_default-clause-none c =
    let three : length (fields_of c.args.row.now) ≡ 3 = search rules in
    three-first (fields_of c.args.row.now) three c.in_default.ensures

pub returns-in_default-clause-wrong : goal.returns-in_default-clause-wrong
returns-in_default-clause-wrong c =
    let r = fields_of c.args.row.now in
    let three : length r ≡ 3 = search rules in
    let less : 0 < length r = omega arith in
    rw c.in_cell.ensures (wrong-cell c.args.number 3 0 r three (first-first r less c.in_default.ensures))

pub returns-in_default-text_at-clause-none : goal.returns-in_default-text_at-clause-none
returns-in_default-text_at-clause-none c =
    let three : length (fields_of c.args.row.now) ≡ 3 = search rules in
    three-second (fields_of c.args.row.now) c.in-Some.first.now three c.in-Some.ensures c.in_default-text_at.ensures

pub returns-in_default-text_at-clause-wrong : goal.returns-in_default-text_at-clause-wrong
returns-in_default-text_at-clause-wrong c =
    let r = fields_of c.args.row.now in
    let three : length r ≡ 3 = search rules in
    let less : 1 < length r = omega arith in
    rw c.in_cell-in_default-text_at.ensures (wrong-cell c.args.number 3 1 r three (first-second r c.in-Some.first.now less c.in-Some.ensures c.in_default-text_at.ensures))

pub returns-in_default-text_at-2-clause-none : goal.returns-in_default-text_at-2-clause-none
returns-in_default-text_at-2-clause-none c =
    let three : length (fields_of c.args.row.now) ≡ 3 = search rules in
    three-third (fields_of c.args.row.now) c.in-Some.first.now c.in-Some-text_at.second.now three c.in-Some.ensures c.in-Some-text_at.ensures c.in_default-text_at-2.ensures

pub returns-in_default-text_at-2-clause-wrong : goal.returns-in_default-text_at-2-clause-wrong
returns-in_default-text_at-2-clause-wrong c =
    let r = fields_of c.args.row.now in
    let three : length r ≡ 3 = search rules in
    let less : 2 < length r = omega arith in
    rw c.in_cell-in_default-text_at-2.ensures (wrong-cell c.args.number 3 2 r three
    (first-third r c.in-Some.first.now c.in-Some-text_at.second.now less c.in-Some.ensures c.in-Some-text_at.ensures c.in_default-text_at-2.ensures))

pub returns-clause-texts : goal.returns-clause-texts
returns-clause-texts c =
    let three : length (fields_of c.args.row.now) ≡ 3 = search rules in
    three-there (fields_of c.args.row.now) c.in-Some.first.now c.in-Some-text_at.second.now c.in-Some-text_at-2.third.now three c.in-Some.ensures c.in-Some-text_at.ensures c.in-Some-text_at-2.ensures
