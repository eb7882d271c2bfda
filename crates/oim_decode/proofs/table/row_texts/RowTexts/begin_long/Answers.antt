use Rattle.std.proofs.Common.{◌≡◌, ◌∙◌, arith, sym}
use Rattle.oim_decode.proofs.RowPartLaws.{all_begun, columns_are, part_tested}
use Rattle.oim_decode.proofs.table.row_texts.RowTexts.begin_long.Goals as goal

pub returns-then-next-columns-clause-facts : goal.returns-then-next-columns-clause-facts
returns-then-next-columns-clause-facts c =
    let x = c.args.row.now in
    let header : c.put_part.new.self ≡ x.header = c.put_part.ensures.same ∙ c.self.view_is ∙ sym c.requires.header in
    let columns = columns_are x c.put_part.new.self c.columns.result header c.columns.ensures in
    let part = rw c.in-Some.is at c.in_ok-next.ensures.facts in
    all_begun x c.in-Some.next c.args.out.now.items c.put_part.new.out.items c.args.ends.now.items c.put_part.new.ends.items (omega (arith, columns, c.if-next-columns.true)) part

pub writes_part-requires-clause-from : goal.writes_part-requires-clause-from
writes_part-requires-clause-from c =
    let x = c.args.row.now in
    let header : c.put_part.new.self ≡ x.header = c.put_part.ensures.same ∙ c.self.view_is ∙ sym c.requires.header in
    let columns = columns_are x c.put_part.new.self c.columns.result header c.columns.ensures in
    omega (arith, columns, c.if-next-columns.false)

pub returns-clause-facts : goal.returns-clause-facts
returns-clause-facts c =
    let x = c.args.row.now in
    let header : c.put_part.new.self ≡ x.header = c.put_part.ensures.same ∙ c.self.view_is ∙ sym c.requires.header in
    let columns = columns_are x c.put_part.new.self c.columns.result header c.columns.ensures in
    let part = rw c.in-Some.is at c.in_ok-next.ensures.facts in
    let long = rw c.in-Some.is at c.in_ok-next.ensures.long in
    part_tested x c.in-Some.next c.saturating_add-most.result c.args.out.now.items c.put_part.new.out.items c.writes_part.new.out.items c.args.ends.now.items c.put_part.new.ends.items
    c.writes_part.ensures.text part (c.in_ok-writes_part.ensures.facts c.if-not-branch.false) (long (omega (arith, columns, c.if-next-columns.false)))
    (omega (arith, c.saturating_add-most.ensures, c.len.ensures))

pub returns-clause-front : goal.returns-clause-front
returns-clause-front c = (rw c.writes_part.ensures.text c.put_part.ensures.front.0, c.put_part.ensures.front.1)

pub returns-then-not-branch-clause-front : goal.returns-then-not-branch-clause-front
returns-then-not-branch-clause-front c = (rw c.writes_part.ensures.text c.put_part.ensures.front.0, c.put_part.ensures.front.1)

pub returns-in_err-writes_part-clause-front : goal.returns-in_err-writes_part-clause-front
returns-in_err-writes_part-clause-front c = (rw c.writes_part.ensures.text c.put_part.ensures.front.0, c.put_part.ensures.front.1)
