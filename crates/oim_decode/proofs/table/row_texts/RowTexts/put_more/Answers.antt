use Rattle.std.proofs.Common.{◌≡◌, ◌∙◌, arith, sym}
use Rattle.oim_fast.specs.Facts.{facts_of_row}
use Rattle.oim_decode.proofs.Cuts.{front_of, taken_back}
use Rattle.oim_decode.proofs.RowPartLaws.{all_continued, columns_are, part_from, rest_behind, rest_continued, rest_fails}
use Rattle.oim_decode.proofs.table.row_texts.RowTexts.put_more.Goals as goal

pub put_part-requires-clause-from : goal.put_part-requires-clause-from
put_part-requires-clause-from c = omega (arith, c.next.ensures, c.requires.rest.within)

pub returns-then-next-columns-clause-facts : goal.returns-then-next-columns-clause-facts
returns-then-next-columns-clause-facts c =
    let x = c.args.row.now in
    let rest = c.args.rest.now in
    let header : c.put_part.new.self ≡ x.header = c.put_part.ensures.same ∙ c.self.view_is ∙ sym c.requires.header in
    let columns = columns_are x c.put_part.new.self c.columns.result header c.columns.ensures in
    let fit = rw c.in-Ok-Some.field-0-is at c.in-Ok-Some.ensures in
    let within = fit.long (omega (arith, columns, c.if-next-columns.true)) in (
      part_from x c.next.result rest.next c.in-Ok-Some.next c.args.out.now.items c.put_part.new.out.items c.args.ends.now.items c.put_part.new.ends.items c.next.ensures fit.facts,
      omega (arith, within, c.saturating_add-most.ensures, c.len-length.ensures),
    )

pub returns-in-Ok-Some-clause-facts : goal.returns-in-Ok-Some-clause-facts
returns-in-Ok-Some-clause-facts c =
    let x = c.args.row.now in
    let rest = c.args.rest.now in
    let header : c.put_part.new.self ≡ x.header = c.put_part.ensures.same ∙ c.self.view_is ∙ sym c.requires.header in
    let columns = columns_are x c.put_part.new.self c.columns.result header c.columns.ensures in
    let fit = rw c.in-Ok-Some.field-0-is at c.in-Ok-Some.ensures in
    let part = part_from x c.next.result rest.next c.in-Ok-Some.next c.args.out.now.items c.put_part.new.out.items c.args.ends.now.items c.put_part.new.ends.items c.next.ensures fit.facts in
    all_continued x rest c.in-Ok-Some.next c.args.out.now.items c.put_part.new.out.items c.args.ends.now.items c.put_part.new.ends.items
    (omega (arith, columns, c.if-next-columns.false)) c.requires.rest part

pub returns-in-Err-put_rest-clause-fault : goal.returns-in-Err-put_rest-clause-fault
returns-in-Err-put_rest-clause-fault c = rest_fails c.args.row.now c.args.rest.now c.in-Err-put_rest.fault c.requires.rest c.in-Err-put_rest.ensures.fault

pub returns-in-Err-put_rest-clause-front : goal.returns-in-Err-put_rest-clause-front
returns-in-Err-put_rest-clause-front c =
    let cut = c.truncate.ensures.items ∙ taken_back c.args.out.now.items c.put_part.new.out.items c.len-length.result c.len-length.ensures c.put_part.ensures.front.0 in
    let cuts = c.truncate-2.ensures.items ∙ taken_back c.args.ends.now.items c.put_part.new.ends.items c.len-count.result (omega (arith, c.len-count.ensures, c.args.ends.now.ok.0)) c.put_part.ensures.front.1 in (
      front_of c.args.out.now.items c.truncate.new.self.items c.put_rest.new.out.items cut c.put_rest.ensures.front.0,
      front_of c.args.ends.now.items c.truncate-2.new.self.items c.put_rest.new.ends.items cuts c.put_rest.ensures.front.1,
    )

pub returns-clause-facts : goal.returns-clause-facts
returns-clause-facts c =
    let x = c.args.row.now in
    let rest = c.args.rest.now in
    let cut = c.truncate.ensures.items ∙ taken_back c.args.out.now.items c.put_part.new.out.items c.len-length.result c.len-length.ensures c.put_part.ensures.front.0 in
    let cuts = c.truncate-2.ensures.items ∙ taken_back c.args.ends.now.items c.put_part.new.ends.items c.len-count.result (omega (arith, c.len-count.ensures, c.args.ends.now.ok.0)) c.put_part.ensures.front.1 in
    let behind = rest_behind (facts_of_row x) c.written-written.result rest.written c.args.out.now.items c.truncate.new.self.items c.put_rest.new.out.items
    c.args.ends.now.items c.truncate-2.new.self.items c.put_rest.new.ends.items cut cuts c.written-written.ensures c.in-Ok.ensures.facts in
    rest_continued x rest c.args.out.now.items c.put_rest.new.out.items c.args.ends.now.items c.put_rest.new.ends.items c.requires.rest behind

pub returns-clause-front : goal.returns-clause-front
returns-clause-front c =
    let cut = c.truncate.ensures.items ∙ taken_back c.args.out.now.items c.put_part.new.out.items c.len-length.result c.len-length.ensures c.put_part.ensures.front.0 in
    let cuts = c.truncate-2.ensures.items ∙ taken_back c.args.ends.now.items c.put_part.new.ends.items c.len-count.result (omega (arith, c.len-count.ensures, c.args.ends.now.ok.0)) c.put_part.ensures.front.1 in (
      front_of c.args.out.now.items c.truncate.new.self.items c.put_rest.new.out.items cut c.put_rest.ensures.front.0,
      front_of c.args.ends.now.items c.truncate-2.new.self.items c.put_rest.new.ends.items cuts c.put_rest.ensures.front.1,
    )
