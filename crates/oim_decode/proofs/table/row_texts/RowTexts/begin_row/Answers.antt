use Rattle.std.proofs.Common.{◌∙◌, arith}
use Rattle.oim_decode.proofs.Cuts.{front_of, taken_back, written_behind}
use Rattle.oim_decode.proofs.table.row_texts.RowTexts.begin_row.Goals as goal

pub returns-clause-facts : goal.returns-clause-facts
returns-clause-facts c =
    let cut = c.truncate.ensures.items ∙ taken_back c.args.out.now.items c.begin_fast.new.out.items c.len-length.result c.len-length.ensures c.begin_fast.ensures.front.0 in
    let cuts = c.truncate-2.ensures.items ∙ taken_back c.args.ends.now.items c.begin_fast.new.ends.items c.len-count.result (omega (arith, c.len-count.ensures, c.args.ends.now.ok.0)) c.begin_fast.ensures.front.1 in
    written_behind c.args.row.now c.args.out.now.items c.truncate.new.self.items c.put_row.new.out.items c.args.ends.now.items c.truncate-2.new.self.items c.put_row.new.ends.items cut cuts
    c.in-Ok.ensures.facts

pub returns-clause-front : goal.returns-clause-front
returns-clause-front c =
    let cut = c.truncate.ensures.items ∙ taken_back c.args.out.now.items c.begin_fast.new.out.items c.len-length.result c.len-length.ensures c.begin_fast.ensures.front.0 in
    let cuts = c.truncate-2.ensures.items ∙ taken_back c.args.ends.now.items c.begin_fast.new.ends.items c.len-count.result (omega (arith, c.len-count.ensures, c.args.ends.now.ok.0)) c.begin_fast.ensures.front.1 in (
      front_of c.args.out.now.items c.truncate.new.self.items c.put_row.new.out.items cut c.put_row.ensures.front.0,
      front_of c.args.ends.now.items c.truncate-2.new.self.items c.put_row.new.ends.items cuts c.put_row.ensures.front.1,
    )

pub returns-in-Err-put_row-clause-front : goal.returns-in-Err-put_row-clause-front
returns-in-Err-put_row-clause-front c =
    let cut = c.truncate.ensures.items ∙ taken_back c.args.out.now.items c.begin_fast.new.out.items c.len-length.result c.len-length.ensures c.begin_fast.ensures.front.0 in
    let cuts = c.truncate-2.ensures.items ∙ taken_back c.args.ends.now.items c.begin_fast.new.ends.items c.len-count.result (omega (arith, c.len-count.ensures, c.args.ends.now.ok.0)) c.begin_fast.ensures.front.1 in (
      front_of c.args.out.now.items c.truncate.new.self.items c.put_row.new.out.items cut c.put_row.ensures.front.0,
      front_of c.args.ends.now.items c.truncate-2.new.self.items c.put_row.new.ends.items cuts c.put_row.ensures.front.1,
    )
