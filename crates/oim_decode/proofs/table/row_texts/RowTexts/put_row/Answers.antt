use Rattle.std.proofs.Common.{◌∙◌, arith}
use Rattle.oim_decode.proofs.Cuts.{front_of, taken_back, written_ok}
use Rattle.oim_decode.proofs.table.row_texts.RowTexts.put_row.Goals as goal

pub returns-clause-facts : goal.returns-clause-facts
returns-clause-facts c =
    let cut = c.truncate.ensures.items ∙ taken_back c.args.out.now.items c.put_row.new.out.items c.len-length.result c.len-length.ensures c.put_row.ensures.front.0 in
    let cuts = c.truncate-2.ensures.items ∙ taken_back c.args.ends.now.items c.put_row.new.ends.items c.len-count.result (omega (arith, c.len-count.ensures, c.args.ends.now.ok.0)) c.put_row.ensures.front.1 in
    written_ok c.args.row.now c.put_row-2.result c.args.out.now.items c.truncate.new.self.items c.put_row-2.new.out.items c.args.ends.now.items c.truncate-2.new.self.items c.put_row-2.new.ends.items cut cuts
    c.put_row-2.ensures.facts

pub returns-clause-front : goal.returns-clause-front
returns-clause-front c =
    let cut = c.truncate.ensures.items ∙ taken_back c.args.out.now.items c.put_row.new.out.items c.len-length.result c.len-length.ensures c.put_row.ensures.front.0 in
    let cuts = c.truncate-2.ensures.items ∙ taken_back c.args.ends.now.items c.put_row.new.ends.items c.len-count.result (omega (arith, c.len-count.ensures, c.args.ends.now.ok.0)) c.put_row.ensures.front.1 in (
      front_of c.args.out.now.items c.truncate.new.self.items c.put_row-2.new.out.items cut c.put_row-2.ensures.front.0,
      front_of c.args.ends.now.items c.truncate-2.new.self.items c.put_row-2.new.ends.items cuts c.put_row-2.ensures.front.1,
    )
