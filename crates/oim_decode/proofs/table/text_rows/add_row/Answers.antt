use Rattle.oim_decode.proofs.RowLaws.{adds_answer}
use Rattle.oim_decode.proofs.table.text_rows.add_row.Goals as goal

pub returns-in-Ok-clause-facts : goal.returns-in-Ok-clause-facts
returns-in-Ok-clause-facts c =
    adds_answer c.args.row.now c.args.ids.now c.args.facts.now c.begin_row.new.self c.begin_row.result c.in-Ok.ensures.new c.begin_row.ensures.facts
