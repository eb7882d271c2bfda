use Rattle.std.proofs.Common.{Err, sym}
use Rattle.oim_decode.proofs.PlainLaws.{plan_answer}
use Rattle.oim_decode.proofs.table.plain_rows.checked_facts.Goals as goal

pub returns-in-Ok : goal.returns-in-Ok
returns-in-Ok c =
    plan_answer c.args.row.now c.args.plan.now c.number-in-Ok.result c.args.fields.now c.facts.result (sym c.requires.header) c.number-in-Ok.ensures.value c.requires.fields c.facts.ensures

pub returns-in-Err : goal.returns-in-Err
returns-in-Err c =
    plan_answer c.args.row.now c.args.plan.now c.number.result c.args.fields.now (Err c.in-Err.fault) (sym c.requires.header) c.number.ensures.value c.requires.fields c.in-Err.ensures.fault
