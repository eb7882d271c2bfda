use Rattle.std.proofs.Common.{◌≡◌, ◌∙◌, List, Option, Result, Ok, Err, IfSome, ap, subst, sym}
use Rattle.csv.specs.Records.{fields_of}
use Rattle.oim_resolve.specs.FactParts.{FactParts as Fact}
use Rattle.oim_rows.specs.RowFacts.{row_fault}
use Rattle.oim_rows.specs.state.Streams.{early_row_answer}
use Rattle.oim_rows.specs.declared.fault.TableFault.{TableFault}
use Rattle.oim_rows.proofs.StreamLaws.{early_fault}
use Rattle.oim_rows.proofs.rows.take_row.Goals as goal

pub returns-in-Err-facts-clause-early : goal.returns-in-Err-facts-clause-early
returns-in-Err-facts-clause-early c =
    let g = c.args.decoder.now in
    let n = c.args.number in
    let ids = c.args.ids.now in
    let r = fields_of c.args.row.now in
    subst (λ o. IfSome (early_row_answer g n ids o r) (λ a. ◌≡◌ {A = Result (Option (List Fact)) TableFault} (Err c.in-Err-facts.fault) a)) (sym (c.in-Ok-true.is ∙ ap Ok c.in-Ok-true.field-0-test))
    (early_fault (row_fault g n ids r) c.in-Err-facts.fault c.in-Err-facts.ensures.own)
