use Rattle.std.proofs.Common.{◌++◌, ◌∙◌, List, ap, length}
use Rattle.oim_json.specs.Blocks.{behind_commas, ends_from}
use Rattle.oim_resolve.specs.FactParts.{FactParts as Fact}
use Rattle.oim_fast.specs.Facts.{facts_of_row}
use Rattle.oim_decode.proofs.PlainLaws.{facts_are}
use Rattle.oim_decode.proofs.table.plain_rows.PlainRows.put_row.Goals as goal

pub returns-in-Ok-put_facts-clause-facts : goal.returns-in-Ok-put_facts-clause-facts
returns-in-Ok-put_facts-clause-facts c =
    let x = c.args.row.now in
    record {
      facts = c.in-Ok.facts;
      are = facts_are x.header.table (facts_of_row x) c.in-Ok.facts c.in-Ok.ensures.facts;
      text = c.in-Ok-put_facts.ensures.texts ∙ ap (λ (fs : List Fact). c.args.out.now.items ++ behind_commas fs) c.as_slice.ensures;
      ends = c.in-Ok-put_facts.ensures.ends ∙ ap (λ (fs : List Fact). c.args.ends.now.items ++ ends_from (length c.args.out.now.items) fs) c.as_slice.ensures;
    }
