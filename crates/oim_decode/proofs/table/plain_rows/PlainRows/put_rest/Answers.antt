use Rattle.std.proofs.Common.{◌++◌, ◌∙◌, List, ap, drop, length}
use Rattle.oim_json.specs.Blocks.{behind_commas, ends_from}
use Rattle.oim_resolve.specs.FactParts.{FactParts as Fact}
use Rattle.oim_fast.specs.Facts.{facts_of_row}
use Rattle.oim_decode.proofs.PlainLaws.{facts_are}
use Rattle.oim_decode.proofs.table.plain_rows.PlainRows.put_rest.Goals as goal

pub returns-in-Ok-put_facts-clause-facts : goal.returns-in-Ok-put_facts-clause-facts
returns-in-Ok-put_facts-clause-facts c =
    let x = c.args.row.now in
    let same = c.behind.ensures ∙ ap (drop c.args.count) c.as_slice.ensures in (
      c.in-Ok.facts,
      facts_are x.header.table (facts_of_row x) c.in-Ok.facts c.in-Ok.ensures.facts,
      c.in-Ok-put_facts.ensures.texts ∙ ap (λ (fs : List Fact). c.args.out.now.items ++ behind_commas fs) same,
      c.in-Ok-put_facts.ensures.ends ∙ ap (λ (fs : List Fact). c.args.ends.now.items ++ ends_from (length c.args.out.now.items) fs) same,
    )
