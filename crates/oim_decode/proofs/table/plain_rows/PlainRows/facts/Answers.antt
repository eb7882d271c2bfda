use Rattle.std.proofs.Common.{◌∙◌, sym}
use Rattle.oim_decode.proofs.table.plain_rows.PlainRows.facts.Goals as goal

pub checked_facts-requires-clause-header : goal.checked_facts-requires-clause-header
checked_facts-requires-clause-header c =
    let same = rw c.in-Some.is at c.self.invariant in
    c.requires.header ∙ sym (same ∙ c.self.view_is)

pub checked_facts-facts-requires-clause-header : goal.checked_facts-facts-requires-clause-header
checked_facts-facts-requires-clause-header c = sym (c.in-Ok.ensures ∙ c.header.ensures)
