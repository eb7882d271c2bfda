use Rattle.std.proofs.Common.{◌++◌, ◌∙◌, ap}
use Rattle.oim_decode.specs.state.RowTexts.{facts_of_answer}
use Rattle.oim_decode.proofs.Cuts.{held_more}
use Rattle.oim_decode.proofs.table.pending_facts.PendingFacts.push_row.Goals as goal

pub invariant_of-self : goal.invariant_of-self
invariant_of-self c =
    let held = c.self.inside in
    let written = c.in-Ok.ensures.facts in
    held_more held.bytes.items c.put_row.new.out.items held.ends.items c.put_row.new.ends.items held.facts.value written.facts c.then-facts.result.value
    c.self.invariant.0 c.self.invariant.1 written.text written.ends (c.then-facts.ensures ∙ ap (λ a. held.facts.value ++ facts_of_answer a) written.are)
