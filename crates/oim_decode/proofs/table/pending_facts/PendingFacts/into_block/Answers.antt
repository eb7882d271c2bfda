use Rattle.std.proofs.Common.{◌≤◌, ◌∙◌, ap, length, arith, sym}
use Rattle.oim_json.specs.Blocks.{behind_commas, ends_from}
use Rattle.oim_json.proofs.Blocks.{ends_length}
use Rattle.oim_decode.proofs.Cuts.{end_of_first, first_ends, first_texts}
use Rattle.oim_decode.proofs.table.pending_facts.PendingFacts.into_block.Goals as goal

pub index-requires : goal.index-requires
index-requires c =
    omega (arith, c.requires.some, c.requires.there, ap length c.self.view_is, ap length c.self.invariant.1, ends_length 0 c.self.inside.facts.value)

pub from_parts-requires-clause-texts : goal.from_parts-requires-clause-texts
from_parts-requires-clause-texts c =
    let fs = c.self.inside.facts.value in
    let there : c.args.count ≤ length fs = omega (arith, c.requires.there, ap length c.self.view_is) in
    let at = end_of_first c.args.count fs c.self.inside.ends.items c.index.result.now c.self.invariant.1 c.requires.some there c.index.ensures in
    c.into_vec.ensures.items ∙ c.truncate.ensures.items ∙ first_texts c.args.count c.index.result.now fs c.self.inside.bytes.items c.self.invariant.0 at ∙ ap behind_commas (sym c.first.ensures)

pub from_parts-requires-clause-ends : goal.from_parts-requires-clause-ends
from_parts-requires-clause-ends c =
    let fs = c.self.inside.facts.value in
    let there : c.args.count ≤ length fs = omega (arith, c.requires.there, ap length c.self.view_is) in
    c.truncate-2.ensures.items ∙ first_ends c.args.count fs c.self.inside.ends.items there c.self.invariant.1 ∙ ap (ends_from 0) (sym c.first.ensures)
