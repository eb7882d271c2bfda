use Rattle.std.proofs.Common.{◌≤◌, ◌∙◌, ap, arith, length, sym}
use Rattle.oim_json.specs.Blocks.{behind_commas, ends_from}
use Rattle.oim_json.proofs.Blocks.{ends_length, nothing_written}
use Rattle.oim_decode.proofs.Cuts.{end_of_first, first_ends, first_texts}
use Rattle.oim_decode.proofs.table.pending_facts.PendingFacts.keep_first.Goals as goal

pub invariant_of-self : goal.invariant_of-self
invariant_of-self c = (
  c.clear.ensures.items ∙ nothing_written.0 ∙ ap behind_commas (sym c.none.ensures),
  c.clear-then-count-eq0.ensures.items ∙ nothing_written.1 ∙ ap (ends_from 0) (sym c.none.ensures),
)

pub index-requires : goal.index-requires
index-requires c = omega (arith, c.requires, c.if-count-eq0.false, ap length c.self.view_is, ap length c.self.invariant.1, ends_length 0 c.self.inside.facts.value)

pub invariant_of-self-2 : goal.invariant_of-self-2
invariant_of-self-2 c =
    let fs = c.self.inside.facts.value in
    let there : c.args.count ≤ length fs = omega (arith, c.requires, ap length c.self.view_is) in
    let some : 1 ≤ c.args.count = omega (arith, c.if-count-eq0.false) in
    let at = end_of_first c.args.count fs c.self.inside.ends.items c.index.result.now c.self.invariant.1 some there c.index.ensures in (
      c.truncate.ensures.items ∙ first_texts c.args.count c.index.result.now fs c.self.inside.bytes.items c.self.invariant.0 at ∙ ap behind_commas (sym c.first.ensures),
      c.truncate-2.ensures.items ∙ first_ends c.args.count fs c.self.inside.ends.items there c.self.invariant.1 ∙ ap (ends_from 0) (sym c.first.ensures),
    )
