use Rattle.std.proofs.Common.{◌≡◌, ◌≤◌, ◌++◌, ◌∙◌, ap, length, arith, sym, ◌-◌, map}
use Rattle.oim_json.specs.Blocks.{behind_commas, ends_from}
use Rattle.oim_json.proofs.Blocks.{ends_length}
use Rattle.oim_text.specs.Buffers.{BufferText}
use Rattle.oim_decode.proofs.Cuts.{drop_before, end_of_first, rest_ends, rest_texts}
use Rattle.oim_decode.proofs.table.pending_facts.PendingFacts.from_place.Goals as goal

pub index-start-requires : goal.index-start-requires
index-start-requires c =
    omega (arith, c.requires.some, c.requires.there, ap length c.self.view_is, ap length c.self.invariant.1, ends_length 0 c.self.inside.facts.value)

pub after-requires : goal.after-requires
after-requires c =
    let fs = c.self.inside.facts.value in
    let there : c.args.count ≤ length fs = omega (arith, c.requires.there, ap length c.self.view_is) in
    let at = end_of_first c.args.count fs c.self.inside.ends.items c.index-start.result.now c.self.invariant.1 c.requires.some there c.index-start.ensures in
    omega (arith, at, drop_before c.args.count fs, ap length (c.as_slice.ensures.value ∙ c.self.invariant.0))

pub behind-requires : goal.behind-requires
behind-requires c =
    omega (arith, c.requires.there, ap length c.self.view_is, ap length (c.as_slice-2.ensures.value ∙ c.self.invariant.1), ends_length 0 c.self.inside.facts.value)

pub invariant_of-result-2 : goal.invariant_of-result-2
invariant_of-result-2 c =
    let fs = c.self.inside.facts.value in
    let there : c.args.count ≤ length fs = omega (arith, c.requires.there, ap length c.self.view_is) in
    let at = end_of_first c.args.count fs c.self.inside.ends.items c.index-start.result.now c.self.invariant.1 c.requires.some there c.index-start.ensures in
    let texts = rest_texts c.args.count c.index-start.result.now fs c.as_slice.result.now (c.as_slice.ensures.value ∙ c.self.invariant.0) at in
    let ends = rest_ends c.args.count c.index-start.result.now fs c.as_slice-2.result.now there (c.as_slice-2.ensures.value ∙ c.self.invariant.1) at in
    let moved : c.put.new.self.items ≡ c.after.result.now =
    c.in_ok-put.ensures.items ∙ ap (λ t. t ++ c.after.result.now) c.in_ok-bytes.ensures.items in (
      ap (λ (p : BufferText). p.items) c.bytes.view_is ∙ moved ∙ c.after.ensures ∙ texts ∙ ap behind_commas (sym c.rest.ensures),
      c.in_ok-counted_from.ensures ∙ ap (map (λ end. end - c.index-start.result.now)) c.behind.ensures ∙ ends ∙ ap (ends_from 0) (sym c.rest.ensures),
    )
