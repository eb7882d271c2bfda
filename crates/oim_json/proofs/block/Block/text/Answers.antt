use Rattle.std.proofs.Common.{ap, length, arith, ◌∙◌, ◌+◌, ◌<◌, take, sym, option_map, slice_get}
use Rattle.oim_json.specs.Blocks.{behind_commas}
use Rattle.oim_json.specs.JsonText.{member_text}
use Rattle.oim_json.proofs.Blocks.{ends_length, read_end, text_between, text_got}
use Rattle.oim_json.proofs.block.Block.text.Goals as goal

pub index-requires : goal.index-requires
index-requires c = omega (arith, c.requires, ap length c.self.view_is, ap length c.self.invariant.1, ends_length 0 c.self.inside.facts.value)

pub part-requires : goal.part-requires
part-requires c =
    let fs = c.self.inside.facts.value in
    let within : c.args.i < length fs = omega (arith, c.requires, ap length c.self.view_is) in
    let end = read_end fs c.self.inside.ends.items c.args.i c.index.result.now c.self.invariant.1 within c.index.ensures in
    let from = c.start_of.ensures ∙ ap (λ gs. length (behind_commas (take c.args.i gs)) + 1) (sym c.self.view_is) in
    let both = text_between fs c.args.i c.start_of.result c.index.result.now within from end in
    record { order = both.0; within = omega (arith, both.1, ap length (c.as_slice.ensures.value ∙ c.self.invariant.0)) }

pub returns : goal.returns
returns c =
    let fs = c.self.inside.facts.value in
    let within : c.args.i < length fs = omega (arith, c.requires, ap length c.self.view_is) in
    let end = read_end fs c.self.inside.ends.items c.args.i c.index.result.now c.self.invariant.1 within c.index.ensures in
    let from = c.start_of.ensures ∙ ap (λ gs. length (behind_commas (take c.args.i gs)) + 1) (sym c.self.view_is) in
    ap (λ gs. option_map member_text (slice_get gs c.args.i)) (sym c.self.view_is)
    ∙ text_got fs c.as_slice.result.now c.part.result.now c.args.i c.start_of.result c.index.result.now (c.as_slice.ensures.value ∙ c.self.invariant.0) within from end c.part.ensures
