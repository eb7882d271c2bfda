use Rattle.std.proofs.Common.{ap, length, arith, ◌∙◌, ◌+◌, ◌<◌, take}
use Rattle.oim_json.specs.Blocks.{behind_commas}
use Rattle.oim_json.proofs.Blocks.{ends_length, no_texts, read_start, start_within}
use Rattle.oim_json.proofs.block.Block.start_of.Goals as goal

pub returns-then-i-eq0 : goal.returns-then-i-eq0
returns-then-i-eq0 c = omega (arith, no_texts c.args.self.now c.args.i c.if-i-eq0.true)

pub index-requires : goal.index-requires
index-requires c = omega (arith, c.requires, ap length c.self.view_is, ap length c.self.invariant.1, ends_length 0 c.self.inside.facts.value)

pub overflow_add-result : goal.overflow_add-result
overflow_add-result c =
    let fs = c.self.inside.facts.value in
    let within : c.args.i < length fs = omega (arith, c.requires, ap length c.self.view_is) in
    let read = read_start fs c.self.inside.ends.items c.args.i c.index.result.now c.self.invariant.1 within (omega arith) c.index.ensures in
    record { fits = omega (arith, read, start_within c.args.i fs within, ap length c.self.invariant.0, c.self.inside.bytes.small) }

pub returns : goal.returns
returns c =
    let fs = c.self.inside.facts.value in
    let within : c.args.i < length fs = omega (arith, c.requires, ap length c.self.view_is) in
    let read = read_start fs c.self.inside.ends.items c.args.i c.index.result.now c.self.invariant.1 within (omega arith) c.index.ensures in
    ap (λ n. n + 1) (read ∙ ap (λ gs. length (behind_commas (take c.args.i gs))) c.self.view_is)
