use Rattle.std.proofs.Common.{ap, length, arith}
use Rattle.oim_json.proofs.Blocks.{ends_length}
use Rattle.oim_json.proofs.block.Block.count.Goals as goal

pub returns-clause-count : goal.returns-clause-count
returns-clause-count c =
    omega (arith, c.len.ensures, ap length c.self.invariant.1, ends_length 0 c.self.inside.facts.value, ap length c.self.view_is)

pub returns-clause-some : goal.returns-clause-some
returns-clause-some c = omega (arith, c.len.ensures, ap length c.self.invariant.1, ends_length 0 c.self.inside.facts.value, c.self.invariant.2)

pub returns-clause-most : goal.returns-clause-most
returns-clause-most c = omega (arith, c.len.ensures, ap length c.self.invariant.1, ends_length 0 c.self.inside.facts.value, c.self.invariant.3)
