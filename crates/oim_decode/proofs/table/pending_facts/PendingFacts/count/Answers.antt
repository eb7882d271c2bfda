use Rattle.std.proofs.Common.{ap, length, arith}
use Rattle.oim_json.proofs.Blocks.{ends_length}
use Rattle.oim_decode.proofs.table.pending_facts.PendingFacts.count.Goals as goal

pub returns : goal.returns
returns c = omega (arith, c.len.ensures, ap length c.self.invariant.1, ends_length 0 c.self.inside.facts.value, ap length c.self.view_is)
