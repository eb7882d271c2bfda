use Rattle.oim_meta.proofs.ReadOrder.{read_in_order}
use Rattle.oim_meta.proofs.metadata.Metadata.read.Goals as goal

-- The value that was read has its members in order.
pub invariant_of-result : goal.invariant_of-result
invariant_of-result c = read_in_order _ _ c.in-Ok.ensures.ok.1

pub returns-in-Ok-clause-order : goal.returns-in-Ok-clause-order
returns-in-Ok-clause-order c = read_in_order _ _ c.in-Ok.ensures.ok.1
