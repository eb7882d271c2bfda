use Rattle.std.proofs.Common.{ℕ, List, Option, drop}
use Rattle.oim_explain.specs.ListedFaults.{WritesEach}
use Rattle.oim_explain.specs.state.ListedRows.{located_record}
use Rattle.oim_explain.proofs.fault_list.put_located.Given as goal

-- What is still to be written completes what was written.
abbrev pub invariant-loop-fault : goal.invariant-loop-fault
invariant-loop-fault g l = (out : Option (List ℕ)) (after : Option ℕ) → WritesEach (g.W.Write.contents l.to) out l.id l.left (located_record l.id) (drop l.fault-index l.located) after
    → WritesEach (g.W.Write.contents l.fn.to) out l.id l.fn.room (located_record l.id) l.located after
