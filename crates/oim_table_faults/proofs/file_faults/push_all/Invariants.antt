use Rattle.std.proofs.Common.{◌≡◌, ◌++◌, take}
use Rattle.oim_table_faults.proofs.file_faults.push_all.Given as goal

abbrev pub invariant-loop-fault : goal.invariant-loop-fault
invariant-loop-fault l = l.all ≡ l.fn.all ++ take l.fault-index l.fault-items
