use Rattle.std.proofs.Common.{◌≡◌, ◌≤◌, ◌++◌, drop, vec_len, vec_capacity, length}
use Rattle.oim_run.specs.state.Naming.{with_names}
use Rattle.oim_run.proofs.conversion.named.Given as goal

abbrev pub invariant-loop-fault : goal.invariant-loop-fault
invariant-loop-fault l = record {
  named : l.list.items ++ with_names l.names.items (drop l.fault-index l.faults) ≡ with_names l.fn.names.items l.fn.faults;
  count : vec_len l.list ≤ l.fault-index;
  room : length l.fn.faults ≤ vec_capacity l.list;
}
