use Rattle.std.proofs.Common.{◌≡◌, IfSome}
use Rattle.oim_table_faults.specs.state.Rows.{HasListed}
use Rattle.oim_table_faults.proofs.file_faults.rest_of.Given as goal

abbrev pub invariant-loop : goal.invariant-loop
invariant-loop g l = record {
  listed : IfSome l.fn.rows.left (λ rows. HasListed rows l.rows.left l.all);
  table : l.rows.table ≡ l.fn.rows.table;
}
