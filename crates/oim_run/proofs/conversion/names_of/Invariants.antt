use Rattle.std.proofs.Common.{◌≡◌, map, take}
use Rattle.oim_run.proofs.conversion.names_of.Given as goal

abbrev pub invariant-loop-table : goal.invariant-loop-table
invariant-loop-table l = l.names.items ≡ map (λ t. t.id) (take l.table l.report.tables)
