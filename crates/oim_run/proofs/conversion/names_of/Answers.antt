use Rattle.std.proofs.Common.{arith, rules}
use Rattle.std.proofs.lemmas.List.{map_more}
use Rattle.oim_report.specs.Readers.{no_table}
use Rattle.oim_run.proofs.conversion.names_of.Goals as goal

pub loop-table-preserved : goal.loop-table-preserved
loop-table-preserved c =
    rw (map_more (λ t. t.id) c.args.report.now.tables c.loop-table.table no_table (omega (arith, c.loop-table-test.true, c.tables-table-end.ensures))) (search rules)
