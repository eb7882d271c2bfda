use Rattle.std.proofs.Common.{◌∙◌, arith, subst, rules, IfSome, string_bytes}
use Rattle.oim_records.specs.Reads.{IsFileOf}
use Rattle.oim_run.proofs.Endings.{one_longer, one_more}
use Rattle.oim_run.proofs.FileFacts.{found_file}
use Rattle.oim_run.proofs.running.find_tables.Goals as goal

pub loop-table-preserved : goal.loop-table-preserved
loop-table-preserved g c =
    let told = g.F.Folder.files c.args.folder.now in (
      c.find-reader.ensures.same ∙ c.loop-table.invariant.0,
      one_more g.R.Read.remaining told c.args.base.now (string_bytes c.in-Ok.path) c.args.report.now.tables c.loop-table.table c.loop-table.readers.items _ c.find-reader.result
          (omega (arith, c.loop-table-test.true, c.tables-table-end.ensures)) (search rules) (search rules) c.loop-table.invariant.1
          (found_file g.R.Read.remaining told (string_bytes c.in-Ok.path) c.find-reader.result
          (subst (λ k. IfSome k (λ at. IsFileOf g.R.Read.remaining c.find-reader.result (at (string_bytes c.in-Ok.path)))) c.loop-table.invariant.0 c.find-reader.ensures.finds)),
      one_longer c.loop-table.readers.items _ c.find-reader.result c.loop-table.table (search rules) c.loop-table.invariant.2,
    )
