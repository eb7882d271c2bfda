use Rattle.std.proofs.Common.{◌∙◌}
use Rattle.oim_table_faults.proofs.ListRows.{next_listed}
use Rattle.oim_table_faults.proofs.file_faults.rest_of.Goals as goal

pub loop-preserved : goal.loop-preserved
loop-preserved g c =
    let gives = rw c.in-Ok-Some.field-0-is at c.in-Ok-Some.ensures.next in
    record {
      listed = next_listed c.loop.rows.table c.args.rows.now.left c.loop.rows.left c.next_row.new.self.left c.loop.all c.push_all.new.all c.in-Ok-Some.faults
          c.loop.invariant.listed gives c.in_ok-push_all-in-Ok-Some.ensures;
      table = c.in-Ok-Some.ensures.same.0 ∙ c.loop.invariant.table;
    }
