use Rattle.std.proofs.Common.{subst}
use Rattle.oim_merge.specs.Writers.{WriterView}
use Rattle.oim_convert.specs.ReadAlone.{AreRead}
use Rattle.oim_convert.specs.WrittenHistories.{WritesUntil}
use Rattle.oim_convert.proofs.serial.convert_here.Goals as goal

pub returns-clause-writes : goal.returns-clause-writes
returns-clause-writes g c =
    let read = AreRead g.R.Read.remaining c.args.report.now c.args.limits.rows 0 c.args.readers.items in
    let end = c.convert_tables-end in (
      c.new-drains.ensures.items,
      subst (λ (w : WriterView). WritesUntil read w.layout c.args.report.now w.before (g.W.Sink.seen end.new.sink) end.new.faults.items end.result)
          c.begin-writer.ensures end.ensures,
    )
