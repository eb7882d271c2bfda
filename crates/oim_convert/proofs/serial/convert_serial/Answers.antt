use Rattle.oim_convert.proofs.SerialLaws.{alone_converts, alone_few, alone_leaves, alone_of_tables, alone_writes, alone_wrong}
use Rattle.oim_convert.proofs.serial.convert_serial.Goals as goal

pub returns-clause-writes : goal.returns-clause-writes
returns-clause-writes g c =
    alone_writes g.R.Read.remaining c.args.layout c.args.report.now c.args.limits.rows c.args.readers.items (g.W.Sink.seen c.args.sink.now)
    (g.W.Sink.seen c.convert_here.new.sink)
    c.convert_here.result c.answer_of.result c.answer_of.ensures c.convert_here.ensures.faults c.convert_here.ensures.writes

pub returns-clause-converts : goal.returns-clause-converts
returns-clause-converts g c =
    alone_converts g.R.Read.remaining c.args.layout c.args.report.now c.args.limits.rows c.args.readers.items (g.W.Sink.seen c.args.sink.now)
    (g.W.Sink.seen c.convert_here.new.sink)
    c.convert_here.result c.answer_of.result c.answer_of.ensures c.convert_here.ensures.faults c.convert_here.ensures.writes

pub returns-clause-leaves : goal.returns-clause-leaves
returns-clause-leaves g c =
    alone_leaves g.R.Read.remaining c.args.layout c.args.report.now c.args.limits.rows c.args.readers.items (g.W.Sink.seen c.args.sink.now)
    (g.W.Sink.seen c.convert_here.new.sink)
    c.convert_here.result c.answer_of.result c.answer_of.ensures c.convert_here.ensures.faults c.convert_here.ensures.writes

pub returns-clause-readers : goal.returns-clause-readers
returns-clause-readers g c =
    alone_wrong g.R.Read.remaining c.args.layout c.args.report.now c.args.limits.rows c.args.readers.items (g.W.Sink.seen c.args.sink.now)
    (g.W.Sink.seen c.convert_here.new.sink)
    c.convert_here.result c.answer_of.result c.answer_of.ensures c.convert_here.ensures.faults c.convert_here.ensures.writes

pub returns-clause-few : goal.returns-clause-few
returns-clause-few g c =
    alone_few g.R.Read.remaining c.args.layout c.args.report.now c.args.limits.rows c.args.readers.items (g.W.Sink.seen c.args.sink.now)
    (g.W.Sink.seen c.convert_here.new.sink)
    c.convert_here.result c.answer_of.result c.answer_of.ensures c.convert_here.ensures.faults c.convert_here.ensures.writes

pub returns-clause-tables : goal.returns-clause-tables
returns-clause-tables g c =
    alone_of_tables g.R.Read.remaining c.args.layout c.args.report.now c.args.limits.rows c.args.readers.items (g.W.Sink.seen c.args.sink.now)
    (g.W.Sink.seen c.convert_here.new.sink)
    c.convert_here.result c.answer_of.result c.answer_of.ensures c.convert_here.ensures.faults c.convert_here.ensures.writes
