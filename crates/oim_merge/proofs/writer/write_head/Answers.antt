use Rattle.oim_merge.proofs.Writing.{head_broken, head_written}
use Rattle.oim_merge.proofs.writer.write_head.Goals as goal

pub returns-in-Ok : goal.returns-in-Ok
returns-in-Ok g c = λ layout.
    head_written layout c.args.head.now (g.W.Sink.seen c.args.sink.now)
    (g.W.Sink.seen c.write_all_of.new.sink) c.in-Ok.ensures

pub returns-in-Err : goal.returns-in-Err
returns-in-Err g c = λ layout.
    head_broken layout c.args.head.now (g.W.Sink.seen c.args.sink.now)
    (g.W.Sink.seen c.write_all_of.new.sink) c.in-Err.fault c.in-Err.ensures
