use Rattle.oim_json.proofs.Chunks.{put_past}
use Rattle.oim_json.proofs.Writes.{broke_before}
use Rattle.oim_json.proofs.chunk.Chunk.put.Goals as goal

pub returns-in-Err : goal.returns-in-Err
returns-in-Err g c =
    let old = g.W.Sink.seen c.args.sink.now in
    let new = g.W.Sink.seen c.flush.new.sink in
    broke_before old new c.args.self.now c.args.text.now c.in-Err.fault c.in-Err.ensures.writes

pub returns : goal.returns
returns g c =
    let old = g.W.Sink.seen c.args.sink.now in
    let now = g.W.Sink.seen c.flush.new.sink in
    let new = g.W.Sink.seen c.write_all_of.new.sink in
    put_past old now new c.args.self.now c.flush.new.self c.args.text.now c.write_all_of.result c.in-Ok.ensures.writes c.in-Ok.ensures.empty c.write_all_of.ensures
