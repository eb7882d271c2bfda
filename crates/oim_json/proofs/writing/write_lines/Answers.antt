use Rattle.std.specs.Prelude.{◌<◌, ◌≤◌, [], length}
use Rattle.std.proofs.Common.{arith, subst, sym}
use Rattle.std.proofs.lemmas.List.{take_all}
use Rattle.oim_json.specs.state.Chunks.{IsPut}
use Rattle.oim_json.specs.Document.{more_members}
use Rattle.oim_json.specs.declared.layout.Layout.TheVariants.{Lines}
use Rattle.oim_json.proofs.Chunks.{put_out}
use Rattle.oim_json.proofs.Members.{has_one_more}
use Rattle.oim_json.proofs.Putting.{line_broke, line_put}
use Rattle.oim_json.proofs.writing.write_lines.Goals as goal

pub returns-in-Err : goal.returns-in-Err
returns-in-Err g c =
    let first = g.W.Sink.seen c.args.sink.now in
    let now = g.W.Sink.seen c.loop-i.sink in
    let new = g.W.Sink.seen c.put_line.new.sink in
    line_broke c.args.any c.args.block.now c.loop-i.i c.loop-i.has_any c.text.result.now c.loop-i.invariant.has c.text.ensures
    first now new c.loop-i.chunk c.put_line.new.chunk c.loop-i.invariant.put c.in-Err.fault c.in-Err.ensures

pub loop-i-preserved : goal.loop-i-preserved
loop-i-preserved g c =
    let first = g.W.Sink.seen c.args.sink.now in
    let now = g.W.Sink.seen c.loop-i.sink in
    let new = g.W.Sink.seen c.put_line.new.sink in
    let within : c.loop-i.i < length c.args.block.now = omega (arith, c.loop-i-test.true, c.count-i-end.ensures.count) in
    record {
      has = sym (has_one_more c.args.any c.args.block.now c.loop-i.i within);
      put = line_put c.args.any c.args.block.now c.loop-i.i c.loop-i.has_any c.text.result.now c.loop-i.invariant.has c.text.ensures
          first now new c.loop-i.chunk c.put_line.new.chunk c.loop-i.invariant.put c.in-Ok.ensures;
    }

pub returns : goal.returns
returns g c =
    let first = g.W.Sink.seen c.args.sink.now in
    let now = g.W.Sink.seen c.loop-i.sink in
    let new = g.W.Sink.seen c.flush.new.sink in
    let fs = c.args.block.now in
    let over : length fs ≤ c.loop-i.i = omega (arith, c.loop-i-test.false, c.count-i-end.ensures.count) in
    let put = subst (λ xs. IsPut first now [] c.loop-i.chunk (more_members Lines c.args.any xs)) (take_all c.loop-i.i fs over) c.loop-i.invariant.put in
    put_out first now new c.loop-i.chunk (more_members Lines c.args.any fs) c.flush.result put c.flush.ensures.writes
