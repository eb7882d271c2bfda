use Rattle.std.specs.Prelude.{◌++◌}
use Rattle.std.proofs.Common.{◌∙◌, ap, subst}
use Rattle.oim_json.specs.state.Chunks.{Puts}
use Rattle.oim_json.specs.Document.{line_start}
use Rattle.oim_json.specs.Sinks.{Broke}
use Rattle.oim_json.specs.declared.layout.Layout.TheVariants.{Lines}
use Rattle.oim_json.proofs.Chunks.{broke_sooner, piece_of_two, put_twice}
use Rattle.oim_json.proofs.writing.put_line.Goals as goal

pub returns-in-Ok : goal.returns-in-Ok
returns-in-Ok g c =
    let old = g.W.Sink.seen c.args.sink.now in
    let now = g.W.Sink.seen c.put.new.sink in
    let new = g.W.Sink.seen c.put-in-Ok.new.sink in
    let text = c.args.text.now in
    let is = ap (λ t. t ++ text) c.line_break.ensures ∙ piece_of_two c.args.any (line_start Lines) text in
    subst (λ t. Puts old new c.args.chunk.now c.put-in-Ok.new.self t c.put-in-Ok.result) is
    (put_twice old now new c.args.chunk.now c.put.new.self c.put-in-Ok.new.self c.line_break.result.now text c.put-in-Ok.result c.in-Ok.ensures c.put-in-Ok.ensures)

pub returns-in-Err : goal.returns-in-Err
returns-in-Err g c =
    let old = g.W.Sink.seen c.args.sink.now in
    let now = g.W.Sink.seen c.put.new.sink in
    let text = c.args.text.now in
    let is = ap (λ t. t ++ text) c.line_break.ensures ∙ piece_of_two c.args.any (line_start Lines) text in
    subst (λ t. Broke old now (c.args.chunk.now ++ t) c.in-Err.fault) is
    (broke_sooner old now c.args.chunk.now c.line_break.result.now text c.in-Err.fault c.in-Err.ensures)
