use Rattle.std.specs.Prelude.{◌≡◌, ◌∷◌, [], ◌++◌}
use Rattle.std.proofs.Common.{ap, refl, sym, ◌∙◌}
use Rattle.oim_json.specs.Sinks.{SinkView}
use Rattle.oim_ring.specs.Items.{blocks_only}
use Rattle.oim_ring.specs.declared.item.Item.TheVariants as items
use Rattle.oim_ring.proofs.TakenWhole.{blocks_more}
use Rattle.oim_merge.specs.Histories.{refusals}
use Rattle.oim_merge.specs.Writers.{WriterView, given}
use Rattle.oim_merge.proofs.Writing.{blocks_refusals, given_as, given_more, given_nothing}
use Rattle.oim_merge.proofs.merging.take_all.Goals as goal

pub loop-init : goal.loop-init
loop-init g c = record {
  ring = refl;
  blocks = ap blocks_only c.requires.fresh;
  faults = refl;
  given = given_nothing c.args.writer.now c.args.drain.now.taken (g.W.Sink.seen c.args.sink.now) c.requires.fresh c.requires.sink;
}

pub loop-preserved-in-None-take : goal.loop-preserved-in-None-take
loop-preserved-in-None-take g c =
    let r = c.loop.invariant in let e = c.in-None-take.ensures in
    let now = g.W.Sink.seen c.loop.sink in record {
      ring = e.ring ∙ r.ring;
      blocks = ap blocks_only e.none ∙ r.blocks;
      faults = r.faults;
      given = given_as c.args.writer.now c.loop.writer c.loop.drain.taken c.take.new.self.taken now e.none r.given;
    }

pub loop-preserved : goal.loop-preserved
loop-preserved g c =
    let r = c.loop.invariant in let e = c.in-Some-Block.ensures in
    let more : c.take.new.self.taken ≡ c.loop.drain.taken ++ items.Block c.in-Some-Block.block ∷ [] = e.some ∙ ap (λ x. c.loop.drain.taken ++ x ∷ []) c.in-Some-Block.field-0-is in
    let now = g.W.Sink.seen c.loop.sink in
    let later = g.W.Sink.seen c.put.new.sink in record {
      ring = e.ring ∙ r.ring;
      blocks = ap blocks_only more ∙ blocks_more c.loop.drain.taken c.in-Some-Block.block r.blocks;
      faults = r.faults;
      given = given_more c.args.writer.now c.loop.writer c.put.new.self c.loop.drain.taken (items.Block c.in-Some-Block.block ∷ []) c.take.new.self.taken now later more r.given c.put.ensures;
    }

pub returns-in-Some-Ending-clause-faults : goal.returns-in-Some-Ending-clause-faults
returns-in-Some-Ending-clause-faults g c =
    let r = c.loop.invariant in let e = c.in-Some-Ending.ensures in
    let last = items.Ending c.in-Some-Ending.ending ∷ [] in
    let more : c.take.new.self.taken ≡ c.loop.drain.taken ++ last = e.some ∙ ap (λ x. c.loop.drain.taken ++ x ∷ []) c.in-Some-Ending.field-0-is in
    c.end_table.ensures.faults ∙ (ap (λ v. v.items ++ refusals last) r.faults ∙ ap (λ l. c.args.faults.now.items ++ l) (sym (ap refusals more ∙ blocks_refusals c.loop.drain.taken last r.blocks)))

pub returns-in-Some-Ending-clause-given : goal.returns-in-Some-Ending-clause-given
returns-in-Some-Ending-clause-given g c =
    let r = c.loop.invariant in let e = c.in-Some-Ending.ensures in
    let last = items.Ending c.in-Some-Ending.ending ∷ [] in
    let more : c.take.new.self.taken ≡ c.loop.drain.taken ++ last = e.some ∙ ap (λ x. c.loop.drain.taken ++ x ∷ []) c.in-Some-Ending.field-0-is in
    let now = g.W.Sink.seen c.loop.sink in
    given_more c.args.writer.now c.loop.writer c.end_table.new.self c.loop.drain.taken last c.take.new.self.taken now c.loop.writer.sink more r.given c.end_table.ensures.items
    ∙ ap (λ (s : SinkView). given c.args.writer.now c.take.new.self.taken s) (ap (λ (w : WriterView). w.sink) r.given)
