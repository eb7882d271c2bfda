use Rattle.std.specs.Prelude.{◌<◌, ◌++◌, List, length}
use Rattle.std.proofs.Common.{arith, ap, refl, sym, ◌∙◌, subst}
use Rattle.std.proofs.lemmas.List.Elements.{All-map}
use Rattle.oim_ring.specs.Ends.{DrainView}
use Rattle.oim_ring.specs.Items.{EndsOnce}
use Rattle.oim_ring.specs.declared.item.Item.{Item}
use Rattle.oim_merge.specs.Histories.{all_of, document, refusals}
use Rattle.oim_merge.specs.Merging.{EndsWith, taken_of}
use Rattle.oim_merge.specs.Writers.{WriterView, given, whole_text, writing}
use Rattle.oim_merge.proofs.Drains.{FreshFrom, fresh_all, all_set, rings_set, fresh_set, ended_set}
use Rattle.oim_merge.proofs.Writing.{all_refusals}
use Rattle.oim_merge.proofs.merging.merge.Goals as goal

pub loop-drain-init : goal.loop-drain-init
loop-drain-init g c =
    let fresh : FreshFrom c.args.drains.now 0 = λ k d le lt. c.requires.fresh k d lt in
    let first = g.W.Sink.seen c.args.sink.now in
    let now = g.W.Sink.seen c.begin-writer.new.sink in
    let none = fresh_all c.args.drains.now fresh in record {
      rings = refl;
      fresh = fresh;
      ended = λ k d lt. absurd (omega arith);
      writer = c.begin-writer.ensures ∙ ap (λ (is : List Item). writing c.args.layout c.args.head.now is first now) (sym none);
      faults = c.requires.empty ∙ sym (ap refusals none);
      count = (let e = ap length c.requires.empty in let len = c.args.faults.now.ok.0 in omega (arith, e, len));
      room = c.requires.room;
    }

pub loop-drain-preserved : goal.loop-drain-preserved
loop-drain-preserved g c =
    let r = c.loop-drain.invariant in
    let ds = c.loop-drain.drains in let i = c.loop-drain.drain-index in let d = c.take_all.new.drain in
    let lt : i < length ds = omega arith in
    let first = g.W.Sink.seen c.args.sink.now in
    let later = g.W.Sink.seen c.take_all.new.sink in
    let more = all_set ds i d lt r.fresh in record {
      rings = rings_set ds i d c.drain-item.result lt c.take_all.ensures.ring ∙ r.rings;
      fresh = fresh_set ds i d lt r.fresh;
      ended = ended_set ds i d lt r.ended c.take_all.ensures.ended;
      writer = c.take_all.ensures.given ∙ (ap (λ (w : WriterView). given w d.taken later) r.writer
          ∙ ap (λ (is : List Item). writing c.args.layout c.args.head.now is first later) (sym more));
      faults = c.take_all.ensures.faults ∙ (ap (λ l. l ++ refusals d.taken) r.faults ∙ sym (ap refusals more ∙ all_refusals (all_of (taken_of ds)) d.taken));
      count = (let n = c.take_all.ensures.count in let m = r.count in omega (arith, n, m));
      room = (let n = c.take_all.ensures.room in let m = r.room in omega (arith, n, m));
    }

pub returns-clause-ended : goal.returns-clause-ended
returns-clause-ended g c =
    All-map EndsOnce (λ (d : DrainView). d.taken) c.loop-drain.drains (λ k d lt. c.loop-drain.invariant.ended k d (omega arith))

pub returns-clause-merged : goal.returns-clause-merged
returns-clause-merged g c =
    let first = g.W.Sink.seen c.args.sink.now in
    let last = g.W.Sink.seen c.finish.new.sink in
    let r = c.loop-drain.invariant in
    let hs = taken_of c.loop-drain.drains in
    let ends = subst (λ (w : WriterView). EndsWith w.before last (whole_text w) (refusals w.items) c.finish.result) r.writer c.finish.ensures in
    (r.faults, subst (λ fs. EndsWith first last (document c.args.layout c.args.head.now hs) fs c.finish.result) (sym r.faults) ends)
