use Rattle.std.proofs.Common.{◌≡◌, ap, subst, sym}
use Rattle.oim_json.specs.Document.{tail_text}
use Rattle.oim_json.specs.Sinks.{Broke, SinkView, Wrote}
use Rattle.oim_json.specs.declared.layout.Layout.{Layout}
use Rattle.oim_merge.specs.Histories.{refusals}
use Rattle.oim_merge.specs.Merging.{EndsWith}
use Rattle.oim_merge.specs.state.Steps.{StandsAt}
use Rattle.oim_merge.specs.Writers.{WriterView, whole_text}
use Rattle.oim_merge.specs.declared.progress.MergeEnd.TheVariants as end
use Rattle.oim_merge.specs.declared.progress.Standing.TheVariants as standings
use Rattle.oim_merge.proofs.Writing.{stands_as, tail_broken, tail_written, was_broken, was_refused}
use Rattle.oim_merge.proofs.writer.DocumentWriter.finish.Goals as goal

pub returns-in-Ok : goal.returns-in-Ok
returns-in-Ok g c =
    let w = c.args.self in let p = c.self.inside.progress in
    let later = g.W.Sink.seen c.write_all_of.new.sink in
    let st = stands_as w p.any p.standing standings.Open c.in-Open.is (subst (λ (v : WriterView). StandsAt v p.any p.standing) c.self.view_is c.self.invariant) in
    let layout : c.self.inside.layout ≡ w.layout = ap (λ (v : WriterView). v.layout) c.self.view_is in
    let wrote = rw c.tail.ensures at c.in-Ok.ensures in
    tail_written w p.any later st (subst (λ (s : SinkView). Wrote s later (tail_text w.layout)) (sym c.requires)
    (subst (λ (l : Layout). Wrote (g.W.Sink.seen c.args.sink.now) later (tail_text l)) layout wrote))

pub returns-in-Open : goal.returns-in-Open
returns-in-Open g c =
    let w = c.args.self in let p = c.self.inside.progress in let fault = c.in-Err.fault in
    let later = g.W.Sink.seen c.write_all_of.new.sink in
    let st = stands_as w p.any p.standing standings.Open c.in-Open.is (subst (λ (v : WriterView). StandsAt v p.any p.standing) c.self.view_is c.self.invariant) in
    let layout : c.self.inside.layout ≡ w.layout = ap (λ (v : WriterView). v.layout) c.self.view_is in
    let broke = rw c.tail.ensures at c.in-Err.ensures in
    tail_broken w p.any later fault st (subst (λ (s : SinkView). Broke s later (tail_text w.layout) fault) (sym c.requires)
    (subst (λ (l : Layout). Broke (g.W.Sink.seen c.args.sink.now) later (tail_text l) fault) layout broke))

pub returns-in-Refused : goal.returns-in-Refused
returns-in-Refused g c =
    let w = c.args.self in let p = c.self.inside.progress in
    let st = stands_as w p.any p.standing standings.Refused c.in-Refused.is (subst (λ (v : WriterView). StandsAt v p.any p.standing) c.self.view_is c.self.invariant) in
    subst (λ (s : SinkView). EndsWith w.before s (whole_text w) (refusals w.items) end.Refused) c.requires (was_refused w p.any st)

pub returns : goal.returns
returns g c =
    let w = c.args.self in let p = c.self.inside.progress in let fault = c.in-Broken.fault in
    let st = stands_as w p.any p.standing (standings.Broken fault) c.in-Broken.is (subst (λ (v : WriterView). StandsAt v p.any p.standing) c.self.view_is c.self.invariant) in
    subst (λ (s : SinkView). EndsWith w.before s (whole_text w) (refusals w.items) (end.Write fault)) c.requires (was_broken w p.any fault st)
