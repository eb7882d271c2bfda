use Rattle.std.specs.Prelude.{◌≤◌, ◌∷◌, [], Bool, true, length}
use Rattle.std.proofs.Common.{arith, sym, subst}
use Rattle.std.proofs.lemmas.Bool.{lt-ltb}
use Rattle.oim_json.specs.Document.{more_members}
use Rattle.oim_json.specs.Sinks.{Broke, SinkView, Wrote}
use Rattle.oim_json.specs.declared.layout.Layout.{Layout}
use Rattle.oim_merge.specs.state.Steps.{StandsAt}
use Rattle.oim_merge.specs.Writers.{given}
use Rattle.oim_merge.specs.declared.progress.Standing.TheVariants as standings
use Rattle.oim_ring.specs.declared.item.Item.TheVariants as items
use Rattle.oim_merge.proofs.Writing.{block_broken, block_written, left_as, over_stays, stands_as}
use Rattle.oim_merge.proofs.writer.write_block.Goals as goal

pub returns-in-Ok : goal.returns-in-Ok
returns-in-Ok g c = λ w same left st.
    let p = c.args.progress.now in let fs = c.args.block.now in
    let later = g.W.Sink.seen c.write_members.new.sink in
    let some : 1 ≤ length fs = omega (arith, c.count-any.ensures.count, c.count-any.ensures.some) in
    let begun = stands_as w p.any p.standing standings.Open c.in-Open.is st in
    let wrote = subst (λ (l : Layout). Wrote w.sink later (more_members l p.any fs)) (sym same) (subst (λ (s : SinkView). Wrote s later (more_members c.args.layout p.any fs)) (sym left) c.in-Ok.ensures) in
    subst (λ (any : Bool). StandsAt (given w (items.Block fs ∷ []) later) any p.standing) (sym (lt-ltb 0 c.count-any.result c.count-any.ensures.some))
    (stands_as (given w (items.Block fs ∷ []) later) true standings.Open p.standing (sym c.in-Open.is) (block_written w p.any fs later begun some wrote))

pub returns-in-Err : goal.returns-in-Err
returns-in-Err g c = λ w same left st.
    let p = c.args.progress.now in let fs = c.args.block.now in let fault = c.in-Err.fault in
    let later = g.W.Sink.seen c.write_members.new.sink in
    let broke = subst (λ (l : Layout). Broke w.sink later (more_members l p.any fs) fault) (sym same)
    (subst (λ (s : SinkView). Broke s later (more_members c.args.layout p.any fs) fault) (sym left) c.in-Err.ensures) in
    block_broken w p.any fs later (stands_as w p.any p.standing standings.Open c.in-Open.is st) fault broke

pub returns-in-Refused : goal.returns-in-Refused
returns-in-Refused g c = λ w same left st.
    let p = c.args.progress.now in
    left_as w (items.Block c.args.block.now ∷ []) p.any p.standing _ left (over_stays w p.any p.standing (items.Block c.args.block.now ∷ []) (rw c.in-Refused.is tt) st)

pub returns-in-Broken : goal.returns-in-Broken
returns-in-Broken g c = λ w same left st.
    let p = c.args.progress.now in
    left_as w (items.Block c.args.block.now ∷ []) p.any p.standing _ left (over_stays w p.any p.standing (items.Block c.args.block.now ∷ []) (rw c.in-Broken.is tt) st)
