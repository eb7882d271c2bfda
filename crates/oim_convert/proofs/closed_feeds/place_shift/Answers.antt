use Rattle.std.specs.Prelude.{All, [], ◌≡◌}
use Rattle.std.specs.Vec.Iter.{into_iter_items}
use Rattle.std.proofs.Common.{ap, subst, sym, ◌∙◌}
use Rattle.oim_convert.specs.state.Tasks.{Fulfills, placed}
use Rattle.oim_convert.proofs.ResultsAndDrains.{results_fulfill}
use Rattle.oim_convert.proofs.TableFiles.{nothing_left}
use Rattle.oim_crew.proofs.LongerLists.{all-first}
use Rattle.oim_convert.proofs.closed_feeds.place_shift.Goals as goal

pub loop-task_result-init : goal.loop-task_result-init
loop-task_result-init g c =
    let told = g.R.Read.remaining in let report = c.args.terms.now.report.now in let limit = c.args.terms.now.limits.rows in let served = c.args.terms.now.served in let plan = c.args.terms.now.claims.now.items in
    let all : into_iter_items c.into_iter-task_result-iterator.result ≡ c.args.shift.done.items = c.into_iter-task_result-iterator.ensures.into_iter_gives.0 in record {
      left = subst (λ l. All (Fulfills told report limit served plan) l) (sym all)
          (results_fulfill told report limit served plan c.args.shift.seat.numbers c.args.shift.done.items c.requires.shift.served);
      closed_feeds = c.requires.closed_feeds;
      placed = ap (λ l. placed l c.args.closed_feeds.now) all;
    }

pub loop-task_result-preserved : goal.loop-task_result-preserved
loop-task_result-preserved g c =
    let told = g.R.Read.remaining in let report = c.args.terms.now.report.now in let limit = c.args.terms.now.limits.rows in let served = c.args.terms.now.served in let plan = c.args.terms.now.claims.now.items in
    let old = c.loop-task_result.invariant in
    let step = c.in-Some.ensures.steps in
    let rest = into_iter_items c.next.new.self in
    record {
      left = (all-first (Fulfills told report limit served plan) _ _ _ step.0 old.left).1;
      closed_feeds = c.place.ensures.closed_feeds;
      placed = ap (λ l. placed rest l) c.place.ensures.placed ∙ (sym (ap (λ l. placed l c.loop-task_result.closed_feeds) step.0) ∙ old.placed);
    }

pub returns-clause-placed : goal.returns-clause-placed
returns-clause-placed g c =
    let left = into_iter_items c.loop-task_result.task_result-iterator in
    let over : left ≡ [] = nothing_left left (sym c.loop-task_result.task_result-iterator.rest.ok.0 ∙ c.in-None.ensures.steps.0) in
    sym (ap (λ l. placed l c.loop-task_result.closed_feeds) over) ∙ c.loop-task_result.invariant.placed
