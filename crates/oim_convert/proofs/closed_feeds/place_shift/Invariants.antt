use Rattle.std.specs.Prelude.{◌≡◌, All}
use Rattle.std.specs.Vec.Iter.{into_iter_items}
use Rattle.oim_convert.specs.state.Tasks.{EachClosedFeed, Fulfills, placed}
use Rattle.oim_convert.proofs.closed_feeds.place_shift.Given as goal

abbrev pub invariant-loop-task_result : goal.invariant-loop-task_result
invariant-loop-task_result g l = record {
  left : All (Fulfills g.R.Read.remaining l.terms.report.now l.terms.limits.rows l.terms.served l.terms.claims.now.items) (into_iter_items l.task_result-iterator);
  closed_feeds : EachClosedFeed g.R.Read.remaining l.terms.report.now l.terms.limits.rows l.terms.served l.terms.claims.now.items l.closed_feeds;
  placed : placed (into_iter_items l.task_result-iterator) l.closed_feeds ≡ placed l.fn.shift.done.items l.fn.closed_feeds;
}
