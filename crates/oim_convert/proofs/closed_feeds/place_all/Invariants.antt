use Rattle.std.specs.Prelude.{◌≡◌, ◌≤◌, ◌+◌, ◌++◌, All, map, vec_capacity, vec_len}
use Rattle.std.specs.Vec.Iter.{into_iter_items, into_iter_len}
use Rattle.oim_convert.specs.state.Tasks.{EachClosedFeed, Gives, placed, results_of}
use Rattle.oim_crew.specs.Shifts.{IsShift}
use Rattle.oim_convert.proofs.closed_feeds.place_all.Given as goal

abbrev pub invariant-loop-shift : goal.invariant-loop-shift
invariant-loop-shift g l = record {
  left : All (IsShift (Gives g.R.Read.remaining l.terms.report.now l.terms.limits.rows l.terms.served) l.terms.claims.now) (into_iter_items l.shift-iterator);
  closed_feeds : EachClosedFeed g.R.Read.remaining l.terms.report.now l.terms.limits.rows l.terms.served l.terms.claims.now.items l.closed_feeds;
  placed : placed (results_of (into_iter_items l.shift-iterator)) l.closed_feeds ≡ placed (results_of l.fn.shifts.items) l.fn.closed_feeds;
  seats : l.seats.items ++ map (λ shift. shift.seat) (into_iter_items l.shift-iterator) ≡ map (λ shift. shift.seat) l.fn.shifts.items;
  count : vec_len l.seats + into_iter_len l.shift-iterator ≡ vec_len l.fn.shifts;
  room : vec_len l.fn.shifts ≤ vec_capacity l.seats;
}
