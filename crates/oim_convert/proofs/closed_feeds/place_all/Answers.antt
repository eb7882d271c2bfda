use Rattle.std.specs.Prelude.{◌≡◌, [], ◌++◌, map}
use Rattle.std.specs.Vec.Iter.{into_iter_items}
use Rattle.std.proofs.Common.{arith, ap, sym, ◌∙◌, append-nil}
use Rattle.oim_convert.specs.state.Tasks.{Gives, placed, results_of}
use Rattle.oim_crew.specs.Shifts.{IsShift}
use Rattle.oim_convert.proofs.ResultCover.{placed_append}
use Rattle.oim_convert.proofs.ClosedFeeds.{map_one}
use Rattle.oim_convert.proofs.TableFiles.{nothing_left}
use Rattle.oim_crew.proofs.LongerLists.{all-first}
use Rattle.oim_convert.proofs.closed_feeds.place_all.Goals as goal

pub loop-shift-preserved : goal.loop-shift-preserved
loop-shift-preserved g c =
    let gives = Gives g.R.Read.remaining c.args.terms.now.report.now c.args.terms.now.limits.rows c.args.terms.now.served in
    let old = c.loop-shift.invariant in
    let step = c.in-Some.ensures.steps in
    let rest = into_iter_items c.next.new.self in
    let shift = c.in-Some.shift in
    let before = c.loop-shift.closed_feeds in
    let pushed = c.push_reserved.ensures in
    record {
      left = (all-first (IsShift gives c.args.terms.now.claims.now) _ _ _ step.0 old.left).1;
      closed_feeds = c.place_shift.ensures.closed_feeds;
      placed =
          ap (λ l. placed (results_of rest) l) c.place_shift.ensures.placed
          ∙ (sym (placed_append shift.done.items (results_of rest) before) ∙ (sym (ap (λ l. placed (results_of l) before) step.0) ∙ old.placed));
      seats =
          ap (λ l. l ++ map (λ s. s.seat) rest) pushed.items
          ∙ (sym (map_one (λ s. s.seat) c.loop-shift.seats.items shift rest (into_iter_items c.loop-shift.shift-iterator) c.place_shift.result step.0 c.place_shift.ensures.seat) ∙ old.seats);
      count = omega (arith, step.1, pushed.len, old.count);
      room = omega (arith, pushed.capacity, old.room);
    }

pub returns-clause-placed : goal.returns-clause-placed
returns-clause-placed g c =
    let left = into_iter_items c.loop-shift.shift-iterator in
    let over : left ≡ [] = nothing_left left (sym c.loop-shift.shift-iterator.rest.ok.0 ∙ c.in-None.ensures.steps.0) in
    sym (ap (λ l. placed (results_of l) c.loop-shift.closed_feeds) over) ∙ c.loop-shift.invariant.placed

pub returns-clause-seats : goal.returns-clause-seats
returns-clause-seats g c =
    let left = into_iter_items c.loop-shift.shift-iterator in
    let over : left ≡ [] = nothing_left left (sym c.loop-shift.shift-iterator.rest.ok.0 ∙ c.in-None.ensures.steps.0) in
    let seats = c.loop-shift.seats.items in
    sym (append-nil seats) ∙ (sym (ap (λ l. seats ++ map (λ s. s.seat) l) over) ∙ c.loop-shift.invariant.seats)
