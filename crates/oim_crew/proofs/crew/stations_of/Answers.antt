use Rattle.std.proofs.Common.{◌≡◌, arith}
use Rattle.oim_crew.specs.Claims.{Drawer, fresh}
use Rattle.oim_crew.specs.Shifts.{IsStation}
use Rattle.oim_crew.proofs.LongerLists.{all-first, all-more}
use Rattle.oim_crew.proofs.crew.stations_of.Goals as goal

pub loop-seat-preserved : goal.loop-seat-preserved
loop-seat-preserved g c =
    let now = c.args.claims.now in let old = c.loop-seat.invariant in
    let step = c.in-Some.ensures.steps in
    let next = all-first (λ (seat : Drawer g.row.V.Denot). seat ≡ fresh now) _ _ _ step.0 old.left in
    let pushed = c.push_reserved.ensures in
    record {
      left = next.1;
      ready = all-more (IsStation now) _ _ _ pushed.items old.ready (next.0, c.in_ok-done.ensures.items, omega (arith, c.in_ok-done.ensures.capacity, c.requires.items));
      count = omega (arith, step.1, pushed.len, old.count);
      room = omega (arith, pushed.capacity, old.room);
    }
