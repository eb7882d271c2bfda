use Rattle.std.proofs.Common.{◌≡◌, ◌≤◌, ◌-◌, length, vec_capacity}
use Rattle.std.specs.List.{AllZip}
use Rattle.oim_crew.specs.Shifts.{IsServed}
use Rattle.oim_crew.proofs.worker.work.Given as goal

abbrev pub invariant-loop-number : goal.invariant-loop-number
invariant-loop-number g l = record {
  mine : l.seat.claims ≡ l.claims;
  served : AllZip (IsServed (g.S.Serve.gives l.server l.shared) l.claims.items) l.seat.numbers l.done.items;
  count : length l.done.items ≡ length l.seat.numbers;
  room : length l.claims.items ≤ vec_capacity l.done;
}

abbrev pub decreases-loop-number : goal.decreases-loop-number
decreases-loop-number g l = length l.claims.items - length l.seat.numbers
