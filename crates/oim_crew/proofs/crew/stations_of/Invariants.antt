use Rattle.std.proofs.Common.{◌≡◌, ◌≤◌, ◌+◌, All, vec_capacity, vec_len}
use Rattle.std.specs.Vec.Iter.{into_iter_items, into_iter_len}
use Rattle.oim_crew.specs.Claims.{fresh}
use Rattle.oim_crew.specs.Shifts.{IsStation}
use Rattle.oim_crew.proofs.crew.stations_of.Given as goal

abbrev pub invariant-loop-seat : goal.invariant-loop-seat
invariant-loop-seat g l = record {
  left : All (λ seat. seat ≡ fresh l.claims) (into_iter_items l.seat-iterator);
  ready : All (IsStation l.claims) l.made.items;
  count : vec_len l.made + into_iter_len l.seat-iterator ≡ vec_len l.fn.seats;
  room : vec_len l.fn.seats ≤ vec_capacity l.made;
}
