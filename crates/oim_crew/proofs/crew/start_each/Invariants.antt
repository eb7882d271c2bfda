use Rattle.std.proofs.Common.{◌≡◌, ◌≤◌, ◌+◌, All, length, vec_capacity, vec_len}
use Rattle.std.specs.Vec.Iter.{into_iter_items, into_iter_len}
use Rattle.oim_crew.specs.Shifts.{IsShift, IsStarted, IsStation}
use Rattle.oim_crew.specs.state.Shifts.{IsAlone}
use Rattle.oim_crew.proofs.crew.start_each.Given as goal

abbrev pub invariant-loop-station : goal.invariant-loop-station
invariant-loop-station g l = record {
  left : All (IsStation l.site.claims.now) (into_iter_items l.station-iterator);
  started : All (IsStarted l.site.server.now l.site.shared.now l.site.claims.now) l.room.started.items;
  refused : All (IsShift (g.S.Serve.gives l.site.server.now l.site.shared.now) l.site.claims.now) l.room.shifts.items;
  count : vec_len l.room.started + vec_len l.room.shifts ≡ l.place;
  all : l.place + into_iter_len l.station-iterator ≡ length l.stops;
  alone : l.starts ≡ 0 → IsAlone l.room.started.items l.room.shifts.items;
  room : (length l.stops ≤ vec_capacity l.room.started) × (length l.stops ≤ vec_capacity l.room.shifts);
}
