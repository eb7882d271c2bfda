use Rattle.std.proofs.Common.{◌≡◌, ◌≤◌, ◌+◌, All, vec_capacity, vec_len}
use Rattle.std.specs.Vec.Iter.{into_iter_items, into_iter_len}
use Rattle.oim_crew.specs.Shifts.{IsShift, IsStarted, serving}
use Rattle.oim_crew.proofs.crew.join_crew.Given as goal

abbrev pub invariant-loop-handle : goal.invariant-loop-handle
invariant-loop-handle g l = record {
  left : All (IsStarted (serving l.served l.site) l.site.shared.now l.site.claims.now) (into_iter_items l.handle-iterator);
  done : All (IsShift (g.S.Serve.gives (serving l.served l.site) l.site.shared.now) l.site.claims.now) l.shifts.items;
  count : vec_len l.shifts + into_iter_len l.handle-iterator ≡ vec_len l.fn.under_way.room.started + vec_len l.fn.under_way.room.shifts;
  room : vec_len l.fn.under_way.room.started + vec_len l.fn.under_way.room.shifts ≤ vec_capacity l.shifts;
}
