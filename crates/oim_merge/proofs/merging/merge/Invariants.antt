use Rattle.std.specs.Prelude.{◌≡◌, ◌≤◌, ℕ, ◌<◌, length, vec_len, vec_capacity}
use Rattle.std.proofs.Common.{get_or}
use Rattle.oim_ring.specs.Items.{EndsOnce}
use Rattle.oim_ring.specs.Ends.{DrainView}
use Rattle.oim_merge.specs.Histories.{all_of, refusals}
use Rattle.oim_merge.specs.Merging.{rings_of, taken_of}
use Rattle.oim_merge.specs.Writers.{writing}
use Rattle.oim_merge.proofs.Drains.{FreshFrom}
use Rattle.oim_merge.proofs.merging.merge.Given as goal

abbrev pub invariant-loop-drain : goal.invariant-loop-drain
invariant-loop-drain g l = record {
  rings : rings_of l.drains ≡ rings_of l.fn.drains;
  fresh : FreshFrom l.drains l.drain-index;
  ended : (k : ℕ) (d : DrainView) → k < l.drain-index → EndsOnce (get_or l.drains k d).taken;
  writer : l.writer ≡ writing l.fn.layout l.head (all_of (taken_of l.drains)) (g.W.Sink.seen l.fn.sink)
      (g.W.Sink.seen l.sink);
  faults : l.faults.items ≡ refusals (all_of (taken_of l.drains));
  count : vec_len l.faults ≤ l.drain-index;
  room : length l.fn.drains ≤ vec_capacity l.faults;
}
