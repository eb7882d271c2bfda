use Rattle.std.specs.Prelude.{◌≡◌, ◌++◌, All, length, map}
use Rattle.std.specs.Vec.Iter.{into_iter_items}
use Rattle.oim_convert.specs.Tasks.{Each}
use Rattle.oim_convert.specs.state.Tasks.{IsLane, IsOpened}
use Rattle.oim_convert.proofs.lanes.open_lanes.Given as goal

abbrev pub invariant-loop-reader : goal.invariant-loop-reader
invariant-loop-reader g l = record {
  readers : map (λ task. task.reader) l.tasks.items ++ into_iter_items l.reader-iterator ≡ l.fn.readers.items;
  opened : Each IsOpened 0 l.tasks.items;
  lanes : Each (IsLane l.tasks.items) 0 l.drains.items;
  count : length l.drains.items ≡ length l.tasks.items;
  sizes : All (λ task. task.feed.size ≡ l.fn.size) l.tasks.items;
}
