use Rattle.std.specs.Prelude.{◌≡◌, ℕ, ◌+◌, List, [], ◌∷◌, ◌++◌, length, slice_get, Some, map}
use Rattle.std.proofs.Common.{arith, refl, ap, sym, ◌∙◌, subst, length-append}
use Rattle.std.specs.Vec.Iter.{into_iter_items}
use Rattle.oim_ring.specs.Ends.{DrainView}
use Rattle.oim_convert.specs.Tasks.{Each}
use Rattle.oim_convert.specs.state.Tasks.{IsLane, IsOpened}
use Rattle.oim_convert.specs.declared.table_task.TableTask.{TableTask}
use Rattle.oim_crew.proofs.LongerLists.{all-more}
use Rattle.oim_convert.proofs.ClosedFeeds.{each_more}
use Rattle.oim_convert.proofs.OpeningLanes.{get_last, lanes_more, readers_more}
use Rattle.oim_convert.proofs.lanes.open_lanes.Goals as goal

pub loop-reader-preserved : goal.loop-reader-preserved
loop-reader-preserved g c =
    let r = c.loop-reader.invariant in
    let tasks = c.loop-reader.tasks.items in let drains = c.loop-reader.drains.items in
    let task : TableTask g.row.R.Denot = record { table = c.len-table.result; reader = c.in-Some.reader; feed = c.in_ok-feed.feed; at_work = c.in_ok-shared.shared } in
    let drain : DrainView = c.in_ok-feed.drain in
    let pushed : c.push.new.self.items ≡ tasks ++ task ∷ [] = c.in_ok-push.ensures.items in
    let drained : c.push-in-loop-reader.new.self.items ≡ drains ++ drain ∷ [] = c.in_ok-push-2.ensures.items in
    let numbered : c.len-table.result ≡ 0 + length tasks = omega (arith, c.len-table.ensures, c.loop-reader.tasks.ok.0) in
    let opened : IsOpened (0 + length tasks) task = record { numbered = numbered; fresh = c.in_ok-feed.ensures.feed.1 } in
    let same : length tasks ≡ 0 + length drains = omega (arith, r.count) in
    let here : IsLane (tasks ++ task ∷ []) (0 + length drains) drain =
    record { task = task; planned = subst (λ (n : ℕ). slice_get (tasks ++ task ∷ []) n ≡ Some task) same (get_last tasks task); ring = c.in_ok-feed.ensures.one_ring; fresh = c.in_ok-feed.ensures.drain } in
    record {
      readers = ap (λ l. map (λ j. j.reader) l ++ into_iter_items c.next.new.self) pushed
          ∙ (readers_more (λ j. j.reader) tasks task c.in-Some.reader (into_iter_items c.next.new.self) (into_iter_items c.loop-reader.reader-iterator)
          c.in-Some.ensures.steps.0 refl ∙ r.readers);
      opened = subst (λ (l : List (TableTask g.row.R.Denot)). Each IsOpened 0 l) (sym pushed) (each_more IsOpened 0 tasks task r.opened opened);
      lanes = subst (λ (p : List (TableTask g.row.R.Denot)). Each (IsLane p) 0 c.push-in-loop-reader.new.self.items) (sym pushed)
          (subst (λ (l : List DrainView). Each (IsLane (tasks ++ task ∷ [])) 0 l) (sym drained)
          (each_more (IsLane (tasks ++ task ∷ [])) 0 drains drain (lanes_more tasks task 0 drains r.lanes) here));
      count = omega (arith, ap length pushed, ap length drained, length-append tasks (task ∷ []), length-append drains (drain ∷ []), r.count);
      sizes = all-more (λ (j : TableTask g.row.R.Denot). j.feed.size ≡ c.args.size) _ _ _ pushed r.sizes c.in_ok-feed.ensures.feed.0;
    }
