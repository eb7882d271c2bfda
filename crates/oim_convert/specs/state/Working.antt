-- The results of the workers of a conversion and of its merge.
use Rattle.std.specs.Prelude.{◌≡◌, ◌≤◌, ℕ, All, Option, List, [], false, length, vec_capacity, vec_len}
use Rattle.oim_json.specs.Sinks.{SinkView}
use Rattle.oim_merge.specs.Merging.{EndEach, IsFresh, Merges, rings_of, taken_of}
use Rattle.oim_report.specs.declared.report.Report.{Report}
use Rattle.oim_convert.specs.state.Tasks.{CanServe, gives_of}
use Rattle.oim_crew.specs.Shifts.{ArePosts, CanServeAll, IsShift, serving}
use Rattle.oim_crew.specs.declared.crew.Posts.{Posts}
use Rattle.oim_crew.specs.declared.site.Site.{Site}
use Rattle.oim_convert.specs.declared.table_task.TableTask.{TableTask}
use Rattle.oim_convert.specs.declared.table_task.TaskResult.{TaskResult}
use Rattle.oim_convert.specs.declared.server.Serving.{Serving}
use Rattle.oim_convert.specs.declared.scope.Merged.{Merged}
use Rattle.oim_convert.specs.declared.scope.Unmerged.{Unmerged}
use Rattle.oim_convert.specs.declared.scope.Worked.{Worked}

-- Nothing was taken from the drains, there is no fault yet, and there is room for one of each
-- drain.
abbrev pub CanMerge : Unmerged → Type 0
CanMerge unmerged = IsFresh unmerged.drains.items × (unmerged.faults.items ≡ []) × (length unmerged.drains.items ≤ vec_capacity unmerged.faults)

-- The drains were taken to their endings, and the text written after the head is that of the items
-- taken.
pub record IsMerged (unmerged : Unmerged) (old new : SinkView) (merged : Merged) : Type 0 where
  pub rings : rings_of merged.drains.items ≡ rings_of unmerged.drains.items
  pub ended : EndEach (taken_of merged.drains.items)
  pub written : Merges unmerged.layout old new unmerged.head.items (taken_of merged.drains.items) merged.faults.items merged.end

-- The needs of workers and a merge: tables that both servers can serve, a station and a flag for
-- each worker, and drains.
pub record CanWork {R S T U C X : Type 0} (site : Site (TableTask R) Serving U Report) (posts : Posts (TableTask R) TaskResult S T C) (stops : List X) (unmerged : Unmerged) : Type 0 where
  pub items : CanServeAll (CanServe site.shared.now site.server.now.limits.rows) site.claims.now.items
  pub spare : CanServeAll (CanServe site.shared.now site.spare.now.limits.rows) site.claims.now.items
  pub ready : ArePosts site.claims.now posts
  pub flags : length stops ≡ site.claims.now.workers
  pub fresh : CanMerge unmerged

-- The shift of each worker, by the server in use, which is the spare one if no worker was to be
-- started; and the result of the merge.
pub record HasWorked {R U : Type 0} (told : R → Option (List ℕ)) (site : Site (TableTask R) Serving U Report) (starts : ℕ) (unmerged : Unmerged)
    (old new : SinkView) (worked : Worked R) : Type 0 where
  pub shifts : All (IsShift (gives_of told (serving worked.shifts.served site) site.shared.now) site.claims.now) worked.shifts.list.items
  pub count : vec_len worked.shifts.list ≡ site.claims.now.workers
  pub alone : starts ≡ 0 → worked.shifts.served ≡ false
  pub merged : IsMerged unmerged old new worked.merged
