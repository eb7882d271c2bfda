-- The tasks that workers draw, one for each table, and their results.
use Rattle.std.specs.Prelude.{◌≡◌, ◌⊎◌, ◌<◌, ◌≤◌, ℕ, Bool, true, false, List, [], ◌∷◌, Option, Some, None, Any, flat_map, length, map, slice_get, slice_set, IfSome}
use Rattle.std.specs.List.{list_all}
use Rattle.oim_report.specs.ReportValue.{ReportValue}
use Rattle.oim_ring.specs.Ends.{ClosedView, DrainView}
use Rattle.oim_ring.specs.Items.{blocks_only}
use Rattle.oim_ring.specs.declared.item.Item.{Item}
use Rattle.oim_convert.specs.declared.table_task.TableTask.{TableTask}
use Rattle.oim_convert.specs.declared.table_task.TaskResult.{TaskResult}
use Rattle.oim_convert.specs.declared.server.Serving.{Serving}
use Rattle.oim_crew.specs.declared.worker.Shift.{Shift}
use Rattle.oim_convert.specs.Histories.{IsOfTable}
use Rattle.oim_convert.specs.Tasks.{Each, IsKept}

-- The closed feeds after the tokens of these results were put into their tables' places, in order.
abbrev pub placed : List TaskResult → List (Option ClosedView) → List (Option ClosedView)
placed [] closed_feeds = closed_feeds
placed (task_result ∷ task_results) closed_feeds = placed task_results (slice_set closed_feeds task_result.table task_result.closed)

module _ {R : Type 0} where
  -- The history of a table, which ends with one ending of that table.
  abbrev pub IsKeptOwn : (R → Option (List ℕ)) → ReportValue → ℕ → Bool → ℕ → Option R → List Item → Type 0
  IsKeptOwn told report limit served table reader history = IsOfTable table history × IsKept told report limit served table reader history

  -- All results of the workers, shift after shift.
  abbrev pub results_of : List (Shift (TableTask R) TaskResult) → List TaskResult
  results_of shifts = flat_map (λ (shift : Shift (TableTask R) TaskResult). shift.done.items) shifts

  -- The tables of these results.
  abbrev pub tables_promised : List (Shift (TableTask R) TaskResult) → List ℕ
  tables_promised shifts = map (λ (task_result : TaskResult). task_result.table) (results_of shifts)

  -- A task before it is served: it is for the table at its place, which the report has; the limit
  -- of rows fits the counter; and nothing was sent.
  abbrev pub CanServe : ReportValue → ℕ → ℕ → TableTask R → Type 0
  CanServe report limit table task = (task.table ≡ table) × (table < length report.tables) × (limit ≤ 4294967294) × (task.feed.sent ≡ [])

  -- The result for a task: it is for the task's table, and its token, unless that was lost, is of
  -- the task's ring and has the table's history.
  abbrev pub Gives : (R → Option (List ℕ)) → ReportValue → ℕ → Bool → ℕ → TableTask R → TaskResult → Type 0
  Gives told report limit served table task task_result =
      (task_result.table ≡ table) × IfSome task_result.closed (λ closed. (closed.ring ≡ task.feed.ring) × IsKeptOwn told report limit served table task.reader closed.sent)

  -- A new task for this table.
  pub record IsOpened (table : ℕ) (task : TableTask R) : Type 0 where
    pub numbered : task.table ≡ table
    pub fresh : task.feed.sent ≡ []

  -- A drain of the ring of this table of the plan, from which nothing was taken.
  pub record IsLane (plan : List (TableTask R)) (table : ℕ) (drain : DrainView) : Type 0 where
    pub task : TableTask R
    pub planned : slice_get plan table ≡ Some task
    pub ring : drain.ring ≡ task.feed.ring
    pub fresh : drain.taken ≡ []

  -- A drain of the ring of this table of the plan, taken to its ending.
  pub record IsEnded (plan : List (TableTask R)) (table : ℕ) (drain : DrainView) : Type 0 where
    pub task : TableTask R
    pub planned : slice_get plan table ≡ Some task
    pub ring : drain.ring ≡ task.feed.ring
    pub ended : blocks_only drain.taken ≡ false

  -- A result for a table of the plan.
  pub record Fulfills (told : R → Option (List ℕ)) (report : ReportValue) (limit : ℕ) (served : Bool) (plan : List (TableTask R)) (task_result : TaskResult) : Type 0 where
    pub task : TableTask R
    pub planned : slice_get plan task_result.table ≡ Some task
    pub kept : IfSome task_result.closed (λ closed. (closed.ring ≡ task.feed.ring) × IsKeptOwn told report limit served task_result.table task.reader closed.sent)

  -- The token has everything that was sent into the ring of this table of the plan.
  pub record IsSentOf (told : R → Option (List ℕ)) (report : ReportValue) (limit : ℕ) (served : Bool) (plan : List (TableTask R)) (table : ℕ) (closed : ClosedView) : Type 0 where
    pub task : TableTask R
    pub planned : slice_get plan table ≡ Some task
    pub ring : closed.ring ≡ task.feed.ring
    pub kept : IsKeptOwn told report limit served table task.reader closed.sent

  -- Each token is in its table's place.
  abbrev pub EachClosedFeed : (R → Option (List ℕ)) → ReportValue → ℕ → Bool → List (TableTask R) → List (Option ClosedView) → Type 0
  EachClosedFeed told report limit served plan closed_feeds = (table : ℕ) (closed : ClosedView) → slice_get closed_feeds table ≡ Some (Some closed) → IsSentOf told report limit served plan table closed

  -- The history of this table of the plan.
  pub record IsTable (told : R → Option (List ℕ)) (report : ReportValue) (limit : ℕ) (served : Bool) (plan : List (TableTask R)) (table : ℕ) (history : List Item) : Type 0 where
    pub task : TableTask R
    pub planned : slice_get plan table ≡ Some task
    pub kept : IsKeptOwn told report limit served table task.reader history

  -- The histories of all tables of the plan, in their order.
  abbrev pub AreTables : (R → Option (List ℕ)) → ReportValue → ℕ → Bool → List (TableTask R) → List (List Item) → Type 0
  AreTables told report limit served plan histories = Each (IsTable told report limit served plan) 0 histories

  -- No worker drew a table, or the token of one was lost.
  abbrev pub IsLostIn : List (Shift (TableTask R) TaskResult) → Type 0
  IsLostIn shifts = (list_all (λ (shift : Shift (TableTask R) TaskResult). shift.stopped) shifts ≡ true) ⊎ Any (λ (task_result : TaskResult). task_result.closed ≡ None) (results_of shifts)

  -- The result of a server for a table of a report.
  abbrev pub gives_of : (R → Option (List ℕ)) → Serving → ReportValue → ℕ → TableTask R → TaskResult → Type 0
  gives_of told server report = Gives told report server.limits.rows server.threaded
