-- The memory that a conversion on threads takes before it begins, and its result.
use Rattle.std.specs.Prelude.{◌≡◌, ◌≤◌, ⊤, ℕ, Bool, false, List, [], Option, None, Result, Ok, Err, length, replicate, vec_capacity}
use Rattle.oim_report.specs.ReportValue.{ReportValue}
use Rattle.oim_ring.specs.declared.item.Item.{Item}
use Rattle.oim_convert.specs.Tasks.{Each}
use Rattle.oim_convert.specs.state.Tasks.{AreTables, IsLane, IsOpened}
use Rattle.oim_crew.specs.Shifts.{IsCrew}
use Rattle.oim_convert.specs.declared.returning.ReturnRoom.{ReturnRoom}
use Rattle.oim_convert.specs.declared.fault.ConvertFault.{ConvertFault}
use Rattle.oim_convert.specs.declared.fault.ConvertFault.TheVariants as fault
use Rattle.oim_convert.specs.declared.table_task.TableTask.{TableTask}
use Rattle.oim_convert.specs.declared.run.Run.{Run}
use Rattle.oim_convert.specs.declared.threaded.Ready.{Ready}

-- Room for the tokens of the tables, for the workers' seats, and for the settled drains.
pub record IsReturnRoom {R : Type 0} (tables workers : ℕ) (room : ReturnRoom R) : Type 0 where
  pub closed_feeds : room.closed_feeds.items ≡ replicate tables None
  pub seats : (room.seats.items ≡ []) × (workers ≤ vec_capacity room.seats)
  pub settled : (room.settled.items ≡ []) × (tables ≤ vec_capacity room.settled)

-- A crew over the tasks of all tables, a drain for each with room for its fault, and room for the
-- tokens and seats at the end.
pub record IsReady {R T : Type 0} (ready : Ready R T) : Type 0 where
  pub crew : IsCrew ready.crew
  pub tasks : Each IsOpened 0 ready.crew.claims.items
  pub drains : Each (IsLane ready.crew.claims.items) 0 ready.unmerged.drains.items
  pub count : length ready.unmerged.drains.items ≡ length ready.crew.claims.items
  pub faults : (ready.unmerged.faults.items ≡ []) × (length ready.unmerged.drains.items ≤ vec_capacity ready.unmerged.faults)
  pub room : IsReturnRoom (length ready.crew.claims.items) ready.crew.claims.workers ready.room

-- The histories of all tables of the plan. Workers served all of them or none, and none if no
-- worker was to be started.
abbrev pub HasTables : {R : Type 0} → (R → Option (List ℕ)) → ReportValue → ℕ → ℕ → List (TableTask R) → List (List Item) → Type 0
HasTables told report limit starts plan hs = (served : Bool) × (starts ≡ 0 → served ≡ false) × AreTables told report limit served plan hs

-- A conversion that ran returns its run, unless a token was lost.
abbrev pub HasRun : Result Run ConvertFault → Type 0
HasRun (Ok run) = ⊤
HasRun (Err fault.Lost) = ⊤
HasRun result = ⊥
