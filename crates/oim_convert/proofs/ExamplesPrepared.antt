-- The preparation of a conversion on threads, and the count of faults of an answer, on worked
-- cases. A vector is given by its items and its capacity.
use Rattle.std.specs.Prelude.{◌≡◌, ℕ, List, [], ◌∷◌, Some, None, Ok, Err, All, length, vec_capacity, vec_len}
use Rattle.std.specs.Global.{Vec}
use Rattle.std.proofs.Common.{arith, sym, ◌∙◌, refl}
use Rattle.atomic_table.specs.Seated.{TableId}
use Rattle.oim_json.specs.declared.mark.WriteFault.TheVariants as write
use Rattle.oim_merge.specs.Merging.{IsFresh}
use Rattle.oim_ring.specs.Ends.{ClosedView, DrainView, Ring}
use Rattle.oim_ring.specs.declared.item.Ending.TheVariants.{Closed}
use Rattle.oim_ring.specs.declared.item.Item.{Item}
use Rattle.oim_ring.specs.declared.item.Item.TheVariants.{Ending}
use Rattle.oim_rows.specs.declared.fault.TableFault.{TableFault}
use Rattle.oim_crew.specs.Claims.{Claiming, Drawer, fresh}
use Rattle.oim_convert.specs.state.Tasks.{IsLane, IsOpened}
use Rattle.oim_convert.specs.Limits.{IsWorkerCount}
use Rattle.oim_convert.specs.state.Preparing.{HasRun, IsReturnRoom}
use Rattle.oim_convert.specs.Serial.{AreFew}
use Rattle.oim_crew.specs.Shifts.{ArePosts, IsCrew, IsStation}
use Rattle.oim_convert.specs.state.Working.{CanMerge}
use Rattle.oim_crew.specs.declared.crew.Crew.{Crew}
use Rattle.oim_crew.specs.declared.crew.Posts.{Posts}
use Rattle.oim_convert.specs.declared.fault.ConvertFault.TheVariants as fault
use Rattle.oim_convert.specs.declared.table_task.TableTask.{TableTask}
use Rattle.oim_convert.specs.declared.table_task.TaskResult.{TaskResult}
use Rattle.oim_convert.specs.declared.returning.ReturnRoom.{ReturnRoom}
use Rattle.oim_convert.specs.declared.scope.Unmerged.{Unmerged}
use Rattle.oim_crew.specs.declared.worker.Station.{Station}

-- Workers: 1 to 64.
least_and_most_workers : IsWorkerCount 1 × IsWorkerCount 64
least_and_most_workers = ((omega arith, omega arith), (omega arith, omega arith))

no_workers : IsWorkerCount 0 → ⊥
no_workers count = omega (arith, count.0)

too_many_workers : IsWorkerCount 65 → ⊥
too_many_workers count = omega (arith, count.1)

-- Faults of tables: at most `most`.
module _ (faults : Vec TableFault) where
  two_of_two : length faults.items ≡ 2 → AreFew 2 (Err (fault.Tables faults))
  two_of_two two = omega (arith, two)

  two_of_one : length faults.items ≡ 2 → AreFew 1 (Err (fault.Tables faults)) → ⊥
  two_of_one two few = omega (arith, two, few)

-- Every other answer has no fault of a table.
others_have_none : AreFew 0 (Ok tt) × AreFew 0 (Err (fault.Write write.Zero)) × AreFew 0 (Err fault.WrongReaders) × AreFew 0 (Err fault.Memory)
others_have_none = (omega arith, ([], omega arith), tt, tt)

-- Runs: the only fault of a conversion that ran is Lost.
ran_or_lost : HasRun (Err fault.Lost)
ran_or_lost = tt

no_memory_for_a_run : HasRun (Err fault.Memory) → ⊥
no_memory_for_a_run none = none

-- Room for the end, here of two tables and three workers.
module _ {R : Type 0} (room : ReturnRoom R) where
  room_for_two :
      room.closed_feeds.items ≡ None ∷ None ∷ [] → room.seats.items ≡ [] → vec_capacity room.seats ≡ 3 → room.settled.items ≡ [] → vec_capacity room.settled ≡ 2
      → IsReturnRoom 2 3 room
  room_for_two closed_feeds seats three settled two = record { closed_feeds = closed_feeds; seats = (seats, omega (arith, three)); settled = (settled, omega (arith, two)) }

  no_seat_for_the_fourth : vec_capacity room.seats ≡ 3 → IsReturnRoom 2 4 room → ⊥
  no_seat_for_the_fourth three r = omega (arith, three, r.seats.1)

  no_room_for_the_third : vec_capacity room.settled ≡ 2 → IsReturnRoom 3 3 room → ⊥
  no_room_for_the_third two r = omega (arith, two, r.settled.1)

  no_closed_for_the_second : room.closed_feeds.items ≡ None ∷ [] → IsReturnRoom 2 3 room → ⊥
  no_closed_for_the_second one r = let e : None ∷ [] ≡ None ∷ None ∷ [] = sym one ∙ r.closed_feeds in cc

  closed_in_use : (closed : ClosedView) → room.closed_feeds.items ≡ None ∷ Some closed ∷ [] → IsReturnRoom 2 3 room → ⊥
  closed_in_use closed used r = let e : None ∷ Some closed ∷ [] ≡ None ∷ None ∷ [] = sym used ∙ r.closed_feeds in cc

-- Tasks of two tables, and the drains of their rings.
abbrev task : {R : Type 0} → TableTask R → ℕ → Ring → List Item → TableTask R
task some table ring sent = record some { table = table; reader = None; feed = record { ring = ring; size = 4; sent = sent } }

abbrev drain : Ring → List Item → DrainView
drain ring taken = record { ring = ring; taken = taken }

module _ {R : Type 0} (some : TableTask R) (a b : Ring) where
  abbrev plan : List (TableTask R)
  plan = task some 0 a [] ∷ task some 1 b [] ∷ []

  opened : IsOpened 1 (task some 1 b [])
  opened = record { numbered = refl; fresh = refl }

  opened_for_another : IsOpened 0 (task some 1 b []) → ⊥
  opened_for_another it = let e = it.numbered in cc

  opened_and_used : IsOpened 1 (task some 1 b (Ending Closed ∷ [])) → ⊥
  opened_and_used it = let e = it.fresh in cc

  lane : IsLane plan 1 (drain b [])
  lane = record { task = task some 1 b []; planned = refl; ring = refl; fresh = refl }

  lane_of_no_table : IsLane plan 2 (drain b []) → ⊥
  lane_of_no_table it = let e = it.planned in cc

  lane_in_use : IsLane plan 1 (drain b (Ending Closed ∷ [])) → ⊥
  lane_in_use it = let e = it.fresh in cc

-- Stations of workers that share two items.
abbrev two_items : TableId → Claiming ℕ
two_items id = record { id = id; items = 5 ∷ 6 ∷ []; workers = 3 }

-- A seat that has drawn the first of them.
abbrev drawn : TableId → Drawer ℕ
drawn id = record (fresh (two_items id)) { numbers = 0 ∷ [] }

module _ (id : TableId) (station : Station ℕ TaskResult) where
  idle : station.seat ≡ fresh (two_items id) → station.done.items ≡ [] → vec_capacity station.done ≡ 2 → IsStation (two_items id) station
  idle seat done two = (seat, done, omega (arith, two))

  room_for_one : vec_capacity station.done ≡ 1 → IsStation (two_items id) station → ⊥
  room_for_one one it = omega (arith, one, it.2)

  has_drawn : station.seat ≡ drawn id → IsStation (two_items id) station → ⊥
  has_drawn seat it = let e : length (drawn id).numbers ≡ length (fresh (two_items id)).numbers = λ i. length ((sym seat ∙ it.0) i).numbers in omega (arith, e)

-- Crews: a station and a flag for each of three workers.
module _ {S T C : Type 0} (id : TableId) (posts : Posts ℕ TaskResult S T C) where
  three_posts :
      All (IsStation (two_items id)) posts.stations.items → vec_len posts.stations ≡ 3 → posts.room.started.items ≡ [] → posts.room.shifts.items ≡ []
      → vec_capacity posts.room.started ≡ 3 → vec_capacity posts.room.shifts ≡ 3 → ArePosts (two_items id) posts
  three_posts stations three started shifts room more = record {
    stations = stations;
    count = three;
    empty = (started, shifts);
    room = (omega (arith, three, room), omega (arith, three, more));
  }

  two_posts : vec_len posts.stations ≡ 2 → ArePosts (two_items id) posts → ⊥
  two_posts two it = omega (arith, two, it.count)

  no_room_to_start : vec_capacity posts.room.started ≡ 2 → ArePosts (two_items id) posts → ⊥
  no_room_to_start two it = omega (arith, two, it.count, it.room.0)

  no_room_for_shifts : vec_capacity posts.room.shifts ≡ 2 → ArePosts (two_items id) posts → ⊥
  no_room_for_shifts two it = omega (arith, two, it.count, it.room.1)

-- A crew with one flag too few.
two_flags : {S T C : Type 0} (crew : Crew ℕ TaskResult S T C) → crew.claims.workers ≡ 3 → length crew.stops.items ≡ 2 → IsCrew crew → ⊥
two_flags crew three two it = omega (arith, three, two, it.stops)

-- Merging: there is room for a fault of each drain, and nothing was taken from the drains.
module _ (ring : Ring) (unmerged : Unmerged) where
  can_merge : IsFresh unmerged.drains.items → unmerged.faults.items ≡ [] → length unmerged.drains.items ≡ 2 → vec_capacity unmerged.faults ≡ 2 → CanMerge unmerged
  can_merge taken none two room = (taken, none, omega (arith, two, room))

  room_for_one_fault : length unmerged.drains.items ≡ 2 → vec_capacity unmerged.faults ≡ 1 → CanMerge unmerged → ⊥
  room_for_one_fault two one it = omega (arith, two, one, it.2)
