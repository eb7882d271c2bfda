-- What workers begin with, and what they hand back.
use Rattle.std.specs.Prelude.{◌≡◌, ◌≤◌, ◌+◌, ℕ, All, Bool, true, List, [], cond, slice_get, length, MatchBool, Some, vec_len, vec_capacity, false}
use Rattle.std.specs.List.{AllZip}
use Rattle.std.specs.declared.thread.PromisedHandle.{PromisedHandle}
use Rattle.oim_crew.specs.Claims.{Claiming, Drawer, fresh}
use Rattle.oim_crew.specs.declared.crew.Crew.{Crew}
use Rattle.oim_crew.specs.declared.crew.Posts.{Posts}
use Rattle.oim_crew.specs.declared.crew.UnderWay.{UnderWay}
use Rattle.oim_crew.specs.declared.site.Site.{Site}
use Rattle.oim_crew.specs.declared.worker.Shift.{Shift}
use Rattle.oim_crew.specs.declared.worker.Station.{Station}
use Rattle.oim_crew.specs.declared.worker.ShiftOf.{ShiftOf}

-- Each item can be served under the number of its place.
abbrev pub CanServeAll : {V : Type 0} → (ℕ → V → Type 0) → List V → Type 0
CanServeAll {V} can items = (number : ℕ) (item : V) → slice_get items number ≡ Some item → can number item

module _ {V O : Type 0} where
  -- A result for the item under this number.
  abbrev pub IsServed : (ℕ → V → O → Type 0) → List V → ℕ → O → Type 0
  IsServed gives items number out = (item : V) × (slice_get items number ≡ Some item) × gives number item out

  -- A seat that has drawn nothing, with room for a result for each item.
  abbrev pub IsIdle : Claiming V → Drawer V → List O → ℕ → Type 0
  IsIdle claims seat done room = (seat ≡ fresh claims) × (done ≡ []) × (length claims.items ≤ room)

  abbrev pub IsStation : Claiming V → Station V O → Type 0
  IsStation claims station = IsIdle claims station.seat station.done.items (vec_capacity station.done)

  -- A shift: a result for each item that the seat drew, in order. The seat has drawn until no item
  -- was left, or has drawn nothing at all.
  pub record IsShift (gives : ℕ → V → O → Type 0) (claims : Claiming V) (shift : Shift V O) : Type 0 where
    pub mine : shift.seat.claims ≡ claims
    pub served : AllZip (IsServed gives claims.items) shift.seat.numbers shift.done.items
    pub whole : MatchBool shift.stopped (IsIdle claims shift.seat shift.done.items (vec_capacity shift.done)) (shift.seat.finished ≡ true)

  -- A thread that has promised a shift of these claims and this server.
  abbrev pub IsStarted : {S T C : Type 0} → S → C → Claiming V → PromisedHandle (Shift V O) (ShiftOf V S T C) → Type 0
  IsStarted server shared claims handle = (handle.promise.server.value ≡ server) × (handle.promise.shared.value ≡ shared) × (handle.promise.claims.value ≡ claims)

  -- The started workers have promised shifts by this server, and the others have handed theirs
  -- back.
  abbrev pub IsUnderWay : {S T C : Type 0} → (S → C → ℕ → V → O → Type 0) → S → C → Claiming V → List (PromisedHandle (Shift V O) (ShiftOf V S T C)) → List (Shift V O) → Type 0
  IsUnderWay gives server shared claims started shifts = All (IsStarted server shared claims) started × All (IsShift (gives server shared) claims) shifts

  -- A station for each worker, room for all of them, and no worker started yet.
  pub record ArePosts {S T C : Type 0} (claims : Claiming V) (posts : Posts V O S T C) : Type 0 where
    pub stations : All (IsStation claims) posts.stations.items
    pub count : vec_len posts.stations ≡ claims.workers
    pub empty : (posts.room.started.items ≡ []) × (posts.room.shifts.items ≡ [])
    pub room : (vec_len posts.stations ≤ vec_capacity posts.room.started) × (vec_len posts.stations ≤ vec_capacity posts.room.shifts)

  -- Everything that the workers need, with a flag for each of them.
  pub record IsCrew {S T C : Type 0} (crew : Crew V O S T C) : Type 0 where
    pub posts : ArePosts crew.claims crew.posts
    pub stops : length crew.stops.items ≡ crew.claims.workers

-- The server in use: the server, or the spare one.
abbrev pub serving : {V S T C : Type 0} → Bool → Site V S T C → S
serving used site = cond used site.server.now site.spare.now

-- A worker for each seat, which was started or has handed its shift back, with room for the shifts
-- of all. If the spare server is in use, no worker was started.
pub record AreUnderWay {V O S T C : Type 0} (gives : S → C → ℕ → V → O → Type 0) (site : Site V S T C) (crew : UnderWay V O S T C) : Type 0 where
  pub workers : IsUnderWay gives (serving crew.served site) site.shared.now site.claims.now crew.room.started.items crew.room.shifts.items
  pub count : vec_len crew.room.started + vec_len crew.room.shifts ≡ site.claims.now.workers
  pub room : site.claims.now.workers ≤ vec_capacity crew.room.shifts
  pub spare : crew.served ≡ false → crew.room.started.items ≡ []
