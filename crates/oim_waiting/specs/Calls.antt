-- Feeds that wait for space, in the order in which they are called, and the threads that call one
-- if there is space: after each block that is put or taken, and when a feed that was let go cannot
-- put its block.
use Rattle.std.specs.Prelude.{◌≡◌, ◌<◌, ◌+◌, ◌-◌, ◌||◌, ℕ, zero, suc, not, Bool, true, false, List, [], ◌∷◌, if◌then◌else◌, nat_lt, replicate}

-- How far a feed is. Idle does not wait, Counted has announced that it may sleep, Held has looked
-- and found no space, Again was woken and will look again, and Goes has found space and will put.
pub data Phase : Type 0 where
  Idle : Phase
  Counted : Phase
  Held : Phase
  Asleep : Phase
  Again : Phase
  Goes : Phase

pub record Feed : Type 0 where
  pub phase : Phase
  pub woken : Bool  -- whether it was called since it was counted

pub record Backlog : Type 0 where
  pub waiting : ℕ
  pub most : ℕ  -- there is space while fewer facts wait
  pub owed : ℕ  -- how many threads are about to call
  pub feeds : List Feed

-- What happens to the feed with this number, or to the facts that wait.
pub data Event : Type 0 where
  Announces : (feed : ℕ) → Event
  Looks : (feed : ℕ) → Event
  Sleeps : (feed : ℕ) → Event
  Rises : (feed : ℕ) → Event
  Puts : (feed facts : ℕ) → Event
  GivesUp : (feed : ℕ) → Event  -- its ring has no room
  Takes : (facts : ℕ) → Event
  Calls : Event

abbrev pub idle : Feed
idle = record { phase = Idle; woken = false }

abbrev pub start : ℕ → ℕ → Backlog
start most count = record { waiting = 0; most = most; owed = 0; feeds = replicate count idle }

abbrev pub announced : Feed → Phase → Feed
announced f Idle = record { phase = Counted; woken = false }
announced f Counted = f
announced f Held = f
announced f Asleep = f
announced f Again = f
announced f Goes = f

abbrev pub looked : Bool → Feed → Phase → Feed
looked is_space f Idle = f
looked is_space f Counted = record { phase = if is_space then Goes else Held; woken = f.woken }
looked is_space f Held = f
looked is_space f Asleep = f
looked is_space f Again = record { phase = if is_space then Goes else Idle; woken = f.woken }
looked is_space f Goes = f

abbrev pub slept : Feed → Phase → Feed
slept f Idle = f
slept f Counted = f
slept f Held = record { phase = Asleep; woken = f.woken }
slept f Asleep = f
slept f Again = f
slept f Goes = f

abbrev pub risen : Feed → Phase → Feed
risen f Idle = f
risen f Counted = f
risen f Held = f
risen f Asleep = if f.woken then record { phase = Again; woken = f.woken } else f
risen f Again = f
risen f Goes = f

abbrev pub gone : Feed → Phase → Feed
gone f Idle = f
gone f Counted = f
gone f Held = f
gone f Asleep = f
gone f Again = f
gone f Goes = idle

-- A feed that may be called: it is counted, and was not called since.
abbrev pub may_be_called : Feed → Phase → Bool
may_be_called f Idle = false
may_be_called f Counted = not f.woken
may_be_called f Held = not f.woken
may_be_called f Asleep = not f.woken
may_be_called f Again = false
may_be_called f Goes = false

-- The first feed that may be called is woken.
abbrev pub call : List Feed → List Feed
call [] = []
call (f ∷ fs) = if may_be_called f f.phase then record { phase = f.phase; woken = true } ∷ fs else f ∷ call fs

-- The feed with this number is changed, if it exists.
abbrev pub change : (Feed → Feed) → ℕ → List Feed → List Feed
change to k [] = []
change to zero (f ∷ fs) = to f ∷ fs
change to (suc k) (f ∷ fs) = f ∷ change to k fs

abbrev pub with_feed : Backlog → ℕ → (Feed → Feed) → Backlog
with_feed b k to = record { waiting = b.waiting; most = b.most; owed = b.owed; feeds = change to k b.feeds }

abbrev pub called : Backlog → ℕ → Backlog
called b zero = b
called b (suc others) = record { waiting = b.waiting; most = b.most; owed = others; feeds = if nat_lt b.waiting b.most then call b.feeds else b.feeds }

abbrev pub happens : Backlog → Event → Backlog
happens b (Announces k) = with_feed b k (λ f. announced f f.phase)
happens b (Looks k) = with_feed b k (λ f. looked (nat_lt b.waiting b.most) f f.phase)
happens b (Sleeps k) = with_feed b k (λ f. slept f f.phase)
happens b (Rises k) = with_feed b k (λ f. risen f f.phase)
happens b (Puts k facts) = record { waiting = b.waiting + facts; most = b.most; owed = b.owed + 1; feeds = change (λ f. gone f f.phase) k b.feeds }
happens b (GivesUp k) = record { waiting = b.waiting; most = b.most; owed = b.owed + 1; feeds = change (λ f. gone f f.phase) k b.feeds }
happens b (Takes facts) = record { waiting = b.waiting - facts; most = b.most; owed = b.owed + 1; feeds = b.feeds }
happens b Calls = called b b.owed

abbrev pub run : List Event → Backlog → Backlog
run [] b = b
run (event ∷ events) b = run events (happens b event)

-- A feed that has found no space, and was not called since.
abbrev pub is_held : Feed → Phase → Bool
is_held f Idle = false
is_held f Counted = false
is_held f Held = not f.woken
is_held f Asleep = not f.woken
is_held f Again = false
is_held f Goes = false

-- A feed that will look, or put its block.
abbrev pub is_coming : Feed → Phase → Bool
is_coming f Idle = false
is_coming f Counted = true
is_coming f Held = f.woken
is_coming f Asleep = f.woken
is_coming f Again = true
is_coming f Goes = true

abbrev pub has_held : List Feed → Bool
has_held [] = false
has_held (f ∷ fs) = is_held f f.phase || has_held fs

abbrev pub has_coming : List Feed → Bool
has_coming [] = false
has_coming (f ∷ fs) = is_coming f f.phase || has_coming fs

-- While there is space and a feed is held back, another feed will look or put its block, or
-- a thread is about to call.
abbrev pub SpaceIsUsed : Type 0
SpaceIsUsed =
    (most count : ℕ) (events : List Event)
    → (run events (start most count)).waiting < (run events (start most count)).most
    → has_held (run events (start most count)).feeds ≡ true
    → has_coming (run events (start most count)).feeds ≡ false
    → 0 < (run events (start most count)).owed
