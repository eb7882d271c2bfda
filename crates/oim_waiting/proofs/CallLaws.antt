-- Space does not stay unused while a feed is held back.
use Rattle.std.proofs.lemmas.Bool.Decides.{nat_tests}
use Rattle.std.specs.Prelude.{◌⊎◌, if◌then◌else◌, nat_lt, ◌||◌, replicate}
use Rattle.std.proofs.Common.{◌≡◌, ◌<◌, ◌∷◌, [], ℕ, zero, suc, List, Bool, true, false, arith, refl, inl, inr}
use Rattle.oim_waiting.specs.Calls.{Phase, Idle, Counted, Held, Asleep, Again, Goes, Feed, Backlog, Event, Announces, Looks, Sleeps, Rises, Puts, GivesUp, Takes, Calls, idle, start, announced, looked, slept, risen, may_be_called, call, change, called, happens, run, is_held, is_coming, has_held, has_coming, SpaceIsUsed}

-- Some feed is held back, and none will look or put a block.
abbrev pub IsStill : List Feed → Type 0
IsStill fs = (has_held fs ≡ true) × (has_coming fs ≡ false)

abbrev pub feed : Phase → Bool → Feed
feed phase woken = record { phase = phase; woken = woken }

-- A change that makes a feed come, or changes nothing, makes no feeds still.
abbrev pub Stirs : (Feed → Feed) → Type 0
Stirs to = (phase : Phase) (woken : Bool) → (is_coming (to (feed phase woken)) (to (feed phase woken)).phase ≡ true) ⊎ (to (feed phase woken) ≡ feed phase woken)

or_first : (a b : Bool) → a ≡ true → (a || b) ≡ true
or_first true b is = refl
or_first false b is = absurd (cc)

or_second : (a b : Bool) → b ≡ true → (a || b) ≡ true
or_second true b is = refl
or_second false b is = is

first_stirs : (f : Feed) (fs : List Feed) (to : Feed → Feed) → (is_coming (to f) (to f).phase ≡ true) ⊎ (to f ≡ f) → (has_coming (to f ∷ fs) ≡ true) ⊎ (to f ∷ fs ≡ f ∷ fs)
first_stirs f fs to (inl comes) = inl (or_first (is_coming (to f) (to f).phase) (has_coming fs) comes)
first_stirs f fs to (inr same) = inr (cc)

later_stirs : (f : Feed) (fs gs : List Feed) → (has_coming gs ≡ true) ⊎ (gs ≡ fs) → (has_coming (f ∷ gs) ≡ true) ⊎ (f ∷ gs ≡ f ∷ fs)
later_stirs f fs gs (inl comes) = inl (or_second (is_coming f f.phase) (has_coming gs) comes)
later_stirs f fs gs (inr same) = inr (cc)

change_stirs : (to : Feed → Feed) → Stirs to → (k : ℕ) (fs : List Feed) → (has_coming (change to k fs) ≡ true) ⊎ (change to k fs ≡ fs)
change_stirs to stirs k [] = inr refl
change_stirs to stirs zero (f ∷ fs) = first_stirs f fs to (stirs f.phase f.woken)
change_stirs to stirs (suc k) (f ∷ fs) = later_stirs f fs (change to k fs) (change_stirs to stirs k fs)

still_before : (fs gs : List Feed) → (has_coming gs ≡ true) ⊎ (gs ≡ fs) → IsStill gs → IsStill fs
still_before fs gs (inl comes) still = let none = still.1 in absurd (cc)
still_before fs gs (inr same) still = (cc, cc)

announces_stirs : Stirs (λ f. announced f f.phase)
announces_stirs Idle woken = inl refl
announces_stirs Counted woken = inr refl
announces_stirs Held woken = inr refl
announces_stirs Asleep woken = inr refl
announces_stirs Again woken = inr refl
announces_stirs Goes woken = inr refl

looks_stirs : Stirs (λ f. looked true f f.phase)
looks_stirs Idle woken = inr refl
looks_stirs Counted woken = inl refl
looks_stirs Held woken = inr refl
looks_stirs Asleep woken = inr refl
looks_stirs Again woken = inl refl
looks_stirs Goes woken = inr refl

rises_stirs : Stirs (λ f. risen f f.phase)
rises_stirs Idle woken = inr refl
rises_stirs Counted woken = inr refl
rises_stirs Held woken = inr refl
rises_stirs Asleep true = inl refl
rises_stirs Asleep false = inr refl
rises_stirs Again woken = inr refl
rises_stirs Goes woken = inr refl

-- Going to sleep changes neither who is held back nor who comes.
sleep_held : (f : Feed) (phase : Phase) → f.phase ≡ phase → (is_held (slept f phase) (slept f phase).phase ≡ is_held f phase) × (is_coming (slept f phase) (slept f phase).phase ≡ is_coming f phase)
sleep_held f Idle is = (cc, cc)
sleep_held f Counted is = (cc, cc)
sleep_held f Held is = (refl, refl)
sleep_held f Asleep is = (cc, cc)
sleep_held f Again is = (cc, cc)
sleep_held f Goes is = (cc, cc)

sleep_same : (k : ℕ) (fs : List Feed) → (has_held (change (λ f. slept f f.phase) k fs) ≡ has_held fs) × (has_coming (change (λ f. slept f f.phase) k fs) ≡ has_coming fs)
sleep_same k [] = (refl, refl)
sleep_same zero (f ∷ fs) = let s = sleep_held f f.phase refl in (cc, cc)
sleep_same (suc k) (f ∷ fs) = let s = sleep_same k fs in (cc, cc)

-- After a call with space nobody is left still.
waits_not : (f : Feed) (phase : Phase) → may_be_called f phase ≡ false → is_held f phase ≡ false
waits_not f Idle is = refl
waits_not f Counted is = refl
waits_not f Held is = is
waits_not f Asleep is = is
waits_not f Again is = refl
waits_not f Goes is = refl

woken_comes : (f : Feed) (phase : Phase) → may_be_called f phase ≡ true → is_coming (feed phase true) phase ≡ true
woken_comes f Idle is = absurd (cc)
woken_comes f Counted is = refl
woken_comes f Held is = refl
woken_comes f Asleep is = refl
woken_comes f Again is = refl
woken_comes f Goes is = refl

later_still : (f : Feed) (fs : List Feed) (a b : Bool) → a ≡ false → (a || has_held fs) ≡ true → (b || has_coming fs) ≡ false → IsStill fs
later_still f fs true b is held none = absurd (cc)
later_still f fs false true is held none = absurd (cc)
later_still f fs false false is held none = (held, none)

call_cases : (f : Feed) (fs : List Feed) → (IsStill (call fs) → ⊥) → (b : Bool) → may_be_called f f.phase ≡ b → IsStill (if b then feed f.phase true ∷ fs else f ∷ call fs) → ⊥
call_cases f fs later true is still = let comes = or_first (is_coming (feed f.phase true) f.phase) (has_coming fs) (woken_comes f f.phase is) in let none = still.1 in absurd (cc)
call_cases f fs later false is still = later (later_still f (call fs) (is_held f f.phase) (is_coming f f.phase) (waits_not f f.phase is) still.0 still.1)

not_still : (fs : List Feed) → IsStill (call fs) → ⊥
not_still [] still = let held = still.0 in absurd (cc)
not_still (f ∷ fs) still = call_cases f fs (not_still fs) (may_be_called f f.phase) refl still

-- What each event keeps.
abbrev pub IsKept : Backlog → Type 0
IsKept b = b.waiting < b.most → IsStill b.feeds → 0 < b.owed

called_cases : (b : Backlog) (others : ℕ) (space : Bool) → nat_lt b.waiting b.most ≡ space → b.waiting < b.most → IsStill (if space then call b.feeds else b.feeds) → 0 < others
called_cases b others true is lt still = absurd (not_still b.feeds still)
called_cases b others false is lt still = absurd (grind (arith, nat_tests))

called_keeps : (b : Backlog) (owed : ℕ) → b.owed ≡ owed → IsKept b → IsKept (called b owed)
called_keeps b zero is kept = kept
called_keeps b (suc others) is kept = λ lt still. called_cases b others (nat_lt b.waiting b.most) refl lt still

looks_keeps : (b : Backlog) (k : ℕ) (space : Bool) → nat_lt b.waiting b.most ≡ space → IsKept b → b.waiting < b.most → IsStill (change (λ f. looked space f f.phase) k b.feeds) → 0 < b.owed
looks_keeps b k true is kept lt still = kept lt (still_before b.feeds (change (λ f. looked true f f.phase) k b.feeds) (change_stirs (λ f. looked true f f.phase) looks_stirs k b.feeds) still)
looks_keeps b k false is kept lt still = absurd (grind (arith, nat_tests))

keeps : (b : Backlog) (event : Event) → IsKept b → IsKept (happens b event)
keeps b (Announces k) kept = λ lt still. kept lt (still_before b.feeds (change (λ f. announced f f.phase) k b.feeds) (change_stirs (λ f. announced f f.phase) announces_stirs k b.feeds) still)
keeps b (Looks k) kept = λ lt still. looks_keeps b k (nat_lt b.waiting b.most) refl kept lt still
keeps b (Sleeps k) kept = λ lt still. let s = sleep_same k b.feeds in let held = still.0 in let none = still.1 in kept lt (cc, cc)
keeps b (Rises k) kept = λ lt still. kept lt (still_before b.feeds (change (λ f. risen f f.phase) k b.feeds) (change_stirs (λ f. risen f f.phase) rises_stirs k b.feeds) still)
keeps b (Puts k facts) kept = λ lt still. omega arith
keeps b (GivesUp k) kept = λ lt still. omega arith
keeps b (Takes facts) kept = λ lt still. omega arith
keeps b Calls kept = called_keeps b b.owed refl kept

runs : (events : List Event) (b : Backlog) → IsKept b → IsKept (run events b)
runs [] b kept = kept
runs (event ∷ events) b kept = runs events (happens b event) (keeps b event kept)

idle_held : (count : ℕ) → has_held (replicate count idle) ≡ false
idle_held zero = refl
idle_held (suc count) = idle_held count

start_kept : (most count : ℕ) → IsKept (start most count)
start_kept most count = λ lt still. let held = still.0 in let none = idle_held count in absurd (cc)

pub call_law : SpaceIsUsed
call_law most count events lt held none = runs events (start most count) (start_kept most count) lt (held, none)
