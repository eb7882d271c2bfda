-- A feed that waits until it may go on, and the threads that let it go on. The feed announces that
-- it may sleep, looks, and then sleeps. The others change what it waits for, and then wake it if it
-- has announced a sleep.
use Rattle.std.specs.Prelude.{◌≡◌, ◌⊎◌, ◌<◌, ◌+◌, ◌-◌, ℕ, Bool, true, false, List, [], ◌∷◌, if◌then◌else◌}
use Rattle.oim_waiting.specs.declared.steps.TurnStep.{TurnStep}
use Rattle.oim_waiting.specs.declared.steps.TurnStep.TheVariants.{Announce, Look, Sleep, Rise, Change, Wake}

-- How far the feed is. Bound has looked and found that it must wait, but does not sleep yet.
pub data Stage : Type 0 where
  Away : Stage
  Announced : Stage
  Bound : Stage
  Asleep : Stage

pub record Place : Type 0 where
  pub stage : Stage
  pub free : Bool  -- whether the feed may go on
  pub woken : Bool  -- whether a wake came since its announcement
  pub owed : ℕ  -- how many threads have changed something, and not woken the feed yet

abbrev pub start : Place
start = record { stage = Away; free = false; woken = false; owed = 0 }

abbrev pub announces : Place → Stage → Place
announces p Away = record { stage = Announced; free = p.free; woken = false; owed = p.owed }
announces p Announced = p
announces p Bound = p
announces p Asleep = p

-- A feed that may go on does not find that it must wait.
abbrev pub looks : Place → Bool → Stage → Place
looks p must Away = p
looks p must Announced = record { stage = if must then (if p.free then Announced else Bound) else Away; free = p.free; woken = p.woken; owed = p.owed }
looks p must Bound = p
looks p must Asleep = p

abbrev pub sleeps : Place → Stage → Place
sleeps p Away = p
sleeps p Announced = p
sleeps p Bound = record { stage = Asleep; free = p.free; woken = p.woken; owed = p.owed }
sleeps p Asleep = p

-- The system lets a feed go on that was woken.
abbrev pub rises : Place → Stage → Place
rises p Away = p
rises p Announced = p
rises p Bound = p
rises p Asleep = record { stage = if p.woken then Away else Asleep; free = p.free; woken = p.woken; owed = p.owed }

-- A wake reaches a feed that has announced a sleep, and no other.
abbrev pub wakes : Place → Stage → Bool
wakes p Away = p.woken
wakes p Announced = true
wakes p Bound = true
wakes p Asleep = true

abbrev pub happens : Place → TurnStep → Place
happens p Announce = announces p p.stage
happens p (Look must) = looks p must p.stage
happens p Sleep = sleeps p p.stage
happens p Rise = rises p p.stage
happens p Change = record { stage = p.stage; free = true; woken = p.woken; owed = p.owed + 1 }
happens p Wake = record { stage = p.stage; free = p.free; woken = wakes p p.stage; owed = p.owed - 1 }

-- All steps of all threads, in any order.
abbrev pub run : List TurnStep → Place → Place
run [] p = p
run (step ∷ steps) p = run steps (happens p step)

-- The feed was woken, or a thread is about to wake it.
abbrev pub IsWakeDue : Place → Type 0
IsWakeDue p = (p.woken ≡ true) ⊎ (0 < p.owed)

-- A feed does not sleep while it may go on and no wake is due.
abbrev pub NoTurnIsMissed : Type 0
NoTurnIsMissed = (steps : List TurnStep) → (run steps start).stage ≡ Asleep → (run steps start).free ≡ true → IsWakeDue (run steps start)
