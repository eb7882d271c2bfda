-- The steps of waiting, executed on worked cases.
use Rattle.std.proofs.Common.{◌≡◌, ◌∷◌, ◌++◌, [], List, Bool, true, false, refl}
use Rattle.oim_waiting.specs.declared.steps.RoomStep.TheVariants.{Put, Ask, Tell, FeedSleep, FeedRise, Take, Count, Compare, Give, DrainSleep, DrainRise}
use Rattle.oim_waiting.specs.declared.steps.TurnStep.TheVariants.{Announce, Look, Sleep, Rise, Change, Wake}
use Rattle.oim_waiting.specs.Calls as calls
use Rattle.oim_waiting.specs.Calls.{Announces, Looks, Sleeps, Rises, Puts, GivesUp, Takes, Calls}
use Rattle.oim_waiting.specs.Rooms as rooms
use Rattle.oim_waiting.specs.state.Orders.{finding_none, letting_go, looking_back, one_wait, HasTaken}
use Rattle.oim_waiting.specs.Turns as turns

-- A feed sleeps, and goes on once it was woken.
sleeps : turns.run (Announce ∷ Look true ∷ Sleep ∷ []) turns.start ≡ record { stage = turns.Asleep; free = false; woken = false; owed = 0 }
sleeps = refl

is_woken : turns.run (Announce ∷ Look true ∷ Sleep ∷ Change ∷ Wake ∷ Rise ∷ []) turns.start ≡ record { stage = turns.Away; free = true; woken = true; owed = 0 }
is_woken = refl

-- It does not go on before it is woken.
sleeps_on : turns.run (Announce ∷ Look true ∷ Sleep ∷ Change ∷ Rise ∷ []) turns.start ≡ record { stage = turns.Asleep; free = true; woken = false; owed = 1 }
sleeps_on = refl

-- A wake between its look and its sleep ends the sleep.
is_woken_before : turns.run (Announce ∷ Look true ∷ Change ∷ Wake ∷ Sleep ∷ Rise ∷ []) turns.start ≡ record { stage = turns.Away; free = true; woken = true; owed = 0 }
is_woken_before = refl

-- A wake before its announcement reaches nobody, but then it finds that it may go on.
goes_on : turns.run (Change ∷ Wake ∷ Announce ∷ Look false ∷ []) turns.start ≡ record { stage = turns.Away; free = true; woken = false; owed = 0 }
goes_on = refl

-- It cannot find that it must wait while it may go on.
finds_it : turns.run (Announce ∷ Change ∷ Look true ∷ []) turns.start ≡ record { stage = turns.Announced; free = true; woken = false; owed = 1 }
finds_it = refl

-- It may go on for another reason, as when there is space.
finds_space : turns.run (Announce ∷ Look false ∷ []) turns.start ≡ turns.start
finds_space = refl

-- Without an announcement it neither looks nor sleeps.
in_order : turns.run (Look true ∷ Sleep ∷ Rise ∷ []) turns.start ≡ turns.start
in_order = refl

-- A thread that wakes before its change leaves a feed asleep that may go on.
wakes_too_early : turns.run (Announce ∷ Look true ∷ Wake ∷ Sleep ∷ Rise ∷ Announce ∷ Look true ∷ Sleep ∷ Change ∷ []) turns.start ≡ record { stage = turns.Asleep; free = true; woken = false; owed = 1 }
wakes_too_early = refl

-- A feed finds one item of one, asks, wakes the drain and sleeps. The drain takes the item and
-- wakes it.
full : rooms.run (Put 1 ∷ Put 1 ∷ []) (rooms.start 9) ≡ record { items = 1; few = 9; feed = rooms.Stuck; feed_woken = false; drain = rooms.Ready; drain_woken = false }
full = refl

feed_sleeps : rooms.run (Put 1 ∷ Put 1 ∷ Ask 0 ∷ Tell ∷ FeedSleep ∷ []) (rooms.start 9) ≡ record { items = 1; few = 0; feed = rooms.FeedSleeps; feed_woken = false; drain = rooms.Ready; drain_woken = true }
feed_sleeps = refl

is_given : rooms.run (Put 1 ∷ Put 1 ∷ Ask 0 ∷ Tell ∷ FeedSleep ∷ Take ∷ Count ∷ Compare ∷ Give ∷ FeedRise ∷ []) (rooms.start 9) ≡ record { items = 0; few = 0; feed = rooms.Works; feed_woken = false; drain = rooms.Ready; drain_woken = true }
is_given = refl

-- With four items it is woken when one is left.
three_taken : rooms.run (Put 2 ∷ Put 2 ∷ Put 2 ∷ Ask 0 ∷ Tell ∷ FeedSleep ∷ Take ∷ Count ∷ Compare ∷ []) (rooms.start 9) ≡ record { items = 1; few = 0; feed = rooms.FeedSleeps; feed_woken = false; drain = rooms.Ready; drain_woken = true }
three_taken = refl

-- A wake that came before its sleep ends that sleep.
woken_before : rooms.run (Put 1 ∷ Put 1 ∷ Take ∷ Count ∷ Compare ∷ Give ∷ Ask 0 ∷ Tell ∷ FeedSleep ∷ []) (rooms.start 9) ≡ record { items = 0; few = 0; feed = rooms.Works; feed_woken = false; drain = rooms.Ready; drain_woken = true }
woken_before = refl

-- A feed that sleeps does not go on unless it is woken; a drain goes on when its time ends.
no_time : rooms.run (Put 1 ∷ Put 1 ∷ Ask 0 ∷ Tell ∷ FeedSleep ∷ FeedRise ∷ []) (rooms.start 9) ≡ record { items = 1; few = 0; feed = rooms.FeedSleeps; feed_woken = false; drain = rooms.Ready; drain_woken = true }
no_time = refl

drain_sleeps : rooms.run (Take ∷ DrainSleep ∷ []) (rooms.start 9) ≡ record { items = 0; few = 9; feed = rooms.Works; feed_woken = false; drain = rooms.DrainSleeps; drain_woken = false }
drain_sleeps = refl

drain_rises : rooms.run (Take ∷ DrainSleep ∷ Put 1 ∷ DrainRise ∷ Take ∷ []) (rooms.start 0) ≡ record { items = 0; few = 0; feed = rooms.Works; feed_woken = false; drain = rooms.Took; drain_woken = false }
drain_rises = refl

drain_does_not_sleep : rooms.run (Take ∷ Put 1 ∷ Tell ∷ DrainSleep ∷ []) (rooms.start 0) ≡ record { items = 1; few = 0; feed = rooms.Works; feed_woken = false; drain = rooms.Ready; drain_woken = false }
drain_does_not_sleep = refl

-- Two feeds wait while the one fact that may wait does. After it is taken, the first of them is
-- called.
abbrev both_sleep : List calls.Event
both_sleep = Puts 0 1 ∷ Calls ∷ Announces 1 ∷ Looks 1 ∷ Sleeps 1 ∷ Announces 2 ∷ Looks 2 ∷ Sleeps 2 ∷ []

abbrev feed : calls.Phase → Bool → calls.Feed
feed phase woken = record { phase = phase; woken = woken }

two_wait : calls.run both_sleep (calls.start 1 3) ≡ record { waiting = 1; most = 1; owed = 0; feeds = calls.idle ∷ feed calls.Asleep false ∷ feed calls.Asleep false ∷ [] }
two_wait = refl

one_is_called : calls.run (both_sleep ++ Takes 1 ∷ Calls ∷ []) (calls.start 1 3) ≡ record { waiting = 0; most = 1; owed = 0; feeds = calls.idle ∷ feed calls.Asleep true ∷ feed calls.Asleep false ∷ [] }
one_is_called = refl

-- It goes on, looks and puts its block; there is no space for the other.
no_space_left : calls.run (both_sleep ++ Takes 1 ∷ Calls ∷ Rises 1 ∷ Looks 1 ∷ Puts 1 1 ∷ Calls ∷ []) (calls.start 1 3) ≡ record { waiting = 1; most = 1; owed = 0; feeds = calls.idle ∷ calls.idle ∷ feed calls.Asleep false ∷ [] }
no_space_left = refl

-- If its ring has no room, the other is called.
is_passed_on : calls.run (both_sleep ++ Takes 1 ∷ Calls ∷ Rises 1 ∷ Looks 1 ∷ GivesUp 1 ∷ Calls ∷ []) (calls.start 1 3) ≡ record { waiting = 0; most = 1; owed = 0; feeds = calls.idle ∷ calls.idle ∷ feed calls.Asleep true ∷ [] }
is_passed_on = refl

-- A feed that was not called sleeps on.
sleeps_without_a_call : calls.run (both_sleep ++ Takes 1 ∷ Calls ∷ Rises 2 ∷ []) (calls.start 1 3) ≡ calls.run (both_sleep ++ Takes 1 ∷ Calls ∷ []) (calls.start 1 3)
sleeps_without_a_call = refl

-- One that finds the space used waits again.
finds_it_used : calls.run (both_sleep ++ Takes 1 ∷ Calls ∷ Puts 0 1 ∷ Calls ∷ Rises 1 ∷ Looks 1 ∷ []) (calls.start 1 3) ≡ record { waiting = 1; most = 1; owed = 0; feeds = calls.idle ∷ feed calls.Idle true ∷ feed calls.Asleep false ∷ [] }
finds_it_used = refl

-- A thread that owes no call makes none.
no_call : calls.run (both_sleep ++ Calls ∷ []) (calls.start 2 3) ≡ calls.run both_sleep (calls.start 2 3)
no_call = refl

-- A feed that is not counted is not called, and there is no feed 3.
nobody_waits : calls.run (Takes 1 ∷ Calls ∷ Announces 3 ∷ []) (calls.start 1 3) ≡ calls.start 1 3
nobody_waits = refl

-- What the threads do, in the words of the contracts.
waits_once : (one_wait true ≡ Announce ∷ Look true ∷ Sleep ∷ Rise ∷ []) × (one_wait false ≡ Announce ∷ Look false ∷ [])
waits_once = (refl, refl)

lets_go : letting_go ≡ Change ∷ Wake ∷ []
lets_go = refl

finds_none : finding_none 4 1 ≡ Put 4 ∷ Ask 1 ∷ Tell ∷ []
finds_none = refl

looks_back : (looking_back true ≡ Compare ∷ Give ∷ []) × (looking_back false ≡ Compare ∷ [])
looks_back = (refl, refl)

has_taken : HasTaken [] (Take ∷ Count ∷ Compare ∷ Give ∷ [])
has_taken = (true, refl)
