-- The two ends of a ring. A feed that found no room sleeps until few items are left. A drain that
-- found no item sleeps until it is woken or for some time. A wake stays until the next sleep.
use Rattle.std.specs.Prelude.{◌≡◌, ◌⊎◌, ◌<◌, ◌+◌, ◌-◌, ℕ, Bool, true, false, List, [], ◌∷◌, if◌then◌else◌, nat_lt, nat_le}
use Rattle.oim_waiting.specs.declared.steps.RoomStep.{RoomStep}
use Rattle.oim_waiting.specs.declared.steps.RoomStep.TheVariants.{Put, Ask, Tell, FeedSleep, FeedRise, Take, Count, Compare, Give, DrainSleep, DrainRise}

-- How far the feed is. Stuck has found no room, Asked has said when it wants to be woken, and Bound
-- has woken the drain.
pub data FeedStage : Type 0 where
  Works : FeedStage
  Stuck : FeedStage
  Asked : FeedStage
  Bound : FeedStage
  FeedSleeps : FeedStage

-- How far the drain is. Took has taken an item, Left knows how many are left, Gives found that
-- these are few, and Empty has found no item.
pub data DrainStage : Type 0 where
  Ready : DrainStage
  Took : DrainStage
  Left : (items : ℕ) → DrainStage
  Gives : DrainStage
  Empty : DrainStage
  DrainSleeps : DrainStage

pub record Ring : Type 0 where
  pub items : ℕ
  pub few : ℕ  -- the feed is woken when at most this many items are left
  pub feed : FeedStage
  pub feed_woken : Bool
  pub drain : DrainStage
  pub drain_woken : Bool

-- A ring may begin with any number as few.
abbrev pub start : ℕ → Ring
start few = record { items = 0; few = few; feed = Works; feed_woken = false; drain = Ready; drain_woken = false }

abbrev pub with_feed : Ring → FeedStage → Ring
with_feed r stage = record { items = r.items; few = r.few; feed = stage; feed_woken = r.feed_woken; drain = r.drain; drain_woken = r.drain_woken }

abbrev pub with_drain : Ring → DrainStage → Ring
with_drain r stage = record { items = r.items; few = r.few; feed = r.feed; feed_woken = r.feed_woken; drain = stage; drain_woken = r.drain_woken }

abbrev pub with_items : Ring → ℕ → Ring
with_items r items = record { items = items; few = r.few; feed = r.feed; feed_woken = r.feed_woken; drain = r.drain; drain_woken = r.drain_woken }

abbrev pub with_few : Ring → ℕ → Ring
with_few r few = record { items = r.items; few = few; feed = r.feed; feed_woken = r.feed_woken; drain = r.drain; drain_woken = r.drain_woken }

abbrev pub with_feed_woken : Ring → Bool → Ring
with_feed_woken r woken = record { items = r.items; few = r.few; feed = r.feed; feed_woken = woken; drain = r.drain; drain_woken = r.drain_woken }

abbrev pub with_drain_woken : Ring → Bool → Ring
with_drain_woken r woken = record { items = r.items; few = r.few; feed = r.feed; feed_woken = r.feed_woken; drain = r.drain; drain_woken = woken }

-- An end that was woken does not sleep: it goes on, and the wake is used up.
abbrev pub feed_rests : Ring → Ring
feed_rests r = if r.feed_woken then with_feed_woken (with_feed r Works) false else with_feed r FeedSleeps

abbrev pub drain_rests : Ring → Ring
drain_rests r = if r.drain_woken then with_drain_woken (with_drain r Ready) false else with_drain r DrainSleeps

-- A feed finds no room only where an item waits.
abbrev pub puts : Ring → ℕ → FeedStage → Ring
puts r most Works = if nat_lt r.items most then with_items r (r.items + 1) else (if nat_lt 0 r.items then with_feed r Stuck else r)
puts r most Stuck = r
puts r most Asked = r
puts r most Bound = r
puts r most FeedSleeps = r

abbrev pub asks : Ring → ℕ → FeedStage → Ring
asks r few Works = r
asks r few Stuck = with_few (with_feed r Asked) few
asks r few Asked = r
asks r few Bound = r
asks r few FeedSleeps = r

-- A feed may wake the drain at any time, and does so before it sleeps.
abbrev pub tells : Ring → FeedStage → Ring
tells r Works = with_drain_woken r true
tells r Stuck = with_drain_woken r true
tells r Asked = with_drain_woken (with_feed r Bound) true
tells r Bound = with_drain_woken r true
tells r FeedSleeps = r

abbrev pub feed_sleeps : Ring → FeedStage → Ring
feed_sleeps r Works = r
feed_sleeps r Stuck = r
feed_sleeps r Asked = r
feed_sleeps r Bound = feed_rests r
feed_sleeps r FeedSleeps = r

abbrev pub feed_rises : Ring → FeedStage → Ring
feed_rises r Works = r
feed_rises r Stuck = r
feed_rises r Asked = r
feed_rises r Bound = r
feed_rises r FeedSleeps = feed_rests r

abbrev pub takes : Ring → DrainStage → Ring
takes r Ready = if nat_lt 0 r.items then with_items (with_drain r Took) (r.items - 1) else with_drain r Empty
takes r Took = r
takes r (Left items) = r
takes r Gives = r
takes r Empty = r
takes r DrainSleeps = r

abbrev pub counts : Ring → DrainStage → Ring
counts r Ready = r
counts r Took = with_drain r (Left r.items)
counts r (Left items) = r
counts r Gives = r
counts r Empty = r
counts r DrainSleeps = r

abbrev pub compares : Ring → DrainStage → Ring
compares r Ready = r
compares r Took = r
compares r (Left items) = with_drain r (if nat_le items r.few then Gives else Ready)
compares r Gives = r
compares r Empty = r
compares r DrainSleeps = r

abbrev pub gives : Ring → DrainStage → Ring
gives r Ready = r
gives r Took = r
gives r (Left items) = r
gives r Gives = with_feed_woken (with_drain r Ready) true
gives r Empty = r
gives r DrainSleeps = r

abbrev pub drain_sleeps : Ring → DrainStage → Ring
drain_sleeps r Ready = r
drain_sleeps r Took = r
drain_sleeps r (Left items) = r
drain_sleeps r Gives = r
drain_sleeps r Empty = drain_rests r
drain_sleeps r DrainSleeps = r

-- Its sleep may end by time. A wake that came meanwhile is used up.
abbrev pub drain_rises : Ring → DrainStage → Ring
drain_rises r Ready = r
drain_rises r Took = r
drain_rises r (Left items) = r
drain_rises r Gives = r
drain_rises r Empty = r
drain_rises r DrainSleeps = with_drain_woken (with_drain r Ready) false

abbrev pub happens : Ring → RoomStep → Ring
happens r (Put most) = puts r most r.feed
happens r (Ask few) = asks r few r.feed
happens r Tell = tells r r.feed
happens r FeedSleep = feed_sleeps r r.feed
happens r FeedRise = feed_rises r r.feed
happens r Take = takes r r.drain
happens r Count = counts r r.drain
happens r Compare = compares r r.drain
happens r Give = gives r r.drain
happens r DrainSleep = drain_sleeps r r.drain
happens r DrainRise = drain_rises r r.drain

-- All steps of both ends, in any order.
abbrev pub run : List RoomStep → Ring → Ring
run [] r = r
run (step ∷ steps) r = run steps (happens r step)

-- The drain has taken an item, and will look how many are left, or has found none or few left.
abbrev pub IsAboutToWake : DrainStage → Type 0
IsAboutToWake Ready = ⊥
IsAboutToWake Took = Unit {0}
IsAboutToWake (Left items) = items ≡ 0
IsAboutToWake Gives = Unit {0}
IsAboutToWake Empty = ⊥
IsAboutToWake DrainSleeps = ⊥

-- A feed that sleeps was woken, or an item waits for the drain, or the drain is about to wake it.
abbrev pub IsFeedServed : Ring → Type 0
IsFeedServed r = (r.feed_woken ≡ true) ⊎ (0 < r.items) ⊎ IsAboutToWake r.drain

-- For a feed that sleeps an item waits or a wake is due. The two ends do not sleep both, unless one
-- of them was woken; this does not need the time of the drain's sleep.
abbrev pub OneGoesOn : Type 0
OneGoesOn =
    (few : ℕ) (steps : List RoomStep)
    → ((run steps (start few)).feed ≡ FeedSleeps → IsFeedServed (run steps (start few)))
    × ((run steps (start few)).feed ≡ FeedSleeps → (run steps (start few)).drain ≡ DrainSleeps
    → ((run steps (start few)).feed_woken ≡ true) ⊎ ((run steps (start few)).drain_woken ≡ true))
