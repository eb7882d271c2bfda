-- The two ends of a ring do not sleep both.
use Rattle.std.proofs.lemmas.Bool.Decides.{nat_tests}
use Rattle.std.specs.Prelude.{◌⊎◌, if◌then◌else◌, nat_lt, nat_le}
use Rattle.std.proofs.Common.{◌≡◌, ◌<◌, ◌+◌, ◌-◌, ◌∷◌, [], ℕ, List, Bool, true, false, arith, refl, inl, inr}
use Rattle.oim_waiting.specs.declared.steps.RoomStep.{RoomStep}
use Rattle.oim_waiting.specs.declared.steps.RoomStep.TheVariants.{Put, Ask, Tell, FeedSleep, FeedRise, Take, Count, Compare, Give, DrainSleep, DrainRise}
use Rattle.oim_waiting.specs.Rooms.{FeedStage, Works, Stuck, Asked, Bound, FeedSleeps, DrainStage, Ready, Took, Left, Gives, Empty, DrainSleeps, Ring, start, happens, run, IsAboutToWake, OneGoesOn, puts, asks, tells, feed_sleeps, feed_rises, takes, counts, compares, gives, drain_sleeps, drain_rises, with_feed, with_drain, with_items}

abbrev pub Served : Bool → ℕ → DrainStage → Type 0
Served woken items drain = (woken ≡ true) ⊎ (0 < items) ⊎ IsAboutToWake drain

-- The drain has found no item.
abbrev pub Rests : DrainStage → Type 0
Rests Ready = ⊥
Rests Took = ⊥
Rests (Left items) = ⊥
Rests Gives = ⊥
Rests Empty = Unit {0}
Rests DrainSleeps = Unit {0}

abbrev pub Met : Bool → DrainStage → Bool → Type 0
Met woken drain drain_woken = Rests drain → (woken ≡ true) ⊎ (drain_woken ≡ true)

-- What each step keeps. From its wake of the drain on, the feed finds the drain at work, or one of
-- them was woken.
abbrev pub kept_of : FeedStage → Type 0 → Type 0 → Type 0
kept_of Works served met = Unit {0}
kept_of Stuck served met = served
kept_of Asked served met = served
kept_of Bound served met = served × met
kept_of FeedSleeps served met = served × met

abbrev pub IsKept : Ring → Type 0
IsKept r = kept_of r.feed (Served r.feed_woken r.items r.drain) (Met r.feed_woken r.drain r.drain_woken)

abbrev pub at : ℕ → ℕ → FeedStage → Bool → DrainStage → Bool → Ring
at items few feed feed_woken drain drain_woken = record { items = items; few = few; feed = feed; feed_woken = feed_woken; drain = drain; drain_woken = drain_woken }

lift : (feed : FeedStage) (s m t n : Type 0) → (s → t) → (s → m → n) → kept_of feed s m → kept_of feed t n
lift Works s m t n f g k = tt
lift Stuck s m t n f g k = f k
lift Asked s m t n f g k = f k
lift Bound s m t n f g k = (f k.0, g k.0 k.1)
lift FeedSleeps s m t n f g k = (f k.0, g k.0 k.1)

module _ (items few : ℕ) where
  put_cases : (fw : Bool) (drain : DrainStage) (dw a b : Bool) → nat_lt 0 items ≡ b
      → IsKept (if a then with_items (at items few Works fw drain dw) (items + 1) else (if b then with_feed (at items few Works fw drain dw) Stuck else at items few Works fw drain dw))
  put_cases fw drain dw true b is = tt
  put_cases fw drain dw false true is = inr (inl (grind (arith, nat_tests)))
  put_cases fw drain dw false false is = tt

  put_keeps : (feed : FeedStage) (fw : Bool) (drain : DrainStage) (dw : Bool) (most : ℕ) → IsKept (at items few feed fw drain dw) → IsKept (puts (at items few feed fw drain dw) most feed)
  put_keeps Works fw drain dw most k = put_cases fw drain dw (nat_lt items most) (nat_lt 0 items) refl
  put_keeps Stuck fw drain dw most k = k
  put_keeps Asked fw drain dw most k = k
  put_keeps Bound fw drain dw most k = k
  put_keeps FeedSleeps fw drain dw most k = k

  ask_keeps : (feed : FeedStage) (fw : Bool) (drain : DrainStage) (dw : Bool) (new : ℕ) → IsKept (at items few feed fw drain dw) → IsKept (asks (at items few feed fw drain dw) new feed)
  ask_keeps Works fw drain dw new k = tt
  ask_keeps Stuck fw drain dw new k = k
  ask_keeps Asked fw drain dw new k = k
  ask_keeps Bound fw drain dw new k = k
  ask_keeps FeedSleeps fw drain dw new k = k

  tell_keeps : (feed : FeedStage) (fw : Bool) (drain : DrainStage) (dw : Bool) → IsKept (at items few feed fw drain dw) → IsKept (tells (at items few feed fw drain dw) feed)
  tell_keeps Works fw drain dw k = tt
  tell_keeps Stuck fw drain dw k = k
  tell_keeps Asked fw drain dw k = (k, λ rests. inr refl)
  tell_keeps Bound fw drain dw k = (k.0, λ rests. inr refl)
  tell_keeps FeedSleeps fw drain dw k = k

  feed_sleep_keeps : (feed : FeedStage) (fw : Bool) (drain : DrainStage) (dw : Bool) → IsKept (at items few feed fw drain dw) → IsKept (feed_sleeps (at items few feed fw drain dw) feed)
  feed_sleep_keeps Works fw drain dw k = tt
  feed_sleep_keeps Stuck fw drain dw k = k
  feed_sleep_keeps Asked fw drain dw k = k
  feed_sleep_keeps Bound true drain dw k = tt
  feed_sleep_keeps Bound false drain dw k = k
  feed_sleep_keeps FeedSleeps fw drain dw k = k

  feed_rise_keeps : (feed : FeedStage) (fw : Bool) (drain : DrainStage) (dw : Bool) → IsKept (at items few feed fw drain dw) → IsKept (feed_rises (at items few feed fw drain dw) feed)
  feed_rise_keeps Works fw drain dw k = tt
  feed_rise_keeps Stuck fw drain dw k = k
  feed_rise_keeps Asked fw drain dw k = k
  feed_rise_keeps Bound fw drain dw k = k
  feed_rise_keeps FeedSleeps true drain dw k = tt
  feed_rise_keeps FeedSleeps false drain dw k = k

  none_waits : (fw : Bool) → nat_lt 0 items ≡ false → Served fw items Ready → fw ≡ true
  none_waits fw is (inl woken) = woken
  none_waits fw is (inr (inl waits)) = absurd (grind (arith, nat_tests))
  none_waits fw is (inr (inr about)) = absurd about

  take_cases : (feed : FeedStage) (fw dw b : Bool) → nat_lt 0 items ≡ b → IsKept (at items few feed fw Ready dw)
      → IsKept (if b then with_items (with_drain (at items few feed fw Ready dw) Took) (items - 1) else with_drain (at items few feed fw Ready dw) Empty)
  take_cases feed fw dw true is k = lift feed (Served fw items Ready) (Met fw Ready dw) (Served fw (items - 1) Took) (Met fw Took dw) (λ s. inr (inr tt)) (λ s m rests. absurd rests) k
  take_cases feed fw dw false is k = lift feed (Served fw items Ready) (Met fw Ready dw) (Served fw items Empty) (Met fw Empty dw) (λ s. inl (none_waits fw is s)) (λ s m rests. inl (none_waits fw is s)) k

  take_keeps : (feed : FeedStage) (fw : Bool) (drain : DrainStage) (dw : Bool) → IsKept (at items few feed fw drain dw) → IsKept (takes (at items few feed fw drain dw) drain)
  take_keeps feed fw Ready dw k = take_cases feed fw dw (nat_lt 0 items) refl k
  take_keeps feed fw Took dw k = k
  take_keeps feed fw (Left n) dw k = k
  take_keeps feed fw Gives dw k = k
  take_keeps feed fw Empty dw k = k
  take_keeps feed fw DrainSleeps dw k = k

  some_or_none : (b : Bool) → nat_lt 0 items ≡ b → (0 < items) ⊎ (items ≡ 0)
  some_or_none true is = inl (grind (arith, nat_tests))
  some_or_none false is = inr (grind (arith, nat_tests))

  -- What was counted is 0, or an item waits.
  counted : (fw : Bool) → (0 < items) ⊎ (items ≡ 0) → Served fw items (Left items)
  counted fw (inl waits) = inr (inl waits)
  counted fw (inr none) = inr (inr none)

  count_keeps : (feed : FeedStage) (fw : Bool) (drain : DrainStage) (dw : Bool) → IsKept (at items few feed fw drain dw) → IsKept (counts (at items few feed fw drain dw) drain)
  count_keeps feed fw Ready dw k = k
  count_keeps feed fw Took dw k = lift feed (Served fw items Took) (Met fw Took dw) (Served fw items (Left items)) (Met fw (Left items) dw) (λ s. counted fw (some_or_none (nat_lt 0 items) refl)) (λ s m rests. absurd rests) k
  count_keeps feed fw (Left n) dw k = k
  count_keeps feed fw Gives dw k = k
  count_keeps feed fw Empty dw k = k
  count_keeps feed fw DrainSleeps dw k = k

  -- A count that is not few is not 0.
  some_left : (fw : Bool) (n : ℕ) → nat_le n few ≡ false → Served fw items (Left n) → Served fw items Ready
  some_left fw n is (inl woken) = inl woken
  some_left fw n is (inr (inl waits)) = inr (inl waits)
  some_left fw n is (inr (inr none)) = absurd (grind (arith, nat_tests))

  compare_cases : (feed : FeedStage) (fw : Bool) (n : ℕ) (dw b : Bool) → nat_le n few ≡ b → IsKept (at items few feed fw (Left n) dw)
      → IsKept (with_drain (at items few feed fw (Left n) dw) (if b then Gives else Ready))
  compare_cases feed fw n dw true is k = lift feed (Served fw items (Left n)) (Met fw (Left n) dw) (Served fw items Gives) (Met fw Gives dw) (λ s. inr (inr tt)) (λ s m rests. absurd rests) k
  compare_cases feed fw n dw false is k = lift feed (Served fw items (Left n)) (Met fw (Left n) dw) (Served fw items Ready) (Met fw Ready dw) (some_left fw n is) (λ s m rests. absurd rests) k

  compare_keeps : (feed : FeedStage) (fw : Bool) (drain : DrainStage) (dw : Bool) → IsKept (at items few feed fw drain dw) → IsKept (compares (at items few feed fw drain dw) drain)
  compare_keeps feed fw Ready dw k = k
  compare_keeps feed fw Took dw k = k
  compare_keeps feed fw (Left n) dw k = compare_cases feed fw n dw (nat_le n few) refl k
  compare_keeps feed fw Gives dw k = k
  compare_keeps feed fw Empty dw k = k
  compare_keeps feed fw DrainSleeps dw k = k

  give_keeps : (feed : FeedStage) (fw : Bool) (drain : DrainStage) (dw : Bool) → IsKept (at items few feed fw drain dw) → IsKept (gives (at items few feed fw drain dw) drain)
  give_keeps feed fw Ready dw k = k
  give_keeps feed fw Took dw k = k
  give_keeps feed fw (Left n) dw k = k
  give_keeps feed fw Gives dw k = lift feed (Served fw items Gives) (Met fw Gives dw) (Served true items Ready) (Met true Ready dw) (λ s. inl refl) (λ s m rests. absurd rests) k
  give_keeps feed fw Empty dw k = k
  give_keeps feed fw DrainSleeps dw k = k

  none_comes : (fw : Bool) → Served fw items Empty → Served fw items Ready
  none_comes fw (inl woken) = inl woken
  none_comes fw (inr (inl waits)) = inr (inl waits)
  none_comes fw (inr (inr about)) = absurd about

  none_slept : (fw : Bool) → Served fw items DrainSleeps → Served fw items Ready
  none_slept fw (inl woken) = inl woken
  none_slept fw (inr (inl waits)) = inr (inl waits)
  none_slept fw (inr (inr about)) = absurd about

  goes_to_sleep : (fw : Bool) → Served fw items Empty → Served fw items DrainSleeps
  goes_to_sleep fw (inl woken) = inl woken
  goes_to_sleep fw (inr (inl waits)) = inr (inl waits)
  goes_to_sleep fw (inr (inr about)) = absurd about

  drain_sleep_keeps : (feed : FeedStage) (fw : Bool) (drain : DrainStage) (dw : Bool) → IsKept (at items few feed fw drain dw) → IsKept (drain_sleeps (at items few feed fw drain dw) drain)
  drain_sleep_keeps feed fw Ready dw k = k
  drain_sleep_keeps feed fw Took dw k = k
  drain_sleep_keeps feed fw (Left n) dw k = k
  drain_sleep_keeps feed fw Gives dw k = k
  drain_sleep_keeps feed fw Empty true k = lift feed (Served fw items Empty) (Met fw Empty true) (Served fw items Ready) (Met fw Ready false) (none_comes fw) (λ s m rests. absurd rests) k
  drain_sleep_keeps feed fw Empty false k = lift feed (Served fw items Empty) (Met fw Empty false) (Served fw items DrainSleeps) (Met fw DrainSleeps false) (goes_to_sleep fw) (λ s m. m) k
  drain_sleep_keeps feed fw DrainSleeps dw k = k

  drain_rise_keeps : (feed : FeedStage) (fw : Bool) (drain : DrainStage) (dw : Bool) → IsKept (at items few feed fw drain dw) → IsKept (drain_rises (at items few feed fw drain dw) drain)
  drain_rise_keeps feed fw Ready dw k = k
  drain_rise_keeps feed fw Took dw k = k
  drain_rise_keeps feed fw (Left n) dw k = k
  drain_rise_keeps feed fw Gives dw k = k
  drain_rise_keeps feed fw Empty dw k = k
  drain_rise_keeps feed fw DrainSleeps dw k = lift feed (Served fw items DrainSleeps) (Met fw DrainSleeps dw) (Served fw items Ready) (Met fw Ready false) (none_slept fw) (λ s m rests. absurd rests) k

keeps : (r : Ring) (step : RoomStep) → IsKept r → IsKept (happens r step)
keeps r (Put most) k = put_keeps r.items r.few r.feed r.feed_woken r.drain r.drain_woken most k
keeps r (Ask few) k = ask_keeps r.items r.few r.feed r.feed_woken r.drain r.drain_woken few k
keeps r Tell k = tell_keeps r.items r.few r.feed r.feed_woken r.drain r.drain_woken k
keeps r FeedSleep k = feed_sleep_keeps r.items r.few r.feed r.feed_woken r.drain r.drain_woken k
keeps r FeedRise k = feed_rise_keeps r.items r.few r.feed r.feed_woken r.drain r.drain_woken k
keeps r Take k = take_keeps r.items r.few r.feed r.feed_woken r.drain r.drain_woken k
keeps r Count k = count_keeps r.items r.few r.feed r.feed_woken r.drain r.drain_woken k
keeps r Compare k = compare_keeps r.items r.few r.feed r.feed_woken r.drain r.drain_woken k
keeps r Give k = give_keeps r.items r.few r.feed r.feed_woken r.drain r.drain_woken k
keeps r DrainSleep k = drain_sleep_keeps r.items r.few r.feed r.feed_woken r.drain r.drain_woken k
keeps r DrainRise k = drain_rise_keeps r.items r.few r.feed r.feed_woken r.drain r.drain_woken k

runs : (steps : List RoomStep) (r : Ring) → IsKept r → IsKept (run steps r)
runs [] r k = k
runs (step ∷ steps) r k = runs steps (happens r step) (keeps r step k)

served : (feed : FeedStage) (s m : Type 0) → kept_of feed s m → feed ≡ FeedSleeps → s
served Works s m k is = absurd (cc)
served Stuck s m k is = k
served Asked s m k is = k
served Bound s m k is = k.0
served FeedSleeps s m k is = k.0

met : (feed : FeedStage) (s m : Type 0) → kept_of feed s m → feed ≡ FeedSleeps → m
met Works s m k is = absurd (cc)
met Stuck s m k is = absurd (cc)
met Asked s m k is = absurd (cc)
met Bound s m k is = k.1
met FeedSleeps s m k is = k.1

resting : (drain : DrainStage) → drain ≡ DrainSleeps → Rests drain
resting Ready is = absurd (cc)
resting Took is = absurd (cc)
resting (Left n) is = absurd (cc)
resting Gives is = absurd (cc)
resting Empty is = tt
resting DrainSleeps is = tt

pub room_law : OneGoesOn
room_law few steps =
    let r = run steps (start few) in
    let k = runs steps (start few) tt in
    let s = Served r.feed_woken r.items r.drain in
    let m = Met r.feed_woken r.drain r.drain_woken in (
      (λ is. served r.feed s m k is),
      (λ is rests. met r.feed s m k is (resting r.drain rests)),
    )
