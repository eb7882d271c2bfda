-- The views of the seats at the board of one Claims, and the rule that each step keeps.
use Rattle.std.specs.Prelude.{◌≡◌, ℕ, ◌+◌, ◌-◌, ◌^◌, ◌<◌, ◌≤◌, min, Bool, cond, List, [], ◌∷◌, ◌++◌, length, slice_get, slice_index, Option, Some, sum_by}
use mathlib.Core.Option.{some}
use lib.ListN.{get_elem?}
use Rattle.atomic_table.specs.Table.{State, Me}
use Rattle.atomic_table.specs.Seated.{TableId}
use Rattle.oim_crew.specs.Numbers.{times, once_below}
use Rattle.oim_crew.specs.Claims.{Claiming, Drawer}
use Rattle.oim_crew.specs.declared.view.View.{View}

module _ {V : Type 0} where
  abbrev pub word : State (Option V) (View V) → ℕ
  word s = slice_index s.words 0

  -- Sums over all views: the count of seats, of seats that found no item left, of draws of k, and
  -- of numbers drawn.
  abbrev pub all_shares : List (View V) → ℕ
  all_shares views = sum_by (λ (v : View V). v.share) views

  abbrev pub all_finished : List (View V) → ℕ
  all_finished views = sum_by (λ (v : View V). v.finished) views

  abbrev pub all_times : ℕ → List (View V) → ℕ
  all_times k views = sum_by (λ (v : View V). times k v.drawn) views

  abbrev pub all_lengths : List (View V) → ℕ
  all_lengths views = sum_by (λ (v : View V). length v.drawn) views

  -- A view that represents all seats.
  abbrev pub opening_view : List V → ℕ → View V
  opening_view items workers = record { items = items; workers = workers; drawn = []; share = workers; finished = 0 }

  -- The view of a seat that was joined into another.
  abbrev pub spent : View V
  spent = record { items = []; workers = 0; drawn = []; share = 0; finished = 0 }

  -- A view that represents no seat is spent, and any other has the items.
  abbrev pub Fits : List V → ℕ → View V → Type 0
  Fits items workers v =
      (v.finished ≤ v.share) × (v.share ≡ 0 → v.drawn ≡ []) × (0 < v.share → (v.items ≡ items) × (v.workers ≡ workers))

  -- The rule that holds between any two steps.
  pub record Claimed (items : List V) (workers : ℕ) (s : State (Option V) (View V)) : Type 0 where
    pub one_word : length s.words ≡ 1
    pub room : length items + workers < 2 ^ 64
    pub shares : all_shares s.views ≡ workers
    pub seats : (id : ℕ) (v : View V) → get_elem? s.views id ≡ some v → Fits items workers v
    -- The seats have drawn each number below the word that has an item, once.
    pub numbers : (k : ℕ) → all_times k s.views ≡ once_below (min (word s) (length items)) k
    pub lengths : all_lengths s.views ≡ min (word s) (length items)
    -- An item whose number was not drawn waits in its slot.
    pub waits : (k : ℕ) (x : V) → word s ≤ k → slice_get items k ≡ Some x → get_elem? s.homes k ≡ some (some (Some x))
    pub low : 0 < all_finished s.views → length items ≤ word s
    pub high : word s ≤ length items + all_finished s.views

  -- The answer of a draw: the number found is that of an item, which moves to the seat, or none are
  -- left.
  abbrev pub Told : Me (Option V) (View V) → ℕ → Me (Option V) (View V) → Type 0
  Told me found after =
      (found < length me.0.items → (x : V) × (slice_get me.0.items found ≡ Some x) × (length me.0.drawn < length me.0.items)
      × (after ≡ (record me.0 { drawn = me.0.drawn ++ found ∷ [] }, (found, Some x) ∷ me.1)))
      × (length me.0.items ≤ found → after ≡ (record me.0 { finished = me.0.finished + 1 }, me.1))

  -- The view after one of its seats was split off.
  abbrev pub one_less : View V → View V
  one_less v = record v { share = v.share - 1 }

  abbrev pub one_seat : View V → View V
  one_seat v = record { items = v.items; workers = v.workers; drawn = []; share = 1; finished = 0 }

  -- One view for the seats of both.
  abbrev pub joined : View V → View V → View V
  joined v w = record v { drawn = v.drawn ++ w.drawn; share = v.share + w.share; finished = v.finished + w.finished }

  -- The seat at the board z with this view, as a caller sees it.
  abbrev pub drawer : TableId → View V → Bool → Drawer V
  drawer z v finished = record { claims = record { id = z; items = v.items; workers = v.workers }; numbers = v.drawn; finished = finished }

  abbrev pub claiming : TableId → List V → ℕ → Claiming V
  claiming z items workers = record { id = z; items = items; workers = workers }

  -- The view that represents this seat too.
  abbrev pub joined_seat : View V → Drawer V → View V
  joined_seat v seat = record v { drawn = v.drawn ++ seat.numbers; share = v.share + 1; finished = v.finished + cond seat.finished 1 0 }
