-- The definitions of this crate, executed on worked cases.
use Rattle.std.specs.Prelude.{Ok, Err}
use Rattle.std.proofs.Common.{◌≡◌, ◌∷◌, [], ◌++◌, List, None, true, false, codes, arith, refl}
use Rattle.oim_resolve.specs.FactParts.{FactParts as Fact}
use Rattle.oim_ring.specs.Closing.{Closes, RefusesClose}
use Rattle.oim_ring.specs.Ends.{FeedView, Ring}
use Rattle.oim_ring.specs.FaultNames.{name_of, number_of}
use Rattle.oim_ring.specs.Items.{blocks_only, EndsOnce}
use Rattle.oim_ring.specs.Limits.{IsRingSize}
use Rattle.oim_ring.specs.declared.feed.CloseFault.TheVariants.{Full, Lost}
use Rattle.oim_ring.specs.declared.item.Ending as Endings
use Rattle.oim_ring.specs.declared.item.Ending.TheVariants.{Closed, Refused}
use Rattle.oim_ring.specs.declared.item.Item.{Item}
use Rattle.oim_ring.specs.declared.item.Item.TheVariants.{Block, Ending}
use Rattle.oim_resolve.specs.declared.fact.CellFault.TheVariants.{BadNumber}
use Rattle.oim_rows.specs.declared.fault.TableFault.{TableFault}
use Rattle.oim_rows.specs.declared.fault.TableKind.TheVariants as kind

abbrev cash : Fact
cash = record { id = codes "t1.r_1.cash"; value = None; decimals = None; dimensions = [] }

-- A block of one fact.
abbrev block : Item
block = Block (cash ∷ [])

abbrev bad_number : TableFault
bad_number = record { table = 0; row = 2; column = 1; kind = kind.Cell BadNumber }

nothing_sent : blocks_only [] ≡ true
nothing_sent = refl

two_blocks : blocks_only (block ∷ block ∷ []) ≡ true
two_blocks = refl

a_table_closed : blocks_only (block ∷ Ending Closed ∷ []) ≡ false
a_table_closed = refl

a_table_refused : blocks_only (Ending (Refused bad_number) ∷ []) ≡ false
a_table_refused = refl

whole_table : EndsOnce (block ∷ block ∷ Ending Closed ∷ [])
whole_table = record { before = block ∷ block ∷ []; ending = Closed; only = refl; is = refl }

empty_table : EndsOnce (Ending Closed ∷ [])
empty_table = record { before = []; ending = Closed; only = refl; is = refl }

refused_table : EndsOnce (block ∷ Ending (Refused bad_number) ∷ [])
refused_table = record { before = block ∷ []; ending = Refused bad_number; only = refl; is = refl }

-- A list without an ending has not ended.
no_items : (before : List Item) (last : Endings.Ending) → [] ≡ before ++ Ending last ∷ [] → ⊥
no_items [] last is = cc
no_items (item ∷ more) last is = cc

nothing_has_not_ended : EndsOnce [] → ⊥
nothing_has_not_ended once = no_items once.before once.ending once.is

one_block : (before : List Item) (last : Endings.Ending) → block ∷ [] ≡ before ++ Ending last ∷ [] → ⊥
one_block [] last is = cc
one_block (item ∷ []) last is = cc
one_block (item ∷ other ∷ more) last is = cc

blocks_have_not_ended : EndsOnce (block ∷ []) → ⊥
blocks_have_not_ended once = one_block once.before once.ending once.is

-- A list that continues after an ending has not ended.
goes_on : (before : List Item) (last : Endings.Ending) → blocks_only before ≡ true → Ending Closed ∷ block ∷ [] ≡ before ++ Ending last ∷ [] → ⊥
goes_on [] last only is = cc
goes_on (Block facts ∷ more) last only is = cc
goes_on (Ending other ∷ more) last only is = cc

nothing_after_an_ending : EndsOnce (Ending Closed ∷ block ∷ []) → ⊥
nothing_after_an_ending once = goes_on once.before once.ending once.only once.is

module _ (ring : Ring) where
  -- A feed with room for one more item.
  abbrev with_room : FeedView
  with_room = record { ring = ring; size = 2; sent = block ∷ [] }

  abbrev without_room : FeedView
  without_room = record { ring = ring; size = 1; sent = block ∷ [] }

  closes : Closes with_room (Refused bad_number) (Ok (record { ring = ring; sent = block ∷ Ending (Refused bad_number) ∷ [] }))
  closes = (refl, refl, refl)

  closes_as_asked : Closes with_room (Refused bad_number) (Ok (record { ring = ring; sent = block ∷ Ending Closed ∷ [] })) → ⊥
  closes_as_asked c = let e = c.1 in cc

  loses_no_block : Closes with_room Closed (Ok (record { ring = ring; sent = Ending Closed ∷ [] })) → ⊥
  loses_no_block c = let e = c.1 in cc

  is_full : RefusesClose without_room Closed (Full without_room Closed)
  is_full = (refl, refl, λ lt. omega arith)

  is_not_full : RefusesClose with_room Closed (Full with_room Closed) → ⊥
  is_not_full c = c.2 (omega arith)

  -- `Full` gives the feed and the ending back unchanged.
  refused : Closes without_room Closed (Err (Full without_room Closed))
  refused = (refl, refl, λ lt. omega arith)

  another_feed : RefusesClose without_room Closed (Full with_room Closed) → ⊥
  another_feed c = let e : with_room.size ≡ without_room.size = λ i. (c.0 i).size in omega (arith, e)

  another_ending : RefusesClose without_room Closed (Full without_room (Refused bad_number)) → ⊥
  another_ending c = let e = c.1 in cc

  -- `Lost` has no condition.
  lost : Closes with_room Closed (Err Lost)
  lost = tt

  -- The token is of the same ring.
  same_ring : (other : Ring) → Closes with_room Closed (Ok (record { ring = other; sent = block ∷ Ending Closed ∷ [] })) → other ≡ ring
  same_ring other c = c.0

  -- A feed that has ended cannot be closed again.
  abbrev ended : FeedView
  ended = record { ring = ring; size = 2; sent = Ending Closed ∷ [] }

  closes_once : Closes ended Closed (Ok (record { ring = ring; sent = Ending Closed ∷ Ending Closed ∷ [] })) → ⊥
  closes_once c = let e = c.2 in cc

  -- The faults' numbers and names (docs/FAULTS.md).
  full_fault : (number_of (Full with_room Closed) ≡ 65) × (name_of (Full with_room Closed) ≡ codes "Full")
  full_fault = (refl, refl)

lost_fault : (number_of Lost ≡ 66) × (name_of Lost ≡ codes "Lost")
lost_fault = (refl, refl)

-- The sizes of a ring: 1 to 65,536.
least_and_greatest_size : IsRingSize 1 × IsRingSize 65_536
least_and_greatest_size = ((omega arith, omega arith), (omega arith, omega arith))

no_size : IsRingSize 0 → ⊥
no_size size = omega (arith, size.0)

too_large_size : IsRingSize 65_537 → ⊥
too_large_size size = omega (arith, size.1)
