-- The ends of a ring, as contracts see them.
use Rattle.std.specs.Prelude.{ℕ, List}
use denote.RawPtr.{Ptr}
use Rattle.rtrb.specs.Shared.{Names}
use Rattle.oim_ring.specs.declared.item.Item.{Item}

-- The identity of a ring.
abbrev pub Ring : Type 0
Ring = Ptr × Ptr × Names

pub record FeedView : Type 0 where
  pub ring : Ring
  pub size : ℕ
  pub sent : List Item

pub record DrainView : Type 0 where
  pub ring : Ring
  pub taken : List Item

pub record ClosedView : Type 0 where
  pub ring : Ring
  pub sent : List Item
