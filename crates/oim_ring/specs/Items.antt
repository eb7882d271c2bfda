-- The items of one ring, in order.
use Rattle.std.specs.Prelude.{◌≡◌, Bool, true, false, List, [], ◌∷◌, ◌++◌}
use Rattle.oim_ring.specs.declared.item.Item.{Item}
use Rattle.oim_ring.specs.declared.item.Item.TheVariants.{Block, Ending}
use Rattle.oim_ring.specs.declared.item.Ending as Endings

-- Whether no item is an ending.
abbrev pub blocks_only : List Item → Bool
blocks_only [] = true
blocks_only (Block facts ∷ items) = blocks_only items
blocks_only (Ending ending ∷ items) = false

-- The last item is an ending, and no other item is.
pub record EndsOnce (items : List Item) : Type 0 where
  pub before : List Item
  pub ending : Endings.Ending
  pub only : blocks_only before ≡ true
  pub is : items ≡ before ++ Ending ending ∷ []
