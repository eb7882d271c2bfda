-- A prefix of a sent list that has an ending is the whole list.
use Rattle.std.specs.Prelude.{◌≡◌, true, false, List, [], ◌∷◌, ◌++◌}
use Rattle.std.proofs.Common.{refl, sym, ap, ◌∙◌}
use Rattle.oim_resolve.specs.FactParts.{FactParts as Fact}
use Rattle.oim_ring.specs.declared.item.Ending.{Ending}
use Rattle.oim_ring.specs.declared.item.Item.{Item}
use Rattle.oim_ring.specs.declared.item.Item.TheVariants as items
use Rattle.oim_ring.specs.Items.{blocks_only, EndsOnce}

nothing_after : (e : Ending) (x : Item) (taken known : List Item) → (x ∷ taken) ++ known ≡ items.Ending e ∷ [] → x ∷ taken ≡ items.Ending e ∷ []
nothing_after e x [] known is = cc
nothing_after e x (y ∷ taken) known is = absurd (cc)

-- If only the last item of a list is an ending, a prefix with an ending is the whole list.
pub whole : (before taken known : List Item) (e : Ending) → blocks_only before ≡ true → blocks_only taken ≡ false
    → taken ++ known ≡ before ++ items.Ending e ∷ [] → taken ≡ before ++ items.Ending e ∷ []
whole before [] known e only ended is = absurd (cc)
whole [] (x ∷ taken) known e only ended is = nothing_after e x taken known is
whole (items.Ending f ∷ before) (x ∷ taken) known e only ended is = absurd (cc)
whole (items.Block b ∷ before) (items.Ending f ∷ taken) known e only ended is = absurd (cc)
whole (items.Block b ∷ before) (items.Block c ∷ taken) known e only ended is =
    let rest : taken ++ known ≡ before ++ items.Ending e ∷ [] = cc in
    let same : c ≡ b = cc in
    let more = whole before taken known e only ended rest in
    cc

pub all_taken : (taken known sent : List Item) → EndsOnce sent → blocks_only taken ≡ false → taken ++ known ≡ sent → taken ≡ sent
all_taken taken known sent once ended is = whole once.before taken known once.ending once.only ended (is ∙ once.is) ∙ sym once.is

-- A list of blocks with one more block is a list of blocks.
pub blocks_more : (sent : List Item) (facts : List Fact) → blocks_only sent ≡ true → blocks_only (sent ++ items.Block facts ∷ []) ≡ true
blocks_more [] facts only = refl
blocks_more (items.Block b ∷ rest) facts only = blocks_more rest facts only
blocks_more (items.Ending e ∷ rest) facts only = only

-- A list whose last item is an ending is not a list of blocks only.
pub ended : (taken : List Item) (e : Ending) → blocks_only (taken ++ items.Ending e ∷ []) ≡ false
ended [] e = refl
ended (items.Block facts ∷ rest) e = ended rest e
ended (items.Ending f ∷ rest) e = refl

pub once_ended : (taken : List Item) → EndsOnce taken → blocks_only taken ≡ false
once_ended taken once = ap blocks_only once.is ∙ ended once.before once.ending
