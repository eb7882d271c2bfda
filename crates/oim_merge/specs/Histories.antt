-- The texts of histories. A history is the list of items taken from one ring: blocks of facts, then
-- an ending. Sources: xBRL-CSV 1.0 (a report is the facts of its tables), xBRL-JSON 1.0 (the
-- document).
use Rattle.std.specs.Prelude.{ℕ, List, [], ◌∷◌, ◌++◌}
use Rattle.oim_json.specs.Document.{tail_text, text_after}
use Rattle.oim_json.specs.declared.layout.Layout.{Layout}
use Rattle.oim_resolve.specs.FactParts.{FactParts as Fact}
use Rattle.oim_ring.specs.declared.item.Ending.TheVariants.{Closed, Refused}
use Rattle.oim_ring.specs.declared.item.Item.{Item}
use Rattle.oim_ring.specs.declared.item.Item.TheVariants.{Block, Ending}
use Rattle.oim_rows.specs.declared.fault.TableFault.{TableFault}

-- The items of all histories, in order.
abbrev pub all_of : List (List Item) → List Item
all_of [] = []
all_of (h ∷ hs) = h ++ all_of hs

-- The faults of the refused endings, in order.
abbrev pub refusals : List Item → List TableFault
refusals [] = []
refusals (Block facts ∷ items) = refusals items
refusals (Ending Closed ∷ items) = refusals items
refusals (Ending (Refused fault) ∷ items) = fault ∷ refusals items

-- The facts of the blocks before the first refusal.
abbrev pub facts_before : List Item → List Fact
facts_before [] = []
facts_before (Block facts ∷ items) = facts ++ facts_before items
facts_before (Ending Closed ∷ items) = facts_before items
facts_before (Ending (Refused fault) ∷ items) = []

-- The tail, which is written exactly if nothing is refused.
abbrev pub tail_for : Layout → List TableFault → List ℕ
tail_for layout [] = tail_text layout
tail_for layout (fault ∷ faults) = []

-- A document up to the end of these items.
abbrev pub unfinished : Layout → List ℕ → List Item → List ℕ
unfinished layout head items = text_after layout head (facts_before items)

-- The head, the facts before the first refusal, and the tail exactly if all endings are Closed.
abbrev pub document : Layout → List ℕ → List (List Item) → List ℕ
document layout head hs = unfinished layout head (all_of hs) ++ tail_for layout (refusals (all_of hs))
