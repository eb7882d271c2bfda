-- What a merge does.
use Rattle.std.specs.Prelude.{◌≡◌, ℕ, List, [], All, map}
use Rattle.oim_json.specs.Sinks.{SinkView, Broke, Wrote}
use Rattle.oim_json.specs.declared.layout.Layout.{Layout}
use Rattle.oim_merge.specs.declared.progress.MergeEnd.{MergeEnd}
use Rattle.oim_merge.specs.declared.progress.MergeEnd.TheVariants.{Complete, Refused, Write}
use Rattle.oim_merge.specs.Histories.{all_of, document, refusals}
use Rattle.oim_ring.specs.declared.item.Item.{Item}
use Rattle.oim_ring.specs.Ends.{DrainView, Ring}
use Rattle.oim_ring.specs.Items.{EndsOnce}
use Rattle.oim_rows.specs.declared.fault.TableFault.{TableFault}

abbrev pub rings_of : List DrainView → List Ring
rings_of drains = map (λ d. d.ring) drains

-- The histories of the drains.
abbrev pub taken_of : List DrainView → List (List Item)
taken_of drains = map (λ d. d.taken) drains

-- Nothing was taken from any drain.
abbrev pub IsFresh : List DrainView → Type 0
IsFresh drains = All (λ d. d.taken ≡ []) drains

-- Each history has exactly one ending, which is its last item.
abbrev pub EndEach : List (List Item) → Type 0
EndEach hs = All EndsOnce hs

-- How writing a text ends for tables with these faults: the text is written without a fault, the
-- text is written with faults, or a write failed before it was whole.
abbrev pub EndsWith : SinkView → SinkView → List ℕ → List TableFault → MergeEnd → Type 0
EndsWith old new text faults Complete = (faults ≡ []) × Wrote old new text
EndsWith old new text faults Refused = (¬ (faults ≡ [])) × Wrote old new text
EndsWith old new text faults (Write fault) = Broke old new text fault

-- The merge of the histories after the head: the faults are those of all refusals, in order, and
-- the text is the document in the given layout.
abbrev pub Merges : Layout → SinkView → SinkView → List ℕ → List (List Item) → List TableFault → MergeEnd → Type 0
Merges layout old new head hs faults end = (faults ≡ refusals (all_of hs)) × EndsWith old new (document layout head hs) faults end
