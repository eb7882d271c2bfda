-- The steps of writing a document: how far it is written after each item.
use Rattle.std.specs.Prelude.{◌≡◌, ℕ, List, [], Bool, false}
use Rattle.oim_json.specs.state.Writing.{has_any}
use Rattle.oim_json.specs.Sinks.{SinkView}
use Rattle.oim_json.specs.declared.layout.Layout.{Layout}
use Rattle.oim_ring.specs.declared.item.Item.{Item}
use Rattle.oim_merge.specs.declared.progress.DocumentProgress.{DocumentProgress}
use Rattle.oim_merge.specs.declared.progress.Standing.{Standing}
use Rattle.oim_merge.specs.declared.progress.Standing.TheVariants as standings
use Rattle.oim_merge.specs.Histories.{facts_before, refusals}
use Rattle.oim_merge.specs.Writers.{IsBroken, IsWritten, WriterView, given, writing}

-- The progress of a document after its items.
abbrev pub StandsAt : WriterView → Bool → Standing → Type 0
StandsAt w any standings.Open = (refusals w.items ≡ []) × (any ≡ has_any false (facts_before w.items)) × IsWritten w
StandsAt w any standings.Refused = (¬ (refusals w.items ≡ [])) × IsWritten w
StandsAt w any (standings.Broken fault) = IsBroken w fault

-- The progress advances by these items, whatever it was before.
abbrev pub Advances : DocumentProgress → DocumentProgress → Layout → SinkView → SinkView → List Item → Type 0
Advances old new layout was now items =
    (w : WriterView) → w.layout ≡ layout → w.sink ≡ was → StandsAt w old.any old.standing → StandsAt (given w items now) new.any new.standing

-- The head is written. It is the same in each layout.
abbrev pub Begins : List ℕ → SinkView → SinkView → DocumentProgress → Type 0
Begins head old new progress = (layout : Layout) → StandsAt (writing layout head [] old new) progress.any progress.standing
