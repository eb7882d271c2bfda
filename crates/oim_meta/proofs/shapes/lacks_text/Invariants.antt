use Rattle.std.proofs.Common.{◌≡◌, drop}
use Rattle.serde_json.specs.View.{items_view}
use Rattle.oim_meta.specs.Faults.{has_no_text}
use Rattle.oim_meta.proofs.shapes.lacks_text.Given as goal

abbrev pub invariant-loop-item : goal.invariant-loop-item
invariant-loop-item l = has_no_text (items_view l.items) ≡ has_no_text (items_view (drop l.item-index l.items))
