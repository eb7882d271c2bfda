use Rattle.std.proofs.Common.{◌≡◌, ◌++◌}
use Rattle.std.specs.Vec.Iter.{into_iter_items}
use Rattle.serde_json.specs.View.{items_view}
use Rattle.oim_meta.specs.Members.{map_items, text_of}
use Rattle.oim_meta.proofs.build.made.texts.Given as goal

abbrev pub invariant-loop-item : goal.invariant-loop-item
invariant-loop-item l = l.made.items ++ map_items text_of (items_view (into_iter_items l.item-iterator)) ≡ map_items text_of (items_view l.fn.items.items)
