use Rattle.std.proofs.Common.{◌≡◌, fold, drop}
use Rattle.serde_json.specs.Find.{as_str}
use Rattle.serde_json.specs.View.{items_view, members_view}
use Rattle.oim_meta.specs.Members.{map_items}
use Rattle.oim_meta.specs.Value.{add_place, places_of}
use Rattle.oim_meta.proofs.build.places.places.Given as goal

-- The places so far, continued over the rest, are the whole.
abbrev pub invariant-loop-name : goal.invariant-loop-name
invariant-loop-name l =
    let columns = members_view l.columns.members.now.entries in
    fold (add_place columns) l.made.items (map_items as_str (items_view (drop l.name-index l.names))) ≡ places_of columns (items_view l.names)
