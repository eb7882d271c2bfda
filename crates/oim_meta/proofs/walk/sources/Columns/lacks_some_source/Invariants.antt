use Rattle.std.proofs.Common.{◌≡◌, drop}
use Rattle.serde_json.specs.View.{view, items_view}
use Rattle.oim_meta.specs.Members.{any_item}
use Rattle.oim_meta.specs.UnknownColumn.{is_unknown_source}
use Rattle.oim_meta.proofs.walk.sources.Columns.lacks_some_source.Given as goal

abbrev pub invariant-loop-name : goal.invariant-loop-name
invariant-loop-name l =
    let unknown = is_unknown_source (view l.self.value.now) in
    any_item unknown (items_view l.names) ≡ any_item unknown (items_view (drop l.name-index l.names))
