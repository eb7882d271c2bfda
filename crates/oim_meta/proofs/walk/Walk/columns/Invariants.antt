use Rattle.std.proofs.Common.{◌≡◌, ◌++◌}
use Rattle.serde_json.specs.View.{members_view}
use Rattle.oim_meta.specs.Members.{map_members}
use Rattle.oim_meta.specs.Value.{column_of}
use Rattle.oim_meta.specs.Walk.{in_members}
use Rattle.oim_meta.specs.state.Walks.{in_column_of, members_of}
use Rattle.oim_meta.proofs.walk.Walk.columns.Given as goal

-- The parts and findings so far and those of the rest are the whole.
abbrev pub invariant-loop-name : goal.invariant-loop-name
invariant-loop-name l =
    let all = members_of l.columns.names in
    let wrong = in_column_of l.self l.columns l.template in
    (l.made.items ++ map_members (column_of all) (members_view l.name-iterator) ≡ map_members (column_of all) all)
    × (l.findings ++ in_members wrong (members_view l.name-iterator) ≡ l.fn.findings ++ in_members wrong all)
