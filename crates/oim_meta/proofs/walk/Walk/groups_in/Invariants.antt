use Rattle.std.proofs.Common.{◌≡◌, ◌++◌}
use Rattle.serde_json.specs.View.{members_view}
use Rattle.oim_meta.specs.Members.{map_members}
use Rattle.oim_meta.specs.Value.{named_level}
use Rattle.oim_meta.specs.Walk.{in_group, in_members}
use Rattle.oim_meta.specs.state.Walks.{known_to}
use Rattle.oim_meta.proofs.walk.Walk.groups_in.Given as goal

-- The parts and findings so far and those of the rest are the whole.
abbrev pub invariant-loop-name : goal.invariant-loop-name
invariant-loop-name l =
    let wrong = in_group (known_to l.self) l.column.0.now l.column.1.now in
    (l.made.items ++ map_members named_level (members_view l.name-iterator) ≡ map_members named_level (members_view l.groups.entries))
    × (l.findings ++ in_members wrong (members_view l.name-iterator) ≡ l.fn.findings ++ in_members wrong (members_view l.groups.entries))
