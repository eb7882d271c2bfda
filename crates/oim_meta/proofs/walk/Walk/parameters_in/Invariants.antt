use Rattle.std.proofs.Common.{◌≡◌, ◌++◌}
use Rattle.serde_json.specs.View.{members_view}
use Rattle.oim_meta.specs.Members.{map_members}
use Rattle.oim_meta.specs.state.Places.{part_path}
use Rattle.oim_meta.specs.Value.{named_text}
use Rattle.oim_meta.specs.Walk.{in_members}
use Rattle.oim_meta.specs.WalkTables.{in_parameter}
use Rattle.oim_meta.proofs.walk.Walk.parameters_in.Given as goal

-- The parts and findings so far and those of the rest are the whole.
abbrev pub invariant-loop-name : goal.invariant-loop-name
invariant-loop-name l =
    let wrong = in_parameter (part_path l.here) in
    (l.made.items ++ map_members named_text (members_view l.name-iterator) ≡ map_members named_text (members_view l.members.entries))
    × (l.findings ++ in_members wrong (members_view l.name-iterator) ≡ l.fn.findings ++ in_members wrong (members_view l.members.entries))
