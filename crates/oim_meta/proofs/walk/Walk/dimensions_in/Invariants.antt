use Rattle.std.proofs.Common.{◌≡◌, ◌++◌}
use Rattle.serde_json.specs.View.{members_view}
use Rattle.oim_meta.specs.Members.{map_members}
use Rattle.oim_meta.specs.Value.{named_dimension}
use Rattle.oim_meta.specs.state.Places.{part_path}
use Rattle.oim_meta.specs.Walk.{in_dimension, in_members}
use Rattle.oim_meta.specs.state.Walks.{known_to}
use Rattle.oim_meta.proofs.walk.Walk.dimensions_in.Given as goal

-- The parts and findings so far and those of the rest are the whole.
abbrev pub invariant-loop-key : goal.invariant-loop-key
invariant-loop-key l =
    let wrong = in_dimension (known_to l.self) (part_path l.here) in
    (l.made.items ++ map_members named_dimension (members_view l.key-iterator) ≡ map_members named_dimension (members_view l.members.entries))
    × (l.findings ++ in_members wrong (members_view l.key-iterator) ≡ l.fn.findings ++ in_members wrong (members_view l.members.entries))
