use Rattle.std.proofs.Common.{◌≡◌, ◌++◌}
use Rattle.serde_json.specs.View.{members_view}
use Rattle.oim_meta.specs.Members.{map_members}
use Rattle.oim_meta.proofs.build.made.vec_of.Given as goal

-- The list so far and what the rest makes are the whole.
abbrev pub invariant-loop-name : goal.invariant-loop-name
invariant-loop-name g l =
    let of = g.T.FromMember.of in
    l.made.items ++ map_members of (members_view l.name-iterator) ≡ map_members of (members_view l.members.entries)
