use Rattle.std.proofs.Common.{◌≡◌, ◌++◌, map}
use Rattle.serde_json.specs.View.{members_view}
use Rattle.oim_meta.specs.Order.{names_of}
use Rattle.oim_meta.proofs.build.names.Names.of.Given as goal

-- The names so far and the names of the rest are the whole.
abbrev pub invariant-loop-name : goal.invariant-loop-name
invariant-loop-name l = map (λ n. n.now) l.names.items ++ names_of (members_view l.name-iterator) ≡ names_of (members_view l.members.entries)
