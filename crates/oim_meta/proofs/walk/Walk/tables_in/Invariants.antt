use Rattle.std.proofs.Common.{◌≡◌, ◌++◌}
use Rattle.serde_json.specs.View.{members_view}
use Rattle.oim_meta.specs.Members.{map_members}
use Rattle.oim_meta.specs.Value.{table_of}
use Rattle.oim_meta.specs.Walk.{in_members}
use Rattle.oim_meta.specs.WalkTables.{in_table}
use Rattle.oim_meta.specs.state.Walks.{members_of, value_of}
use Rattle.oim_meta.proofs.walk.Walk.tables_in.Given as goal

-- The parts and findings so far and those of the rest are the whole.
abbrev pub invariant-loop-name : goal.invariant-loop-name
invariant-loop-name l =
    let of = table_of (members_of l.templates.names) in
    let wrong = in_table (value_of l.templates) in
    (l.made.items ++ map_members of (members_view l.name-iterator) ≡ map_members of (members_view l.tables.entries))
    × (l.findings ++ in_members wrong (members_view l.name-iterator) ≡ l.fn.findings ++ in_members wrong (members_view l.tables.entries))
