use Rattle.std.proofs.Common.{◌≡◌, ◌++◌}
use Rattle.serde_json.specs.View.{members_view}
use Rattle.oim_meta.specs.Walk.{in_members}
use Rattle.oim_meta.specs.WalkReport.{in_prefix}
use Rattle.oim_meta.proofs.document.find_prefixes.Given as goal

-- The findings so far and those of the rest are the whole.
abbrev pub invariant-loop-prefix : goal.invariant-loop-prefix
invariant-loop-prefix l =
    l.findings ++ in_members in_prefix (members_view l.prefix-iterator) ≡ l.fn.findings ++ in_members in_prefix (members_view l.members.entries)
