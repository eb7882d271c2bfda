use Rattle.std.proofs.Common.{◌≡◌, ◌++◌, codes}
use Rattle.serde_json.specs.View.{view, members_view}
use Rattle.oim_meta.specs.Members.{section}
use Rattle.oim_meta.specs.Walk.{in_members}
use Rattle.oim_meta.specs.WalkTables.{in_given}
use Rattle.oim_meta.proofs.walk.Walk.find_given.Given as goal

-- The findings so far and those of the rest are the whole.
abbrev pub invariant-loop-name : goal.invariant-loop-name
invariant-loop-name l =
    let wrong = in_given l.self.given.now in
    l.findings ++ in_members wrong (members_view l.name-iterator) ≡ l.fn.findings ++ in_members wrong (section (codes "parameters") (view l.report))
