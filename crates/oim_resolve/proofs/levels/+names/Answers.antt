use Rattle.std.proofs.Common.{◌≡◌, List, ℕ, IfOk, ap, reverse, subst, ◌∙◌}
use Rattle.oim_resolve.specs.ProgramCell.{held}
use Rattle.oim_resolve.proofs.Ascending.{ascending_names}
use Rattle.oim_resolve.proofs.Merges.{names_parted}
use Rattle.oim_resolve.proofs.levels.+names.Goals as goal

pub merged-requires-clause-first : goal.merged-requires-clause-first
merged-requires-clause-first t c = ascending_names (held c.as_slice.result.now) (reverse (held c.split_at.result.0.now)) (ap held c.as_slice.ensures.value ∙ c.in_ok-first.ensures)

pub merged-requires-clause-second : goal.merged-requires-clause-second
merged-requires-clause-second t c = ascending_names (held c.as_slice-2.result.now) (reverse (held c.split_at.result.1.now)) (ap held c.as_slice-2.ensures.value ∙ c.in_ok-second.ensures)

pub returns : goal.returns
returns t c =
    let first = ap held c.as_slice.ensures.value ∙ c.in_ok-first.ensures in
    let second = ap held c.as_slice-2.ensures.value ∙ c.in_ok-second.ensures in
    subst (λ (ns : List (List ℕ)). IfOk c.merged.result (λ v. held v.items ≡ ns))
    (names_parted c.args.levels.now c.split_at.result.0.now c.split_at.result.1.now _ c.as_slice.result.now c.as_slice-2.result.now c.split_at.ensures.front c.split_at.ensures.back first second) c.merged.ensures
