use Rattle.std.proofs.Common.{◌≡◌, List, ℕ, rules, ap, sym, subst, ◌∙◌, Ok, Err}
use Rattle.std.specs.Borrow.{Bor}
use Rattle.std.specs.List.{insert}
use Rattle.std.specs.Cmp.Lexicographic.{slice_cmp}
use Rattle.std.specs.Ordering.{nat_cmp}
use Rattle.std.proofs.lemmas.Fn.{always_returns_same}
use Rattle.oim_resolve.specs.Order.{IsAscending}
use Rattle.oim_resolve.specs.ProgramCell.{held}
use Rattle.oim_resolve.specs.Written.{put_name}
use Rattle.oim_resolve.proofs.Names.{searched}
use Rattle.oim_resolve.proofs.levels.put_name.Goals as goal

pub returns-in-Ok : goal.returns-in-Ok
returns-in-Ok c =
    let by_name = c.in-Ok.ensures.position (λ k. slice_cmp nat_cmp k.now c.args.name.now) (always_returns_same _ _ _ (λ a r h called. search rules)) in
    let rise = subst (λ (xs : List (Bor (List ℕ))). IsAscending (held xs)) (sym c.as_slice-2.ensures.value) c.requires in
    subst (λ (xs : List (Bor (List ℕ))). held xs ≡ put_name (held xs) c.args.name.now) c.as_slice-2.ensures.value
    (searched c.as_slice-2.result.now c.args.name rise (Ok c.in-Ok.field-0) c.in-Ok.ensures.bound by_name)

pub returns-in_ok-insert-in-Err : goal.returns-in_ok-insert-in-Err
returns-in_ok-insert-in-Err c =
    let by_name = c.in-Err.ensures.position (λ k. slice_cmp nat_cmp k.now c.args.name.now) (always_returns_same _ _ _ (λ a r h called. search rules)) in
    let rise = subst (λ (xs : List (Bor (List ℕ))). IsAscending (held xs)) (sym c.as_slice-2.ensures.value) c.requires in
    ap held c.in_ok-insert-in-Err.ensures.items
    ∙ subst (λ (xs : List (Bor (List ℕ))). held (insert xs c.in-Err.place c.args.name) ≡ put_name (held xs) c.args.name.now) c.as_slice-2.ensures.value
    (searched c.as_slice-2.result.now c.args.name rise (Err c.in-Err.place) c.in-Err.ensures.bound by_name)
