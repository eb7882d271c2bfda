use Rattle.std.proofs.Common.{sym, subst, arith, ap, List, ℕ, length}
use Rattle.oim_row.specs.state.Kept.{AddsPlaces, IsKept}
use Rattle.oim_row.specs.declared.cached_answer.CachedAnswer.{CachedAnswer}
use Rattle.oim_row.proofs.KeptLaws.{kept_first}
use Rattle.oim_row.proofs.row_reference.RowReference.new.Goals as goal

pub invariant_of-result : goal.invariant_of-result
invariant_of-result c =
    let new = c.add_places.new.answers.items in
    let adds = subst (λ (xs : List CachedAnswer). AddsPlaces xs new) c.in_ok-answers.ensures.items c.in_ok-add_places.ensures.more in
    subst (λ (t : List ℕ). IsKept c.args.report.now c.args.purpose t 0 new) (sym c.of.ensures)
    (kept_first c.args.report.now c.args.purpose new adds (omega (arith, c.in_ok-add_places.ensures.count, c.places_for-places.ensures, ap length c.in_ok-answers.ensures.items)))
