use Rattle.std.proofs.Common.{◌≡◌, ℕ, List, Option, Some, None, IfOk, reverse, refl, sym, ap, subst, ◌∙◌}
use Rattle.std.specs.Borrow.{Bor}
use Rattle.std.specs.Option.{option_map}
use Rattle.oim_report.specs.declared.data.Level.{Level}
use Rattle.oim_resolve.specs.Origins.{Dimension, Origin}
use Rattle.oim_resolve.specs.ProgramCell.{held}
use Rattle.oim_resolve.specs.ProgramOrigins.{seen_cell, seen_origin}
use Rattle.oim_resolve.specs.Written.{names}
use Rattle.oim_resolve.specs.state.ProgramCell.{cell_at}
use Rattle.oim_resolve.proofs.Steps.{at_rest}
use Rattle.oim_resolve.proofs.cell.origins.rest_origin.Goals as goal

pub returns-in-Some : goal.returns-in-Some
returns-in-Some c =
    let same = ap held c.as_slice-2.ensures.value ∙ c.in_ok-names.ensures ∙ ap (λ (ls : List (Bor Level)). names (reverse (held ls))) c.as_slice.ensures.value ∙ ap names c.in_ok-levels.ensures.met in
    at_rest c.args.fault (seen_cell c.args.cell) c.args.kind (cell_at c.in_ok-dimensions.dimensions.place) (held c.as_slice-2.result.now) (Some (Dimension c.in-Some.name.now)) _
    (ap cell_at c.in_ok-dimensions.ensures.place ∙ c.requires) same
    (sym (ap (option_map (λ (n : Bor (List ℕ)). Dimension n.now)) c.in-Some.is) ∙ c.in_ok-name.ensures) refl

pub returns : goal.returns
returns c =
    let same = ap held c.as_slice-2.ensures.value ∙ c.in_ok-names.ensures ∙ ap (λ (ls : List (Bor Level)). names (reverse (held ls))) c.as_slice.ensures.value ∙ ap names c.in_ok-levels.ensures.met in
    subst (λ (t : Option Origin). IfOk c.other_origin.result (λ o. option_map seen_origin o ≡ t))
    (at_rest c.args.fault (seen_cell c.args.cell) c.args.kind (cell_at c.in_ok-dimensions.dimensions.place) (held c.as_slice-2.result.now) None _
    (ap cell_at c.in_ok-dimensions.ensures.place ∙ c.requires) same
    (sym (ap (option_map (λ (n : Bor (List ℕ)). Dimension n.now)) c.in-None.is) ∙ c.in_ok-name.ensures) refl) c.other_origin.ensures
