use Rattle.std.proofs.Common.{inl, inr, sym, subst}
use Rattle.oim_resolve.specs.Order.{HasNamesInOrder}
use Rattle.oim_resolve.specs.ProgramOrigins.{seen_cell}
use Rattle.oim_resolve.proofs.Ascending.{names_in_order}
use Rattle.oim_resolve.proofs.cell.resolve.Goals as goal

pub returns-clause-names : goal.returns-clause-names
returns-clause-names c =
    elim c.fact_at.ensures.result [
      | inl e ↦ subst HasNamesInOrder (sym e) tt
      | inr e ↦ subst HasNamesInOrder (sym e) (names_in_order (seen_cell c.at-cell.result))
    ]
