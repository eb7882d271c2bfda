use Rattle.std.proofs.Common.{List, ℕ, ◌∙◌, sym, subst}
use Rattle.std.proofs.lemmas.Slice.Eq.{bytes_eq-Decides}
use Rattle.oim_cells.specs.Cells.{meaning_of}
use Rattle.oim_fast.specs.state.CellValues.{IsValue}
use Rattle.oim_fast.proofs.frame.value.rare_value.Goals as goal

pub returns-then-eq : goal.returns-then-eq
returns-then-eq c =
    let report = c.args.row.now.header.report in
    let is = (bytes_eq-Decides _ _).0 (sym c.eq.ensures ∙ c.if-eq.true) in
    subst (λ (t : List ℕ). IsValue report c.args.kind (meaning_of t) c.nil_value.result) (sym is) (c.nil_value.ensures report c.args.kind)
