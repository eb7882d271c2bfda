-- The identifier of the fact of a cell: table, row and column.
use Rattle.std.proofs.Common.{◌≡◌, ◌++◌, Bool, true, false, codes, Option, Some, None, Result, Ok, Err, refl, sym, ap, ◌∙◌}
use Rattle.oim_report.specs.Readers.{table_of}
use Rattle.oim_resolve.specs.FactParts.{FactParts as Fact}
use Rattle.oim_resolve.specs.declared.fact.CellFault.{CellFault}
use Rattle.oim_resolve.specs.Cell.{Cell, column}
use Rattle.oim_resolve.specs.Facts.{fact_of, cell_result, id_of}
use Rattle.oim_resolve.proofs.Outcomes.{outcome, cell_result-outcome}

-- The fact of a result, or else the given fact.
abbrev fact_in : Fact → Result (Option Fact) CellFault → Fact
fact_in g (Ok (Some f)) = f
fact_in g (Ok None) = g
fact_in g (Err e) = g

fact_in-outcome : (absent : Bool) (x y z : Option CellFault) (f : Fact) → fact_in f (outcome absent x y z f) ≡ f
unfolding outcome
fact_in-outcome true x y z f = refl
fact_in-outcome false (Some e) y z f = refl
fact_in-outcome false None (Some e) z f = refl
fact_in-outcome false None None (Some e) f = refl
fact_in-outcome false None None None f = refl

-- If a cell has a fact, it is the defined one.
pub result_is_fact : (c : Cell) (f : Fact) → cell_result c ≡ Ok (Some f) → f ≡ fact_of c
result_is_fact c f e =
    sym (ap (fact_in (fact_of c)) e) ∙ ap (fact_in (fact_of c)) (cell_result-outcome c) ∙ fact_in-outcome _ _ _ _ (fact_of c)

fact_of-id : (c : Cell) → (fact_of c).id ≡ id_of c
unfolding fact_of
fact_of-id c = refl

-- Its identifier is the table's, the row's and the column's.
pub fact_id : (c : Cell) (f : Fact) → cell_result c ≡ Ok (Some f) → f.id ≡ (table_of c.report c.table).id ++ codes "." ++ c.row.id ++ codes "." ++ (column c).id
fact_id c f e = ap (λ (g : Fact). g.id) (result_is_fact c f e) ∙ fact_of-id c
