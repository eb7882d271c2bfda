-- The cells from which a row is resolved.
use Rattle.std.proofs.Common.{◌≡◌, ◌<◌, ℕ, zero, suc, List, [], ◌∷◌, arith, length, refl, true}
use Rattle.std.specs.Prelude.{slice_index_or}
use Rattle.oim_report.specs.Readers.{columns_of, holds_facts, no_column}
use Rattle.oim_report.specs.ReportValue.{ReportValue}
use Rattle.oim_report.specs.declared.data.Column.{Column}
use Rattle.oim_report.specs.declared.data.ColumnKind.{ColumnKind}
use Rattle.oim_report.specs.declared.data.ColumnKind.TheVariants.{Fact, Groups, Comment, Plain}
use Rattle.oim_resolve.specs.Cell.{IsCell, cell_of}
use Rattle.oim_resolve.specs.declared.fact.Row.{Row}
use Rattle.oim_rows.specs.RowFacts.{is_fact_column}

-- A column that holds facts exists and is of the fact kind.
of_facts : (columns : List Column) (c : ℕ) → is_fact_column columns c ≡ true → (c < length columns) × ((slice_index_or columns c no_column).kind ≡ Fact)
of_facts [] c e = cc e
of_facts (x ∷ xs) zero e = (omega arith, by x.kind e)
  where
    by : (k : ColumnKind) → holds_facts k ≡ true → k ≡ Fact
    by Fact e = refl
    by Groups e = cc e
    by Comment e = cc e
    by Plain e = cc e
of_facts (x ∷ xs) (suc c) e = let rest = of_facts xs c e in (omega arith, rest.1)

-- A cell of a column that holds facts, if the row has a cell for each column.
pub is_cell : (r : ReportValue) (t : ℕ) (row : Row) (c : ℕ) → t < length r.tables → length row.cells ≡ length (columns_of r t) → is_fact_column (columns_of r t) c ≡ true → IsCell (cell_of r t row c)
is_cell r t row c range cells fact =
    let held = of_facts (columns_of r t) c fact in
    record { table = range; column = held.0; cells = cells; fact = held.1 }
