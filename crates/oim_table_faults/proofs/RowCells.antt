-- The cells of a row: those that hold facts, and their faults one after another.
use Rattle.std.proofs.Common.{◌≡◌, ◌<◌, ◌++◌, ◌+◌, ◌∙◌, ℕ, zero, suc, List, [], ◌∷◌, Option, arith, length, drop, refl, sym, ap, true, append_assoc, add-zero}
use Rattle.std.specs.Prelude.{slice_index_or}
use Rattle.std.specs.List.{enumerate_from, flat_map, range_with_len}
use Rattle.oim_records.specs.Grids.{Record}
use Rattle.oim_report.specs.Readers.{columns_of, holds_facts, no_column}
use Rattle.oim_report.specs.ReportValue.{ReportValue}
use Rattle.oim_report.specs.declared.data.Column.{Column}
use Rattle.oim_report.specs.declared.data.ColumnKind.{ColumnKind}
use Rattle.oim_report.specs.declared.data.ColumnKind.TheVariants.{Fact, Groups, Comment, Plain}
use Rattle.oim_resolve.specs.Cell.{IsCell, cell_of}
use Rattle.oim_resolve.specs.declared.fact.Row.{Row}
use Rattle.oim_rows.specs.Header.{Header}
use Rattle.oim_rows.specs.RowFacts.{TableHeaderValue, fact_at, is_fact_column, row_of}
use Rattle.oim_rows.specs.declared.fault.TableFault.{TableFault}
use Rattle.oim_table_faults.specs.TableFaults.{alone_or, fault_in}

-- A column that holds facts exists and is of the fact kind.
of_facts : (columns : List Column) (c : ℕ) → is_fact_column columns c ≡ true → (c < length columns) × ((slice_index_or columns c no_column).kind ≡ Fact)
of_facts [] c e = cc e
of_facts (x ∷ xs) zero e = (omega arith, by x.kind e)
  where
    by : (k : ColumnKind) → holds_facts k ≡ true → k ≡ Fact
    by Fact e = refl
    by Groups e = cc e
    by Comment e = cc e
    by Plain e = cc e
of_facts (x ∷ xs) (suc c) e = let rest = of_facts xs c e in (omega arith, rest.1)

-- A cell of a column that holds facts, if the row has a cell for each column.
pub is_cell : (r : ReportValue) (t : ℕ) (row : Row) (c : ℕ) → t < length r.tables → length row.cells ≡ length (columns_of r t) → is_fact_column (columns_of r t) c ≡ true → IsCell (cell_of r t row c)
is_cell r t row c range cells fact =
    let held = of_facts (columns_of r t) c fact in
    record { table = range; column = held.0; cells = cells; fact = held.1 }

-- One more place.
pub range_with_len-more : (a n : ℕ) → range_with_len a (n + 1) ≡ range_with_len a n ++ (a + n) ∷ []
range_with_len-more a zero = rw (add-zero a) refl
range_with_len-more a (suc n) =
    let one : suc n + 1 ≡ suc (n + 1) = omega arith in
    let moved : (a + 1) + n ≡ a + suc n = omega arith in
    rw one (rw (← moved) (ap (λ (t : List ℕ). a ∷ t) (range_with_len-more (a + 1) n)))

-- The faults of the cells from a place of the header on.
abbrev pub faults_from : TableHeaderValue → ℕ → Record → ℕ → Header → List TableFault
faults_from g n r p h = flat_map (λ cell. fault_in (fact_at g.report g.table (row_of g n r) cell.0 cell.1)) (enumerate_from p h)

-- The cell at a place, and those after it.
pub faults_from-next : (g : TableHeaderValue) (n : ℕ) (r : Record) (i : ℕ) (h rest : Header) (o : Option ℕ) (front : List TableFault) (fault : Option TableFault) → drop i h ≡ o ∷ rest
    → alone_or fault [] ≡ fault_in (fact_at g.report g.table (row_of g n r) i o) → front ++ faults_from g n r i (drop i h) ≡ (front ++ alone_or fault []) ++ faults_from g n r (i + 1) rest
faults_from-next g n r i h rest o front fault here is =
    ap (λ t. front ++ faults_from g n r i t) here
    ∙ ap (λ (t : List TableFault). front ++ (t ++ faults_from g n r (i + 1) rest)) (sym is)
    ∙ sym (append_assoc front (alone_or fault []) (faults_from g n r (i + 1) rest))
