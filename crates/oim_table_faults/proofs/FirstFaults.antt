-- The first of a table's faults, and rows that have none.
use Rattle.std.proofs.Common.{◌≡◌, ◌∙◌, ◌++◌, ◌+◌, ℕ, Bool, false, List, [], ◌∷◌, Option, Some, None, Result, Ok, Err, refl, sym, ap, map}
use Rattle.std.specs.Prelude.{◌↔◌, if◌then◌else◌, is_none, nat_lt}
use Rattle.std.specs.List.{enumerate_from, flat_map}
use Rattle.oim_records.specs.Grids.{Field, Record, grid}
use Rattle.oim_fast.specs.Facts.{WritesFacts}
use Rattle.oim_report.specs.ReportValue.{ReportValue}
use Rattle.oim_resolve.specs.FactParts.{FactParts as Fact}
use Rattle.oim_row.specs.Rows.{RowValue}
use Rattle.oim_rows.specs.Header.{header_fault}
use Rattle.oim_rows.specs.RowFacts.{TableHeaderValue, all_or_first, checked, fact_at, facts_from, id_place_of, ids_after, in_front, row_fault, row_of, row_result}
use Rattle.oim_rows.specs.Streams.{no_file, row_in_front, stream_from, stream_of, table_header_of, table_stream}
use Rattle.oim_rows.specs.declared.fault.TableFault.{TableFault}
use Rattle.oim_table_faults.proofs.OwnFaults.{none_apart, within_limit}
use Rattle.oim_table_faults.specs.Laws.{first_in}
use Rattle.oim_table_faults.specs.TableFaults.{alone_or, bad_rows, cell_faults, fault_in, faults_of_row, faults_of_rows, file_faults, ids_up_to, row_before, table_faults}

-- A ROW

abbrev err_of : {A : Type 0} → Result A TableFault → Option TableFault
err_of (Ok given) = None
err_of (Err e) = Some e

err_behind : (o : Option Fact) (r : Result (List Fact) TableFault) → err_of (in_front (Ok o) r) ≡ err_of r
err_behind None r = refl
err_behind (Some f) (Ok facts) = refl
err_behind (Some f) (Err e) = refl

first_cell : (f : ℕ × Option ℕ → Result (Option Fact) TableFault) (cells : List (ℕ × Option ℕ)) → first_in (flat_map (λ cell. fault_in (f cell)) cells) ≡ err_of (all_or_first (map f cells))
first_cell f [] = refl
first_cell f (c ∷ cells) = by (f c) (first_cell f cells)
  where
    by : (a : Result (Option Fact) TableFault) → first_in (flat_map (λ cell. fault_in (f cell)) cells) ≡ err_of (all_or_first (map f cells))
        → first_in (fault_in a ++ flat_map (λ cell. fault_in (f cell)) cells) ≡ err_of (in_front a (all_or_first (map f cells)))
    by (Err e) more = refl
    by (Ok o) more = more ∙ sym (err_behind o (all_or_first (map f cells)))

pub first_of_row : (g : TableHeaderValue) (n : ℕ) (ids : List Field) (r : Record) → first_in (faults_of_row g n ids r) ≡ err_of (row_result g n ids r)
first_of_row g n ids r = by (row_fault g n ids r) (first_cell (λ cell. fact_at g.report g.table (row_of g n r) cell.0 cell.1) (enumerate_from 0 g.columns))
  where
    by : (o : Option TableFault) → first_in (cell_faults g n r) ≡ err_of (facts_from g.report g.table (row_of g n r) 0 g.columns)
        → first_in (alone_or o (cell_faults g n r)) ≡ err_of (checked o (facts_from g.report g.table (row_of g n r) 0 g.columns))
    by None e = e
    by (Some x) e = refl

none_first : (es : List TableFault) → first_in es ≡ None → es ≡ []
none_first [] e = refl
none_first (x ∷ es) e = cc e

pub good_has_none : (g : TableHeaderValue) (n : ℕ) (ids : List Field) (r : Record) (facts : List Fact) → row_result g n ids r ≡ Ok facts → faults_of_row g n ids r ≡ []
good_has_none g n ids r facts e = none_first (faults_of_row g n ids r) (first_of_row g n ids r ∙ ap err_of e)

pub none_is_good : (g : TableHeaderValue) (n : ℕ) (ids : List Field) (r : Record) → faults_of_row g n ids r ≡ [] → (facts : List Fact) × (row_result g n ids r ≡ Ok facts)
none_is_good g n ids r e = by (row_result g n ids r) refl
  where
    by : (a : Result (List Fact) TableFault) → row_result g n ids r ≡ a → (facts : List Fact) × (row_result g n ids r ≡ Ok facts)
    by (Ok facts) is = (facts, is)
    by (Err x) is = let never : None ≡ Some x = sym (ap first_in e) ∙ first_of_row g n ids r ∙ ap err_of is in absurd (cc never)

-- A row that the fast way wrote has no fault in its cells.
pub written_has_none : (x : RowValue) (old new noted notes : List ℕ) → WritesFacts x old new noted notes → cell_faults x.header x.number x.fields ≡ []
written_has_none x old new noted notes w =
    none_first (cell_faults x.header x.number x.fields)
    (first_cell (λ cell. fact_at x.header.report x.header.table (row_of x.header x.number x.fields) cell.0 cell.1) (enumerate_from 0 x.header.columns) ∙ ap err_of w.are)

-- A GOOD ROW ADDS NOTHING

own_none : (o : Option TableFault) (cells : Result (List Fact) TableFault) (facts : List Fact) → checked o cells ≡ Ok facts → o ≡ None
own_none None cells facts e = refl
own_none (Some x) cells facts e = cc e

pub ids_with : (g : TableHeaderValue) (n : ℕ) (ids : List Field) (r : Record) → row_fault g n [] r ≡ None → ids_up_to g n ids r ≡ ids_after (id_place_of g) ids r
ids_with g n ids r none = ap (λ (o : Option TableFault). if is_none o then ids_after (id_place_of g) ids r else ids) none

pub bad_rows-step : (g : TableHeaderValue) (n : ℕ) (ids more : List Field) (r : Record) (rows : List Record) (es : List TableFault) (past : Bool) → faults_of_row g n ids r ≡ es → nat_lt g.limit n ≡ past
    → ids_up_to g n ids r ≡ more → bad_rows g n ids (r ∷ rows) ≡ row_before es (if past then [] else bad_rows g (n + 1) more rows)
unfolding bad_rows
bad_rows-step g n ids more r rows es past faults limit kept =
    ap (λ fs. row_before fs (if nat_lt g.limit n then [] else bad_rows g (n + 1) (ids_up_to g n ids r) rows)) faults
    ∙ ap (λ (b : Bool). row_before es (if b then [] else bad_rows g (n + 1) (ids_up_to g n ids r) rows)) limit
    ∙ ap (λ is. row_before es (if past then [] else bad_rows g (n + 1) is rows)) kept

pub good_adds_nothing : (g : TableHeaderValue) (n : ℕ) (ids : List Field) (r : Record) (rows : List Record) (facts : List Fact) → row_result g n ids r ≡ Ok facts
    → bad_rows g n ids (r ∷ rows) ≡ bad_rows g (n + 1) (ids_after (id_place_of g) ids r) rows
good_adds_nothing g n ids r rows facts e =
    let none : row_fault g n ids r ≡ None = own_none (row_fault g n ids r) (facts_from g.report g.table (row_of g n r) 0 g.columns) facts e in
    bad_rows-step g n ids (ids_after (id_place_of g) ids r) r rows [] false (good_has_none g n ids r facts e) (within_limit g n ids r none) (ids_with g n ids r (none_apart g n ids r none))

-- A TABLE

bad_first : (es : List TableFault) (later : List (List TableFault)) (x : TableFault) → first_in es ≡ Some x → first_in (faults_of_rows (row_before es later)) ≡ Some x
bad_first [] later x e = cc e
bad_first (f ∷ es) later x e = e

first_of_rows : (g : TableHeaderValue) (n : ℕ) (ids : List Field) (rows : List Record) → first_in (faults_of_rows (bad_rows g n ids rows)) ≡ (stream_from g n ids rows).fault
unfolding bad_rows stream_from
first_of_rows g n ids [] = refl
first_of_rows g n ids (r ∷ rows) = by (row_result g n ids r) refl (first_of_rows g (n + 1) (ids_after (id_place_of g) ids r) rows)
  where
    by : (a : Result (List Fact) TableFault) → row_result g n ids r ≡ a
        → first_in (faults_of_rows (bad_rows g (n + 1) (ids_after (id_place_of g) ids r) rows)) ≡ (stream_from g (n + 1) (ids_after (id_place_of g) ids r) rows).fault
        → first_in (faults_of_rows (bad_rows g n ids (r ∷ rows))) ≡ (row_in_front (row_result g n ids r) (stream_from g (n + 1) (ids_after (id_place_of g) ids r) rows)).fault
    by (Ok facts) is more =
        ap (λ rs. first_in (faults_of_rows rs)) (good_adds_nothing g n ids r rows facts is) ∙ more
        ∙ ap (λ a. (row_in_front a (stream_from g (n + 1) (ids_after (id_place_of g) ids r) rows)).fault) (sym is)
    by (Err x) is more =
        bad_first (faults_of_row g n ids r) (if nat_lt g.limit n then [] else bad_rows g (n + 1) (ids_up_to g n ids r) rows) x (first_of_row g n ids r ∙ ap err_of is)
        ∙ ap (λ a. (row_in_front a (stream_from g (n + 1) (ids_after (id_place_of g) ids r) rows)).fault) (sym is)

first_of_file : (report : ReportValue) (table limit : ℕ) (records : List Record) → first_in (file_faults report table limit records) ≡ (stream_of report table limit records).fault
first_of_file report table limit [] = refl
first_of_file report table limit (r ∷ rows) = by (header_fault report table r) refl
  where
    by : (o : Option TableFault) → header_fault report table r ≡ o → first_in (file_faults report table limit (r ∷ rows)) ≡ (stream_of report table limit (r ∷ rows)).fault
    by None e = rw e (first_of_rows (table_header_of report table limit r) 1 [] rows)
    by (Some x) e = rw e refl

first_alone : (o : Option TableFault) → first_in (alone_or o []) ≡ o
first_alone None = refl
first_alone (Some x) = refl

pub first_is_of_stream : (report : ReportValue) (table limit : ℕ) (file : Option (List ℕ)) → first_in (table_faults report table limit file) ≡ (table_stream report table limit file).fault
first_is_of_stream report table limit None = first_alone (no_file report table).fault
first_is_of_stream report table limit (Some bytes) = first_of_file report table limit (grid bytes)

pub none_if_not_refused : (report : ReportValue) (table limit : ℕ) (file : Option (List ℕ)) → (table_faults report table limit file ≡ []) ↔ ((table_stream report table limit file).fault ≡ None)
none_if_not_refused report table limit file = (
  λ e. sym (first_is_of_stream report table limit file) ∙ ap first_in e,
  λ e. none_first (table_faults report table limit file) (first_is_of_stream report table limit file ∙ e),
)
