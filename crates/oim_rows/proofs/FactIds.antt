-- The identifiers of a report's facts differ.
use Rattle.std.proofs.Common.{◌≡◌, ◌++◌, ◌∷◌, [], ◌==◌, ◌<◌, ◌≤◌, ◌+◌, ◌^◌, ◌⊎◌, ℕ, List, Option, Some, None, Bool, true, false, not, Result, Ok, Err}
use Rattle.std.proofs.Common.{map, codes, decimal, refl, sym, inl, inr, slice_get, slice_index_or, arith, length, bytes_eq, unwrap_or}
use Rattle.std.proofs.Common.{option_map, nat_lt, le_refl, ◌∙◌, ◌≢◌, if◌then◌else◌, zero, suc, Less, nat_cmp}
use Rattle.std.proofs.lemmas.List.{append_cancel_left, map-append}
use Rattle.std.proofs.lemmas.Bool.{eq-eqb, ltb-false}
use Rattle.std.proofs.lemmas.Bool.Decides.{eqb_tells}
use Rattle.std.proofs.lemmas.Fmt.{decimal_injective}
use Rattle.std.proofs.lemmas.Option.{get_or_from_slice_get}
use Rattle.std.specs.List.{AllByRecursion, IsDistinct, list_any, position_from}
use Rattle.std.specs.Option.{option_map_or}
use Rattle.csv.specs.Records.{field_at}
use Rattle.std.specs.List.Sorted.{IsStrictlySortedBy}
use Rattle.std.specs.Cmp.Lexicographic.{slice_cmp}
use Rattle.oim_names.specs.Names.{is_identifier, is_row_identifier}
use Rattle.oim_names.proofs.Cut.{identifier_lacks_point, row_identifier_lacks_point}
use Rattle.oim_records.specs.Grids.{Field, Record, grid}
use Rattle.oim_report.specs.InOrder.{PartsRise, TemplateRises, HaveIdentifiers}
use Rattle.oim_report.specs.Rising.{IsRising}
use Rattle.oim_report.proofs.Searches.{below-differs}
use Rattle.oim_report.specs.Readers.{columns_of, holds_facts, no_column, no_table, no_template, table_of, template_of}
use Rattle.oim_report.specs.ReportValue.{ReportValue}
use Rattle.oim_report.specs.declared.data.Column.{Column}
use Rattle.oim_report.specs.declared.data.Table.{Table}
use Rattle.oim_report.specs.declared.data.Template.{Template}
use Rattle.oim_resolve.specs.Cell.{cell_of}
use Rattle.oim_resolve.specs.Facts.{cell_result}
use Rattle.oim_resolve.specs.declared.fact.CellFault.{CellFault}
use Rattle.oim_resolve.specs.FactParts.{FactParts as Fact}
use Rattle.oim_resolve.specs.declared.fact.Row.{Row}
use Rattle.oim_rows.specs.Header.{Header, header_fault, header_of, is_column, is_empty, is_unknown, file_fault, names_row_id, or_else, repeat_from, repeats, fault_at}
use Rattle.oim_resolve.proofs.FactFacts as resolved
use Rattle.oim_rows.specs.Identifiers.{HaveOwnIds, facts_of_tables}
use Rattle.oim_rows.specs.RowFacts.{TableHeaderValue, at_place, checked, fact_at, facts_from, id_fault, id_kind, id_place_of}
use Rattle.oim_rows.specs.RowFacts.{ids_after, is_fact_column, limit_fault, ragged_fault, row_fault, row_id_text, text_fault, row_of, row_result}
use Rattle.oim_rows.specs.Streams.{Stream, facts_of, table_header_of, row_in_front, stream_from, stream_of, table_stream}
use Rattle.oim_rows.specs.declared.fault.TableFault.{TableFault}
use Rattle.oim_rows.specs.declared.fault.TableKind.TheVariants as kind
use Rattle.oim_rows.proofs.DotFacts.{HasDistinctColumns, HasNoDot, fact_id, all_append, all_mapped, all_weaker, any_front, any_grown}
use Rattle.oim_rows.proofs.DotFacts.{any_last, bytes_apart, bytes_same, column_at, differing, ids_apart, tables_apart, numbered-no_dot, or_true}

-- A HEADER WITHOUT A REPEATED COLUMN

repeat_tail : (n : ℕ) (front : Header) (o : Option ℕ) (h : Header) → repeat_from n front (o ∷ h) ≡ None → repeat_from (n + 1) (front ++ o ∷ []) h ≡ None
repeat_tail n front o h none = by (repeats front o) refl
  where
    by : (b : Bool) → repeats front o ≡ b → repeat_from (n + 1) (front ++ o ∷ []) h ≡ None
    by true e = let some : Some n ≡ None = rw e at none in cc some
    by false e = rw e at none

-- A column of the prefix does not occur after it.
repeat_front : (n : ℕ) (front h : Header) → repeat_from n front h ≡ None → (c : ℕ) → list_any (is_column c) front ≡ true → list_any (is_column c) h ≡ false
repeat_front n front [] none c at = refl
repeat_front n front (None ∷ h) none c at = repeat_front (n + 1) (front ++ None ∷ []) h (repeat_tail n front None h none) c (any_grown (is_column c) front None at)
repeat_front n front (Some d ∷ h) none c at =
    by (eqb_tells c d) (repeat_front (n + 1) (front ++ Some d ∷ []) h (repeat_tail n front (Some d) h none) c (any_grown (is_column c) front (Some d) at))
  where
    first : (b : Bool) → list_any (is_column d) front ≡ b → list_any (is_column d) front ≡ false
    first true e = let some : Some n ≡ None = rw e at none in cc some
    first false e = e

    by : (((c == d) ≡ true) × (c ≡ d)) ⊎ (((c == d) ≡ false) × (c ≢ d)) → list_any (is_column c) h ≡ false → list_any (is_column c) (Some d ∷ h) ≡ false
    by (inl same) more = absurd (differing (list_any (is_column c) front) at (rw same.1 (first (list_any (is_column d) front) refl)))
    by (inr other) more = rw (other.0, more) refl

repeat_head : (n : ℕ) (front : Header) (c : ℕ) (h : Header) → repeat_from n front (Some c ∷ h) ≡ None → list_any (is_column c) h ≡ false
repeat_head n front c h none = repeat_front (n + 1) (front ++ Some c ∷ []) h (repeat_tail n front (Some c) h none) c (any_last (is_column c) front (Some c) (eq-eqb c c refl))

-- THE FACTS OF ONE ROW

-- A fact of a column of this header.
abbrev IsFactUnder : List ℕ → List ℕ → List Column → Header → Fact → Type 0
IsFactUnder table row columns h f = (c : ℕ) × (x : Column) × (list_any (is_column c) h ≡ true) × (slice_get columns c ≡ Some x) × (f.id ≡ fact_id table row x.id)

at_place-ok : (table n p : ℕ) (r : Result (Option Fact) CellFault) (f : Fact) → at_place table n p r ≡ Ok (Some f) → r ≡ Ok (Some f)
at_place-ok table n p (Ok o) f e = let same : o ≡ Some f = cc in rw same refl
at_place-ok table n p (Err k) f e = cc e

column_there : (o : Option Column) → option_map_or (λ (x : Column). holds_facts x.kind) o false ≡ true → (x : Column) × (o ≡ Some x)
column_there None e = cc e
column_there (Some x) e = (x, refl)

fact_of_column : (report : ReportValue) (table : ℕ) (row : Row) (p c : ℕ) (f : Fact) → fact_at report table row p (Some c) ≡ Ok (Some f)
    → (x : Column) × (slice_get (columns_of report table) c ≡ Some x) × (f.id ≡ fact_id (table_of report table).id row.id x.id)
fact_of_column report table row p c f e = by (is_fact_column (columns_of report table) c) refl
  where
    by : (b : Bool) → is_fact_column (columns_of report table) c ≡ b → (x : Column) × (slice_get (columns_of report table) c ≡ Some x) × (f.id ≡ fact_id (table_of report table).id row.id x.id)
    by true is =
        let answer = at_place-ok table row.number (p + 1) (cell_result (cell_of report table row c)) f (rw is at e) in
        let there = column_there (slice_get (columns_of report table) c) is in
        let same : slice_index_or (columns_of report table) c no_column ≡ there.0 = get_or_from_slice_get (columns_of report table) c there.0 no_column there.1 in
        (there.0, there.1, rw same at (resolved.fact_id (cell_of report table row c) f answer))
    by false is = let none : Ok None ≡ Ok (Some f) = rw is at e in cc none

row_facts : (report : ReportValue) (table : ℕ) → HasDistinctColumns (columns_of report table) → (row : Row) → HasNoDot row.id
    → (p n : ℕ) (front h : Header) → repeat_from n front h ≡ None → (fs : List Fact) → facts_from report table row p h ≡ Ok fs
    → AllByRecursion (IsFactUnder (table_of report table).id row.id (columns_of report table) h) fs × HaveOwnIds fs
unfolding IsDistinct
row_facts report table distinct row plain p n front [] none fs e = let same : [] ≡ fs = cc in rw (← same) (tt, tt)
row_facts report table distinct row plain p n front (o ∷ h) none fs e =
    by (fact_at report table row p o) refl (facts_from report table row (p + 1) h) refl (row_facts report table distinct row plain (p + 1) (n + 1) (front ++ o ∷ []) h (repeat_tail n front o h none))
  where
    columns : List Column
    columns = columns_of report table

    later : (f : Fact) → IsFactUnder (table_of report table).id row.id columns h f → IsFactUnder (table_of report table).id row.id columns (o ∷ h) f
    later f (c, x, at, place, is) = (c, x, rw at (or_true (is_column c o)), place, is)

    Goal : List Fact → Type 0
    Goal gs = AllByRecursion (IsFactUnder (table_of report table).id row.id columns (o ∷ h)) gs × HaveOwnIds gs

    apart : (c : ℕ) (x : Column) (f : Fact) → slice_get columns c ≡ Some x → f.id ≡ fact_id (table_of report table).id row.id x.id → list_any (is_column c) h ≡ false
        → (g : Fact) → IsFactUnder (table_of report table).id row.id columns h g → bytes_eq f.id g.id ≡ false
    apart c x f at is nowhere g (d, y, there, at2, is2) = bytes_apart f.id g.id (λ same.
        let ids = ids_apart (table_of report table).id row.id x.id row.id y.id plain plain (sym is ∙ same ∙ is2) in
        let one = column_at columns distinct c d x y at at2 ids.1 in
        differing (list_any (is_column d) h) there (rw one at nowhere))

    first : (f : Fact) (gs : List Fact) → (k : Option ℕ) → o ≡ k → fact_at report table row p k ≡ Ok (Some f)
        → AllByRecursion (IsFactUnder (table_of report table).id row.id columns h) gs × HaveOwnIds gs → Goal (f ∷ gs)
    first f gs None ok is more = cc is
    first f gs (Some c) ok is more =
        let it = fact_of_column report table row p c f is in
        let nowhere : list_any (is_column c) h ≡ false = repeat_head n front c h (rw ok at none) in
        let here : list_any (is_column c) (o ∷ h) ≡ true = rw (ok, eq-eqb c c refl) refl in (
          ((c, it.0, here, it.1, it.2), all_weaker (IsFactUnder (table_of report table).id row.id columns h) (IsFactUnder (table_of report table).id row.id columns (o ∷ h)) later gs more.0),
          (
            all_mapped (λ (g : Fact). g.id) (λ k. bytes_eq f.id k ≡ false) gs (all_weaker (IsFactUnder (table_of report table).id row.id columns h) (λ g. bytes_eq f.id g.id
                ≡ false) (apart c it.0 f it.1 it.2 nowhere) gs more.0),
            more.1,
          ),
        )

    by : (a : Result (Option Fact) TableFault) → fact_at report table row p o ≡ a → (b : Result (List Fact) TableFault) → facts_from report table row (p + 1) h ≡ b
        → ((gs : List Fact) → facts_from report table row (p + 1) h ≡ Ok gs → AllByRecursion (IsFactUnder (table_of report table).id row.id columns h) gs × HaveOwnIds gs)
        → Goal fs
    by (Err x) ea b eb more = let bad : Err x ≡ Ok fs = rw ea at e in cc bad
    by (Ok None) ea b eb more =
        let rest : facts_from report table row (p + 1) h ≡ Ok fs = rw ea at e in
        let m = more fs rest in
        (all_weaker (IsFactUnder (table_of report table).id row.id columns h) (IsFactUnder (table_of report table).id row.id columns (o ∷ h)) later fs m.0, m.1)
    by (Ok (Some f)) ea (Err x) eb more = let bad : Err x ≡ Ok fs = rw (ea, eb) at e in cc bad
    by (Ok (Some f)) ea (Ok gs) eb more =
        let whole : Ok (f ∷ gs) ≡ Ok fs = rw (ea, eb) at e in
        let same : f ∷ gs ≡ fs = cc in
        rw (← same) (first f gs o refl ea (more gs eb))

-- THE ROWS OF A TABLE

first_none : {A : Type 0} (a b : Option A) → or_else a b ≡ None → (a ≡ None) × (b ≡ None)
first_none None b e = (refl, e)
first_none (Some x) b e = cc e

mapped_none : {A B : Type 0} (f : A → B) (o : Option A) → option_map f o ≡ None → o ≡ None
mapped_none f None e = refl
mapped_none f (Some x) e = cc e

if_none : {A : Type 0} (b : Bool) (x : A) (o : Option A) → (if b then Some x else o) ≡ None → (b ≡ false) × (o ≡ None)
if_none true x o e = cc e
if_none false x o e = (refl, e)

not_false : (b : Bool) → not b ≡ false → b ≡ true
not_false true e = refl
not_false false e = cc e

checked_ok : (o : Option TableFault) (b : Result (List Fact) TableFault) (fs : List Fact) → checked o b ≡ Ok fs → (o ≡ None) × (b ≡ Ok fs)
checked_ok None b fs e = (refl, e)
checked_ok (Some x) b fs e = cc e

-- A row identifier that a row from number n on may have, if the rows before it have these.
abbrev IsLaterId : Option ℕ → ℕ → ℕ → List Field → Field → Type 0
IsLaterId None limit n ids t = (m : ℕ) × (n ≤ m) × (m ≤ limit) × (t ≡ codes "r_" ++ decimal m)
IsLaterId (Some p) limit n ids t = list_any (bytes_eq t) ids ≡ false

later_id : (o : Option ℕ) (limit n : ℕ) (ids : List Field) (r : Record) (t : Field) → IsLaterId o limit (n + 1) (ids_after o ids r) t → IsLaterId o limit n ids t
later_id None limit n ids r t (m, low, high, is) = (m, omega arith, high, is)
later_id (Some p) limit n ids r t h = any_front (bytes_eq t) ids (unwrap_or (field_at r p) [] ∷ []) h

-- A later row has another identifier.
later_apart : (o : Option ℕ) (limit n : ℕ) (ids : List Field) (r : Record) (t : Field) → limit < 2 ^ 32 → n ≤ limit → IsLaterId o limit (n + 1) (ids_after o ids r) t → row_id_text o n r ≡ t → ⊥
later_apart None limit n ids r t small within (m, low, high, is) same =
    let texts : codes "r_" ++ decimal n ≡ codes "r_" ++ decimal m = same ∙ is in
    let one : n ≡ m = decimal_injective n m (omega arith) (omega arith) (append_cancel_left (codes "r_") (decimal n) (decimal m) texts) in
    absurd (omega arith)
later_apart (Some p) limit n ids r t small within h same =
    differing (list_any (bytes_eq t) (ids ++ unwrap_or (field_at r p) [] ∷ [])) (any_last (bytes_eq t) ids (unwrap_or (field_at r p) []) (bytes_same t (unwrap_or (field_at r p) []) (sym same))) h

id_kind_ok : (ids : List Field) (f : Field) → id_kind ids f ≡ None → HasNoDot f × (list_any (bytes_eq f) ids ≡ false)
id_kind_ok ids f e =
    let full = if_none (is_empty f) kind.MissingRowId (if not (is_row_identifier f) then Some kind.BadRowId else if list_any (bytes_eq f) ids then Some kind.RepeatedRowId else None) e in
    let named = if_none (not (is_row_identifier f)) kind.BadRowId (if list_any (bytes_eq f) ids then Some kind.RepeatedRowId else None) full.1 in
    let fresh = if_none (list_any (bytes_eq f) ids) kind.RepeatedRowId None named.1 in
    (row_identifier_lacks_point f (not_false (is_row_identifier f) named.0), fresh.0)

small_number : (n limit : ℕ) → n ≤ limit → limit < 2 ^ 32 → n < 2 ^ 64
small_number n limit a b = omega arith

id_ok : (g : TableHeaderValue) (o : Option ℕ) (n : ℕ) (ids : List Field) (r : Record) → n ≤ g.limit → g.limit < 2 ^ 32 → id_fault g o n ids r ≡ None
    → HasNoDot (row_id_text o n r) × IsLaterId o g.limit n ids (row_id_text o n r)
id_ok g None n ids r within small e = (numbered-no_dot n (small_number n g.limit within small), (n, le_refl n, within, refl))
id_ok g (Some p) n ids r within small e =
    id_kind_ok ids (unwrap_or (field_at r p) []) (mapped_none (fault_at g.table n (p + 1)) (id_kind ids (unwrap_or (field_at r p) [])) e)

row_ok : (g : TableHeaderValue) (n : ℕ) (ids : List Field) (r : Record) → row_fault g n ids r ≡ None → (n ≤ g.limit) × (id_fault g (id_place_of g) n ids r ≡ None)
row_ok g n ids r e =
    let id = id_fault g (id_place_of g) n ids r in
    let long = first_none (ragged_fault g n r) (or_else (text_fault g n r) (or_else (limit_fault g n) id)) e in
    let texts = first_none (text_fault g n r) (or_else (limit_fault g n) id) long.1 in
    let few = first_none (limit_fault g n) id texts.1 in
    let within = if_none (nat_lt g.limit n) (fault_at g.table n 0 kind.TooManyRows) None few.0 in
    (ltb-false g.limit n within.0, few.1)

-- Facts of two lists that differ, each from each.
joined : (P Q : Fact → Type 0) → ((f g : Fact) → P f → Q g → bytes_eq f.id g.id ≡ false) → (fs gs : List Fact) → AllByRecursion P fs → AllByRecursion Q gs → HaveOwnIds fs → HaveOwnIds gs
    → HaveOwnIds (fs ++ gs)
unfolding IsDistinct
joined P Q h [] gs a b c d = d
joined P Q h (f ∷ fs) gs a b c d = (
  rw (map-append (λ (g : Fact). g.id) fs gs) (all_append (λ k. bytes_eq f.id k ≡ false) (map (λ (g : Fact). g.id) fs) (map (λ (g : Fact). g.id) gs) c.0
      (all_mapped (λ (g : Fact). g.id) (λ k. bytes_eq f.id k ≡ false) gs (all_weaker Q (λ g. bytes_eq f.id g.id ≡ false) (λ g q. h f g a.0 q) gs b))),
  joined P Q h fs gs a.1 b c.1 d,
)

-- A fact of a row from number n on, if the rows before it have these identifiers.
abbrev IsLaterFact : TableHeaderValue → ℕ → List Field → Fact → Type 0
IsLaterFact g n ids f = (t : Field) × (k : List ℕ) × HasNoDot t × IsLaterId (id_place_of g) g.limit n ids t × (f.id ≡ fact_id (table_of g.report g.table).id t k)

step : (g : TableHeaderValue) → g.limit < 2 ^ 32 → HasDistinctColumns (columns_of g.report g.table) → repeat_from 0 [] g.columns ≡ None
    → (n : ℕ) (ids : List Field) (r : Record) (a : Result (List Fact) TableFault) (s : Stream) → row_result g n ids r ≡ a
    → AllByRecursion (IsLaterFact g (n + 1) (ids_after (id_place_of g) ids r)) (facts_of s) → HaveOwnIds (facts_of s)
    → AllByRecursion (IsLaterFact g n ids) (facts_of (row_in_front a s)) × HaveOwnIds (facts_of (row_in_front a s))
unfolding IsDistinct
step g small distinct none n ids r (Err x) s e all apart = (tt, tt)
step g small distinct none n ids r (Ok fs) s e all apart =
    let both = checked_ok (row_fault g n ids r) (facts_from g.report g.table (row_of g n r) 0 g.columns) fs e in
    let ok = row_ok g n ids r both.0 in
    let id = id_ok g (id_place_of g) n ids r ok.0 small ok.1 in
    let row = row_facts g.report g.table distinct (row_of g n r) id.0 0 0 [] g.columns none fs both.1 in (
      all_append (IsLaterFact g n ids) fs (facts_of s) (all_weaker Under (IsLaterFact g n ids) (here id.0 id.1) fs row.0) (all_weaker Later (IsLaterFact g n ids) later (facts_of s) all),
      joined Under Later (differ id.0 ok.0) fs (facts_of s) row.0 all row.1 apart,
    )
  where
    table_id : List ℕ
    table_id = (table_of g.report g.table).id

    row_id : Field
    row_id = row_id_text (id_place_of g) n r

    Under : Fact → Type 0
    Under = IsFactUnder table_id row_id (columns_of g.report g.table) g.columns

    Later : Fact → Type 0
    Later = IsLaterFact g (n + 1) (ids_after (id_place_of g) ids r)

    here : HasNoDot row_id → IsLaterId (id_place_of g) g.limit n ids row_id → (f : Fact) → Under f → IsLaterFact g n ids f
    here dotless fresh f (c, x, there, at, is) = (row_id, x.id, dotless, fresh, is)

    later : (f : Fact) → Later f → IsLaterFact g n ids f
    later f (t, k, dotless, fresh, is) = (t, k, dotless, later_id (id_place_of g) g.limit n ids r t fresh, is)

    differ : HasNoDot row_id → n ≤ g.limit → (f h : Fact) → Under f → Later h → bytes_eq f.id h.id ≡ false
    differ dotless within f h (c, x, there, at, is) (t, k, plain2, fresh, is2) = bytes_apart f.id h.id (λ same.
        later_apart (id_place_of g) g.limit n ids r t small within fresh (ids_apart table_id row_id x.id t k dotless plain2 (sym is ∙ same ∙ is2)).0)

table_facts : (g : TableHeaderValue) → g.limit < 2 ^ 32 → HasDistinctColumns (columns_of g.report g.table) → repeat_from 0 [] g.columns ≡ None
    → (n : ℕ) (ids : List Field) (rows : List Record)
    → AllByRecursion (IsLaterFact g n ids) (facts_of (stream_from g n ids rows)) × HaveOwnIds (facts_of (stream_from g n ids rows))
unfolding stream_from IsDistinct
table_facts g small distinct none n ids [] = (tt, tt)
table_facts g small distinct none n ids (r ∷ rows) =
    let more = table_facts g small distinct none (n + 1) (ids_after (id_place_of g) ids r) rows in
    step g small distinct none n ids r (row_result g n ids r) (stream_from g (n + 1) (ids_after (id_place_of g) ids r) rows) refl more.0 more.1

header_ok : (report : ReportValue) (table : ℕ) (r : Record) → header_fault report table r ≡ None → repeat_from 0 [] (header_of (columns_of report table) r) ≡ None
header_ok report table r e =
    let header = header_of (columns_of report table) r in
    let last = if names_row_id (template_of report table).row_id_column header then None else Some (file_fault table kind.NoRowIdColumn) in
    let again = option_map (λ p. fault_at table 0 (p + 1) kind.RepeatedHeader) (repeat_from 0 [] header) in
    let one = first_none (option_map (λ p. fault_at table 0 (p + 1) kind.UnknownHeader) (position_from (is_unknown (columns_of report table)) 0 r)) (or_else again last) e in
    let two = first_none again last one.1 in
    mapped_none (λ p. fault_at table 0 (p + 1) kind.RepeatedHeader) (repeat_from 0 [] header) two.0

fact_ids_differ : (report : ReportValue) (table limit : ℕ) (records : List Record) → limit < 2 ^ 32
    → HasDistinctColumns (columns_of report table) → HaveOwnIds (facts_of (stream_of report table limit records))
unfolding IsDistinct
fact_ids_differ report table limit [] small distinct = tt
fact_ids_differ report table limit (r ∷ rows) small distinct = by (header_fault report table r) refl
  where
    by : (o : Option TableFault) → header_fault report table r ≡ o → HaveOwnIds (facts_of (stream_of report table limit (r ∷ rows)))
    by (Some x) e = rw e tt
    by None e = rw e ((table_facts (table_header_of report table limit r) small distinct (header_ok report table r e) 1 [] rows).1)

-- A fact with an identifier of this table.
abbrev IsFactOf : List ℕ → Fact → Type 0
IsFactOf table f = (t : List ℕ) × (k : List ℕ) × (f.id ≡ fact_id table t k)

facts_of_table : (report : ReportValue) (table limit : ℕ) (records : List Record) → limit < 2 ^ 32
    → HasDistinctColumns (columns_of report table) → AllByRecursion (IsFactOf (table_of report table).id) (facts_of (stream_of report table limit records))
facts_of_table report table limit [] small distinct = tt
facts_of_table report table limit (r ∷ rows) small distinct = by (header_fault report table r) refl
  where
    known : (f : Fact) → IsLaterFact (table_header_of report table limit r) 1 [] f → IsFactOf (table_of report table).id f
    known f (t, k, dotless, fresh, is) = (t, k, is)

    by : (o : Option TableFault) → header_fault report table r ≡ o → AllByRecursion (IsFactOf (table_of report table).id) (facts_of (stream_of report table limit (r ∷ rows)))
    by (Some x) e = rw e tt
    by None e = rw e (all_weaker (IsLaterFact (table_header_of report table limit r) 1 []) (IsFactOf (table_of report table).id) known (facts_of (stream_from (table_header_of report table limit r) 1 [] rows))
        (table_facts (table_header_of report table limit r) small distinct (header_ok report table r e) 1 [] rows).0)

-- THE FACTS OF A REPORT

-- Rising names differ.
names_apart : (names : List (List ℕ)) → IsRising names → IsDistinct bytes_eq names
unfolding IsStrictlySortedBy IsDistinct
names_apart [] h = tt
names_apart (x ∷ xs) h = (all_weaker (λ y. slice_cmp nat_cmp x y ≡ Less) (λ y. bytes_eq x y ≡ false) (below-differs x) xs h.0, names_apart xs h.1)

-- What holds for all holds at each index, if it holds for the default of an index out of range.
each_at : {X : Type 0} (P : X → Type 0) (xs : List X) (d : X) → AllByRecursion P xs → P d → (k : ℕ) → P (slice_index_or xs k d)
each_at P [] d all other k = other
each_at P (x ∷ xs) d all other zero = all.0
each_at P (x ∷ xs) d all other (suc k) = each_at P xs d all.1 other k

unmapped : {X Y : Type 0} (f : X → Y) (P : Y → Type 0) (xs : List X) → AllByRecursion P (map f xs) → AllByRecursion (λ x. P (f x)) xs
unmapped f P [] all = tt
unmapped f P (x ∷ xs) all = (all.0, unmapped f P xs all.1)

columns_apart : (report : ReportValue) → PartsRise report.level report.templates report.tables → (i : ℕ) → HasDistinctColumns (columns_of report i)
unfolding PartsRise IsDistinct
columns_apart report h i =
    each_at (λ (t : Template). HasDistinctColumns t.columns) report.templates no_template
    (all_weaker TemplateRises (λ (t : Template). HasDistinctColumns t.columns) (λ t r. names_apart (map (λ (c : Column). c.id) t.columns) r.1) report.templates h.4) tt (table_of report i).template

tables_dotless : (report : ReportValue) → HaveIdentifiers report.templates report.tables → (i : ℕ) → HasNoDot (table_of report i).id
unfolding HaveIdentifiers
tables_dotless report h i =
    each_at (λ (t : Table). HasNoDot t.id) report.tables no_table
    (all_weaker (λ (t : Table). is_identifier t.id ≡ true) (λ (t : Table). HasNoDot t.id) (λ t good. identifier_lacks_point t.id good) report.tables (unmapped (λ (t : Table). t.id)
    (λ name. is_identifier name ≡ true) report.tables h.0)) tt i

tables_apart_by_name : (report : ReportValue) → PartsRise report.level report.templates report.tables → IsDistinct bytes_eq (map (λ (t : Table). t.id) report.tables)
unfolding PartsRise
tables_apart_by_name report h = names_apart (map (λ (t : Table). t.id) report.tables) h.1

other_table : (name : List ℕ) (tables : List Table) (j : ℕ) (d : Table) → AllByRecursion (λ y. bytes_eq name y ≡ false) (map (λ (t : Table). t.id) tables) → j < length tables
    → bytes_eq name (slice_index_or tables j d).id ≡ false
other_table name [] j d all within = absurd (omega arith)
other_table name (t ∷ ts) zero d all within = all.0
other_table name (t ∷ ts) (suc j) d all within = other_table name ts j d all.1 (omega arith)

tables_differ : (tables : List Table) → IsDistinct bytes_eq (map (λ (t : Table). t.id) tables) → (i j : ℕ) (d : Table) → i < j → j < length tables
    → bytes_eq (slice_index_or tables i d).id (slice_index_or tables j d).id ≡ false
unfolding IsDistinct
tables_differ [] h i j d low within = absurd (omega arith)
tables_differ (t ∷ ts) h zero zero d low within = absurd (omega arith)
tables_differ (t ∷ ts) h zero (suc j) d low within = other_table t.id ts j d h.0 (omega arith)
tables_differ (t ∷ ts) h (suc i) zero d low within = absurd (omega arith)
tables_differ (t ∷ ts) h (suc i) (suc j) d low within = tables_differ ts h.1 i j d (omega arith) (omega arith)

table_facts_are : (report : ReportValue) (i limit : ℕ) (file : Option (List ℕ)) → limit < 2 ^ 32 → HasDistinctColumns (columns_of report i)
    → AllByRecursion (IsFactOf (table_of report i).id) (facts_of (table_stream report i limit file)) × HaveOwnIds (facts_of (table_stream report i limit file))
unfolding IsDistinct
table_facts_are report i limit None small distinct = (tt, tt)
table_facts_are report i limit (Some bytes) small distinct = (facts_of_table report i limit (grid bytes) small distinct, fact_ids_differ report i limit (grid bytes) small distinct)

-- A fact of a table from index i on.
abbrev IsFactFrom : ReportValue → ℕ → Fact → Type 0
IsFactFrom report i f = (k : ℕ) × (i ≤ k) × (k < length report.tables) × IsFactOf (table_of report k).id f

pub report_ids_differ : (report : ReportValue) → PartsRise report.level report.templates report.tables → HaveIdentifiers report.templates report.tables
    → (limit i : ℕ) (files : List (Option (List ℕ))) → limit < 2 ^ 32 → i + length files ≤ length report.tables
    → AllByRecursion (IsFactFrom report i) (facts_of_tables report limit i files) × HaveOwnIds (facts_of_tables report limit i files)
unfolding IsDistinct
report_ids_differ report rise good limit i [] small within = (tt, tt)
report_ids_differ report rise good limit i (file ∷ files) small within =
    let more = report_ids_differ report rise good limit (i + 1) files small (omega arith) in
    let these = table_facts_are report i limit file small (columns_apart report rise i) in (
      all_append (IsFactFrom report i) facts others (all_weaker Here (IsFactFrom report i) (λ f h. (i, le_refl i, omega arith, h)) facts these.0) (all_weaker Later
          (IsFactFrom report i) later others more.0),
      joined Here Later differ facts others these.0 more.0 these.1 more.1,
    )
  where
    facts : List Fact
    facts = facts_of (table_stream report i limit file)

    others : List Fact
    others = facts_of_tables report limit (i + 1) files

    Here : Fact → Type 0
    Here = IsFactOf (table_of report i).id

    Later : Fact → Type 0
    Later = IsFactFrom report (i + 1)

    later : (f : Fact) → Later f → IsFactFrom report i f
    later f (k, low, high, h) = (k, omega arith, high, h)

    differ : (f g : Fact) → Here f → Later g → bytes_eq f.id g.id ≡ false
    differ f g (t, c, is) (k, low, high, at) = bytes_apart f.id g.id (λ same.
        let one = tables_apart (table_of report i).id t c (table_of report k).id at.0 at.1 (tables_dotless report good i) (tables_dotless report good k) (sym is ∙ same ∙ at.2) in
        differing (bytes_eq (table_of report i).id (table_of report k).id) (bytes_same (table_of report i).id (table_of report k).id one)
        (tables_differ report.tables (tables_apart_by_name report rise) i k no_table (omega arith) high))
