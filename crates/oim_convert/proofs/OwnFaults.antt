-- A table's own fault names that table, and is never NoThread.
use Rattle.std.specs.Prelude.{◌≡◌, ⊤, ℕ, ◌+◌, Bool, true, false, not, ◌==◌, nat_lt, if◌then◌else◌, List, [], ◌∷◌, Option, Some, None, Result, Ok, Err, option_map, length, unwrap_or}
use Rattle.std.proofs.Common.{refl, sym, subst}
use Rattle.std.specs.List.{list_any, position_from}
use Rattle.std.specs.Str.{bytes_eq}
use Rattle.csv.specs.Records.{field_at}
use Rattle.oim_records.specs.Grids.{Field, Record, grid}
use Rattle.oim_report.specs.Readers.{columns_of, table_of, template_of}
use Rattle.oim_report.specs.ReportValue.{ReportValue}
use Rattle.oim_names.specs.Names.{is_row_identifier}
use Rattle.oim_resolve.specs.Cell.{cell_of}
use Rattle.oim_resolve.specs.Facts.{cell_result}
use Rattle.oim_resolve.specs.declared.fact.CellFault.{CellFault}
use Rattle.oim_resolve.specs.FactParts.{FactParts as Fact}
use Rattle.oim_resolve.specs.declared.fact.Row.{Row}
use Rattle.oim_rows.specs.Header.{Header, fault_at, file_fault, header_fault, header_of, is_empty, is_unknown, names_row_id, or_else, repeat_from}
use Rattle.oim_rows.specs.RowFacts.{TableHeaderValue, at_place, checked, fact_at, facts_from, id_fault, id_kind, id_place_of, ids_after, in_front}
use Rattle.oim_rows.specs.RowFacts.{is_fact_column, is_not_text, limit_fault, ragged_fault, row_fault, row_of, row_result, text_fault}
use Rattle.oim_rows.specs.Streams.{Stream, table_header_of, row_in_front, stream_from, stream_of, table_stream}
use Rattle.oim_rows.specs.declared.fault.TableFault.{TableFault}
use Rattle.oim_rows.specs.declared.fault.TableKind.{TableKind}
use Rattle.oim_rows.specs.declared.fault.TableKind.TheVariants as kind
use Rattle.oim_convert.proofs.TableFiles.{refused_header}

abbrev pub has_thread : TableKind → Bool
has_thread kind.NoThread = false
has_thread kind.NoFile = true
has_thread kind.Read = true
has_thread kind.NoHeader = true
has_thread kind.UnknownHeader = true
has_thread kind.RepeatedHeader = true
has_thread kind.NoRowIdColumn = true
has_thread kind.Ragged = true
has_thread kind.NotUtf8 = true
has_thread kind.TooManyRows = true
has_thread kind.MissingRowId = true
has_thread kind.BadRowId = true
has_thread kind.RepeatedRowId = true
has_thread (kind.Cell f) = true
has_thread kind.Memory = true

abbrev pub IsOwn : ℕ → Option TableFault → Type 0
IsOwn table None = ⊤
IsOwn table (Some e) = (has_thread e.kind ≡ true) × (e.table ≡ table)

abbrev IsOwnKind : Option TableKind → Type 0
IsOwnKind None = ⊤
IsOwnKind (Some k) = has_thread k ≡ true

abbrev IsOwnErr : {A : Type 0} → ℕ → Result A TableFault → Type 0
IsOwnErr table (Ok a) = ⊤
IsOwnErr table (Err e) = (has_thread e.kind ≡ true) × (e.table ≡ table)

own_or : (table : ℕ) (a b : Option TableFault) → IsOwn table a → IsOwn table b → IsOwn table (or_else a b)
own_or table None b p q = q
own_or table (Some e) b p q = p

own_place : (table row : ℕ) (k : TableKind) (o : Option ℕ) → has_thread k ≡ true → IsOwn table (option_map (λ p. fault_at table row (p + 1) k) o)
own_place table row k None h = tt
own_place table row k (Some p) h = (h, refl)

own_kind : (table row column : ℕ) (o : Option TableKind) → IsOwnKind o → IsOwn table (option_map (fault_at table row column) o)
own_kind table row column None h = tt
own_kind table row column (Some k) h = (h, refl)

own_unless : (b : Bool) (table : ℕ) (k : TableKind) → has_thread k ≡ true → IsOwn table (if b then None else Some (file_fault table k))
own_unless true table k h = tt
own_unless false table k h = (h, refl)

own_if : (b : Bool) (table row : ℕ) (k : TableKind) (o : Option TableFault) → has_thread k ≡ true → IsOwn table o → IsOwn table (if b then Some (fault_at table row 0 k) else o)
own_if true table row k o h p = (h, refl)
own_if false table row k o h p = p

kind_if : (b : Bool) (k : TableKind) (o : Option TableKind) → has_thread k ≡ true → IsOwnKind o → IsOwnKind (if b then Some k else o)
kind_if true k o h p = h
kind_if false k o h p = p

own_header : (report : ReportValue) (table : ℕ) (r : Record) → IsOwn table (header_fault report table r)
own_header report table r =
    own_or table (option_map (λ p. fault_at table 0 (p + 1) kind.UnknownHeader) (position_from (is_unknown (columns_of report table)) 0 r)) _
    (own_place table 0 kind.UnknownHeader (position_from (is_unknown (columns_of report table)) 0 r) refl)
    (own_or table (option_map (λ p. fault_at table 0 (p + 1) kind.RepeatedHeader) (repeat_from 0 [] (header_of (columns_of report table) r))) _
    (own_place table 0 kind.RepeatedHeader (repeat_from 0 [] (header_of (columns_of report table) r)) refl)
    (own_unless (names_row_id (template_of report table).row_id_column (header_of (columns_of report table) r)) table kind.NoRowIdColumn refl))

own_id_kind : (ids : List Field) (f : Field) → IsOwnKind (id_kind ids f)
own_id_kind ids f =
    kind_if (is_empty f) kind.MissingRowId _ refl (kind_if (not (is_row_identifier f)) kind.BadRowId _ refl (kind_if (list_any (bytes_eq f) ids) kind.RepeatedRowId None refl tt))

own_id : (g : TableHeaderValue) (o : Option ℕ) (n : ℕ) (ids : List Field) (r : Record) → IsOwn g.table (id_fault g o n ids r)
own_id g None n ids r = tt
own_id g (Some p) n ids r = own_kind g.table n (p + 1) (id_kind ids (unwrap_or (field_at r p) [])) (own_id_kind ids (unwrap_or (field_at r p) []))

own_row : (g : TableHeaderValue) (n : ℕ) (ids : List Field) (r : Record) → IsOwn g.table (row_fault g n ids r)
own_row g n ids r =
    own_or g.table (ragged_fault g n r) _ (own_if (not (length r == length g.columns)) g.table n kind.Ragged None refl tt)
    (own_or g.table (text_fault g n r) _ (own_place g.table n kind.NotUtf8 (position_from is_not_text 0 r) refl)
    (own_or g.table (limit_fault g n) _ (own_if (nat_lt g.limit n) g.table n kind.TooManyRows None refl tt)
    (own_id g (id_place_of g) n ids r)))

own_at : (table n p : ℕ) (x : Result (Option Fact) CellFault) → IsOwnErr table (at_place table n p x)
own_at table n p (Ok o) = tt
own_at table n p (Err k) = (refl, refl)

own_if_fact : (b : Bool) (table : ℕ) (x : Result (Option Fact) TableFault) → IsOwnErr table x → IsOwnErr table (if b then x else Ok None)
own_if_fact true table x h = h
own_if_fact false table x h = tt

own_fact : (report : ReportValue) (table : ℕ) (row : Row) (p : ℕ) (o : Option ℕ) → IsOwnErr table (fact_at report table row p o)
own_fact report table row p None = tt
own_fact report table row p (Some c) =
    own_if_fact (is_fact_column (columns_of report table) c) table (at_place table row.number (p + 1) (cell_result (cell_of report table row c)))
    (own_at table row.number (p + 1) (cell_result (cell_of report table row c)))

own_front : (table : ℕ) (x : Result (Option Fact) TableFault) (y : Result (List Fact) TableFault) → IsOwnErr table x → IsOwnErr table y → IsOwnErr table (in_front x y)
own_front table (Err e) y p q = p
own_front table (Ok None) y p q = q
own_front table (Ok (Some f)) (Ok fs) p q = tt
own_front table (Ok (Some f)) (Err e) p q = q

own_facts : (report : ReportValue) (table : ℕ) (row : Row) (p : ℕ) (h : Header) → IsOwnErr table (facts_from report table row p h)
own_facts report table row p [] = tt
own_facts report table row p (o ∷ h) = own_front table (fact_at report table row p o) (facts_from report table row (p + 1) h) (own_fact report table row p o) (own_facts report table row (p + 1) h)

own_checked : (table : ℕ) (o : Option TableFault) (x : Result (List Fact) TableFault) → IsOwn table o → IsOwnErr table x → IsOwnErr table (checked o x)
own_checked table None x p q = q
own_checked table (Some e) x p q = p

own_result : (g : TableHeaderValue) (n : ℕ) (ids : List Field) (r : Record) → IsOwnErr g.table (row_result g n ids r)
own_result g n ids r = own_checked g.table (row_fault g n ids r) (facts_from g.report g.table (row_of g n r) 0 g.columns) (own_row g n ids r) (own_facts g.report g.table (row_of g n r) 0 g.columns)

own_in_front : (table : ℕ) (x : Result (List Fact) TableFault) (s : Stream) → IsOwnErr table x → IsOwn table s.fault → IsOwn table (row_in_front x s).fault
own_in_front table (Err e) s p q = p
own_in_front table (Ok fs) s p q = q

own_from : (g : TableHeaderValue) (n : ℕ) (ids : List Field) (rows : List Record) → IsOwn g.table (stream_from g n ids rows).fault
unfolding stream_from
own_from g n ids [] = tt
own_from g n ids (r ∷ rows) =
    own_in_front g.table (row_result g n ids r) (stream_from g (n + 1) (ids_after (id_place_of g) ids r) rows) (own_result g n ids r) (own_from g (n + 1) (ids_after (id_place_of g) ids r) rows)

good_header : (report : ReportValue) (table limit : ℕ) (r : Record) (rs : List Record) → header_fault report table r ≡ None
    → stream_of report table limit (r ∷ rs) ≡ stream_from (table_header_of report table limit r) 1 [] rs
good_header report table limit r rs is = rw is refl

own_under : (report : ReportValue) (table limit : ℕ) (r : Record) (rs : List Record) (o : Option TableFault) → header_fault report table r ≡ o
    → IsOwn table (stream_of report table limit (r ∷ rs)).fault
own_under report table limit r rs None is = subst (λ (s : Stream). IsOwn table s.fault) (sym (good_header report table limit r rs is)) (own_from (table_header_of report table limit r) 1 [] rs)
own_under report table limit r rs (Some e) is =
    subst (λ (s : Stream). IsOwn table s.fault) (sym (refused_header report table limit (r ∷ rs) e is)) (subst (λ (o : Option TableFault). IsOwn table o) is (own_header report table r))

own_stream : (report : ReportValue) (table limit : ℕ) (rs : List Record) → IsOwn table (stream_of report table limit rs).fault
own_stream report table limit [] = (refl, refl)
own_stream report table limit (r ∷ rs) = own_under report table limit r rs (header_fault report table r) refl

-- The fault of a table's stream names that table, and is not NoThread.
pub own_table : (report : ReportValue) (table limit : ℕ) (file : Option (List ℕ)) → IsOwn table (table_stream report table limit file).fault
own_table report table limit None = own_unless (table_of report table).is_optional table kind.NoFile refl
own_table report table limit (Some bytes) = own_stream report table limit (grid bytes)
