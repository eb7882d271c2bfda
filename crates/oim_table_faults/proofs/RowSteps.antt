-- The faults of one row by what the program finds in turn, and its identifier.
use Rattle.std.proofs.Common.{◌≡◌, ◌∙◌, ◌++◌, ◌+◌, ℕ, Bool, true, false, not, List, [], ◌∷◌, Option, Some, None, option_map, unwrap_or, refl, sym, ap, subst, Result, Ok, Err, OnOk}
use Rattle.std.specs.Prelude.{◌||◌, if◌then◌else◌, is_none}
use Rattle.std.specs.Cmp.Lexicographic.{bytes_decides}
use Rattle.std.specs.List.{list_any, position_from}
use Rattle.std.specs.Str.{bytes_eq, is_utf8}
use Rattle.std.proofs.lemmas.Str.{IsUtf8-from_is_utf8}
use Rattle.csv.specs.Records.{AllText, field_at}
use Rattle.oim_records.specs.Grids.{Field, Record}
use Rattle.oim_row.specs.Rows.{RowValue}
use Rattle.oim_rows.specs.Header.{fault_at, or_else}
use Rattle.oim_rows.specs.RowFacts.{TableHeaderValue, id_fault, id_place_of, ids_after, is_not_text, limit_fault, ragged_fault, row_fault, text_fault}
use Rattle.oim_rows.specs.declared.fault.TableFault.{TableFault}
use Rattle.oim_rows.specs.declared.fault.TableKind.TheVariants as kind
use Rattle.oim_table_faults.specs.TableFaults.{alone_or, cell_faults, faults_of_row, ids_up_to}
use Rattle.oim_table_faults.specs.state.Rows.{HaveSame, repeats}
use Rattle.oim_table_faults.proofs.FirstFaults.{ids_with}
use Rattle.oim_table_faults.proofs.OwnFaults.{own_apart}
use Rattle.oim_table_faults.proofs.ReadRows.{any_more}

-- THE ROW ITSELF

pub own_only : (g : TableHeaderValue) (n : ℕ) (ids : List Field) (r : Record) (e : TableFault) → row_fault g n [] r ≡ Some e → faults_of_row g n ids r ≡ alone_or (Some e) []
own_only g n ids r e is =
    ap (λ (o : Option TableFault). alone_or o (cell_faults g n r)) (own_apart g n ids r ∙ ap (λ o. or_else o (repeats g.table (id_place_of g) n ids r)) is)

pub own_keeps : (g : TableHeaderValue) (n : ℕ) (ids : List Field) (r : Record) (e : TableFault) → row_fault g n [] r ≡ Some e → HaveSame ids (ids_up_to g n ids r)
own_keeps g n ids r e is = λ id. ap (λ (o : Option TableFault). list_any (bytes_eq id) (if is_none o then ids_after (id_place_of g) ids r else ids)) (sym is)

-- Without such a fault: that of a repeated identifier, or else those of its cells.
pub then_cells : (g : TableHeaderValue) (n : ℕ) (ids : List Field) (r : Record) (o : Option TableFault) → row_fault g n [] r ≡ None → o ≡ repeats g.table (id_place_of g) n ids r
    → faults_of_row g n ids r ≡ alone_or o (cell_faults g n r)
then_cells g n ids r o none is =
    ap (λ (x : Option TableFault). alone_or x (cell_faults g n r)) (own_apart g n ids r ∙ ap (λ x. or_else x (repeats g.table (id_place_of g) n ids r)) none ∙ sym is)

pub then_keeps : (g : TableHeaderValue) (n : ℕ) (ids new : List Field) (r : Record) → row_fault g n [] r ≡ None → HaveSame new (ids_after (id_place_of g) ids r) → HaveSame new (ids_up_to g n ids r)
then_keeps g n ids new r none same = λ id. same id ∙ ap (list_any (bytes_eq id)) (sym (ids_with g n ids r none))

pub kept_by : (x : RowValue) (g : TableHeaderValue) (n : ℕ) (ids new : List Field) (texts r : Record) → x ≡ record { header = g; number = n; fields = texts } → texts ≡ r → row_fault g n [] r ≡ None
    → HaveSame new (ids_after (id_place_of x.header) ids x.fields) → HaveSame new (ids_up_to g n ids r)
kept_by x g n ids new texts r is same none kept =
    let row : x ≡ record { header = g; number = n; fields = r } = is ∙ ap (λ (t : Record). record { header = g; number = n; fields = t }) same in
    then_keeps g n ids new r none (subst (λ (y : RowValue). HaveSame new (ids_after (id_place_of y.header) ids y.fields)) row kept)

pub on_ok : {A E : Type 0} (result : Result A E) (P : Type 0) → P → OnOk result P
on_ok (Ok given) P h = h
on_ok (Err e) P h = tt

-- What was found without identifiers.
pub own_none : (g : TableHeaderValue) (n : ℕ) (ids : List Field) (r : Record) (found : Option TableFault) → ids ≡ [] → found ≡ row_fault g n ids r → found ≡ None → row_fault g n [] r ≡ None
own_none g n ids r found empty is none = subst (λ (t : List Field). row_fault g n t r ≡ None) empty (sym is ∙ none)

-- A row without such a fault is text.
second_none : (a b c : Option TableFault) → or_else a (or_else b c) ≡ None → b ≡ None
second_none None None c none = refl
second_none None (Some x) c none = cc none
second_none (Some x) b c none = cc none

all_text : (n : ℕ) (r : List (List ℕ)) → position_from is_not_text n r ≡ None → AllText r
unfolding AllText
all_text n [] none = tt
all_text n (f ∷ fs) none = by (is_utf8 f) refl none (all_text (n + 1) fs)
  where
    by : (b : Bool) → is_utf8 f ≡ b → position_from is_not_text n (f ∷ fs) ≡ None → (position_from is_not_text (n + 1) fs ≡ None → AllText fs) → AllText (f ∷ fs)
    by true e k more = (IsUtf8-from_is_utf8 f e, more (rw e at k))
    by false e k more = let some : Some n ≡ None = rw e at k in cc some

pub text_row : (g : TableHeaderValue) (n : ℕ) (ids : List Field) (r : Record) → row_fault g n ids r ≡ None → AllText r
text_row g n ids r none =
    all_text 0 r (by (position_from is_not_text 0 r) (second_none (ragged_fault g n r) (text_fault g n r) (or_else (limit_fault g n) (id_fault g (id_place_of g) n ids r)) none))
  where
    by : (o : Option ℕ) → option_map (λ p. fault_at g.table n (p + 1) kind.NotUtf8) o ≡ None → o ≡ None
    by None that = refl
    by (Some p) that = cc that

-- ITS IDENTIFIER

or_false : (b : Bool) → (b || false) ≡ b
or_false true = refl
or_false false = refl

-- An identifier that is there already adds none.
there_already : (ids : List Field) (id : Field) → list_any (bytes_eq id) ids ≡ true → HaveSame ids (ids ++ id ∷ [])
there_already ids id there = λ x. sym (any_more (bytes_eq x) ids id ∙ by x (bytes_eq x id) refl)
  where
    by : (x : Field) (b : Bool) → bytes_eq x id ≡ b → (list_any (bytes_eq x) ids || (b || false)) ≡ list_any (bytes_eq x) ids
    by x false e = or_false (list_any (bytes_eq x) ids)
    by x true e =
        let same : x ≡ id = (bytes_decides x id).0 e in
        let is : list_any (bytes_eq x) ids ≡ true = ap (λ (f : Field). list_any (bytes_eq f) ids) same ∙ there in
        rw is refl

-- The text of an identifier was added unless it was there.
pub added_or_there : (table : ℕ) (p n : ℕ) (ids new : List Field) (r : Record) (id : Field) (added : Bool) → id ≡ unwrap_or (field_at r p) [] → added ≡ not (list_any (bytes_eq id) ids)
    → new ≡ (if added then ids ++ id ∷ [] else ids)
    → ((if added then None else Some (fault_at table n (p + 1) kind.RepeatedRowId)) ≡ repeats table (Some p) n ids r) × HaveSame new (ids_after (Some p) ids r)
added_or_there table p n ids new r id added text is kept = by (list_any (bytes_eq id) ids) refl added is kept
  where
    by : (b : Bool) → list_any (bytes_eq id) ids ≡ b → (added : Bool) → added ≡ not b → new ≡ (if added then ids ++ id ∷ [] else ids)
        → ((if added then None else Some (fault_at table n (p + 1) kind.RepeatedRowId)) ≡ repeats table (Some p) n ids r) × HaveSame new (ids_after (Some p) ids r)
    by true e true is kept = cc is
    by true e false is kept = rw (← text, e, kept) (refl, there_already ids id e)
    by false e true is kept = rw (← text, e, kept) (refl, λ x. refl)
    by false e false is kept = cc is
