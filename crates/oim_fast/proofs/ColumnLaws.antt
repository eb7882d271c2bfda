-- What is kept of the columns of a header while columns of groups are added.
use Rattle.std.proofs.Common.{◌≡◌, ◌<◌, ◌+◌, ℕ, zero, suc, Bool, true, false, List, [], ◌∷◌, ◌++◌, length, map, take, get_or, Option, Some, None, refl, sym, ap, subst, ◌∙◌, append-nil, arith}
use Rattle.std.specs.Prelude.{◌==◌, ◌≤◌, slice_index_or, if◌then◌else◌}
use Rattle.std.specs.List.{All, position_from, slice_get}
use Rattle.std.specs.Option.{option_map}
use Rattle.std.proofs.lemmas.Bool.Decides.{Decides-eqb}
use Rattle.std.proofs.lemmas.List.{map-append, take_more}
use Rattle.std.proofs.lemmas.Option.{slice_get-get_or, slice_get-map}
use Rattle.oim_rows.specs.Header.{is_column}
use Rattle.oim_report.specs.Readers.{holds_facts, no_column}
use Rattle.oim_report.specs.declared.data.Column.{Column}
use Rattle.oim_rows.specs.RowFacts.{TableHeaderValue, is_fact_column}
use Rattle.oim_fast.specs.Facts.{fact_columns_in}
use Rattle.oim_fast.specs.state.Columns.{AreFactColumns, IsColumnAt, IsFactColumn, fact_column_at}
use Rattle.oim_row.specs.References.{Grows}
use Rattle.oim_row.specs.Rows.{columns_in}
use Rattle.oim_fast.specs.declared.frame.fact_column.FactColumn.{FactColumn}
use Rattle.oim_row.specs.declared.group_cells.GroupCell.{GroupCell}
use Rattle.oim_row.proofs.Growth.{all_push, slice_get-append}

-- THE HEADER

equal_self : (n : ℕ) → n == n ≡ true
equal_self n = (Decides-eqb n n).1 refl

by_first : (b : Bool) (n : ℕ) (rest : Option ℕ) → (if b then Some n else rest) ≡ None → (b ≡ false) × (rest ≡ None)
by_first true n rest e = absurd (cc)
by_first false n rest e = (refl, e)

-- A column that a header cell names has a place in the header.
pub has_place : (c n : ℕ) (h : List (Option ℕ)) (i : ℕ) → slice_get h i ≡ Some (Some c) → position_from (is_column c) n h ≡ None → ⊥
has_place c n [] i e none = absurd (cc)
has_place c n (o ∷ h) zero e none =
    let same : o ≡ Some c = cc in
    absurd (cc (ap (is_column c) same ∙ equal_self c, (by_first (is_column c o) n _ none).0))
has_place c n (o ∷ h) (suc i) e none = has_place c (n + 1) h i e (by_first (is_column c o) n _ none).1

by_kind : (b : Bool) (c : ℕ) (xs ys : List ℕ) → (if b then c ∷ (xs ++ ys) else xs ++ ys) ≡ (if b then c ∷ xs else xs) ++ ys
by_kind true c xs ys = refl
by_kind false c xs ys = refl

pub fact_columns-append : (f : TableHeaderValue) (a b : List (Option ℕ)) → fact_columns_in f (a ++ b) ≡ fact_columns_in f a ++ fact_columns_in f b
fact_columns-append f [] b = refl
fact_columns-append f (None ∷ a) b = fact_columns-append f a b
fact_columns-append f (Some c ∷ a) b =
    ap (λ xs. if is_fact_column (columns_in f) c then c ∷ xs else xs) (fact_columns-append f a b)
    ∙ by_kind (is_fact_column (columns_in f) c) c (fact_columns_in f a) (fact_columns_in f b)

-- One more header cell.
pub fact_columns_more : (f : TableHeaderValue) (i : ℕ) → i < length f.columns → fact_columns_in f (take (i + 1) f.columns) ≡ fact_columns_in f (take i f.columns) ++ fact_column_at f i
fact_columns_more f i lt = ap (fact_columns_in f) (take_more f.columns i None lt) ∙ fact_columns-append f (take i f.columns) (get_or f.columns i None ∷ [])

by_test : (b : Bool) (c : ℕ) → b ≡ false → (if b then c ∷ [] else []) ≡ []
by_test true c e = absurd (cc)
by_test false c e = refl

by_true : (b : Bool) (c : ℕ) → b ≡ true → (if b then c ∷ [] else []) ≡ c ∷ []
by_true true c e = refl
by_true false c e = absurd (cc)

-- A place of the header that names no column.
pub names_no_column : (f : TableHeaderValue) (i : ℕ) → get_or f.columns i None ≡ None → fact_column_at f i ≡ []
names_no_column f i e = ap (λ o. fact_columns_in f (o ∷ [])) e

pub names_no_facts : (f : TableHeaderValue) (i c : ℕ) → get_or f.columns i None ≡ Some c → is_fact_column (columns_in f) c ≡ false → fact_column_at f i ≡ []
names_no_facts f i c e test = ap (λ o. fact_columns_in f (o ∷ [])) e ∙ by_test (is_fact_column (columns_in f) c) c test

pub names_facts : (f : TableHeaderValue) (i c : ℕ) → get_or f.columns i None ≡ Some c → is_fact_column (columns_in f) c ≡ true → fact_column_at f i ≡ c ∷ []
names_facts f i c e test = ap (λ o. fact_columns_in f (o ∷ [])) e ∙ by_true (is_fact_column (columns_in f) c) c test

-- The kind of a template's column determines whether it holds facts.
pub kind_there : (xs : List Column) (c : ℕ) → c < length xs → is_fact_column xs c ≡ holds_facts (slice_index_or xs c no_column).kind
kind_there [] c lt = absurd (omega arith)
kind_there (x ∷ xs) zero lt = refl
kind_there (x ∷ xs) (suc c) lt = kind_there xs c (omega arith)

pub kind_past : (xs : List Column) (c : ℕ) → length xs ≤ c → is_fact_column xs c ≡ false
kind_past [] c le = refl
kind_past (x ∷ xs) zero le = absurd (omega arith)
kind_past (x ∷ xs) (suc c) le = kind_past xs c (omega arith)

-- A column that a place names has a place.
pub names_it : (h : List (Option ℕ)) (i c : ℕ) → i < length h → get_or h i None ≡ Some c → position_from (is_column c) 0 h ≡ None → ⊥
names_it h i c lt e none = has_place c 0 h i (slice_get-get_or h i None lt ∙ ap Some e) none

-- COLUMNS OF GROUPS

abbrev pub column_of : GroupCell → ℕ
column_of g = g.column

-- The column of the template that is kept at a place.
abbrev pub column_at : List GroupCell → ℕ → Option ℕ
column_at cells p = option_map column_of (slice_get cells p)

at_later : (cells more : List GroupCell) (p x : ℕ) → column_at cells p ≡ Some x → column_at (cells ++ more) p ≡ Some x
at_later cells more p x e = sym (slice_get-map column_of (cells ++ more) p) ∙ ap (λ xs. slice_get xs p) (map-append column_of cells more) ∙ slice_get-append (map column_of cells) (map column_of more) p x (slice_get-map column_of cells p ∙ e)

-- The places of columns of groups stay.
places_later : (cells more : List GroupCell) (ps xs : List ℕ) → map (column_at cells) ps ≡ map Some xs → map (column_at (cells ++ more)) ps ≡ map Some xs
places_later cells more [] [] e = refl
places_later cells more [] (x ∷ xs) e = absurd (cc)
places_later cells more (p ∷ ps) [] e = absurd (cc)
places_later cells more (p ∷ ps) (x ∷ xs) e =
    let one : column_at cells p ≡ Some x = cc in
    let rest : map (column_at cells) ps ≡ map Some xs = cc in
    ap (λ o. o ∷ map (column_at (cells ++ more)) ps) (at_later cells more p x one) ∙ ap (λ os. Some x ∷ os) (places_later cells more ps xs rest)

pub places_grow : (cells later : List GroupCell) (ps xs : List ℕ) → Grows cells later → map (column_at cells) ps ≡ map Some xs → map (column_at later) ps ≡ map Some xs
places_grow cells later ps xs g e = subst (λ (cs : List GroupCell). map (column_at cs) ps ≡ map Some xs) (sym g.is) (places_later cells g.more ps xs e)

-- One more place is that of one more column.
pub place_more : (cells : List GroupCell) (ps xs : List ℕ) (i p x d : ℕ) → i < length xs → x ≡ get_or xs i d → map (column_at cells) ps ≡ map Some (take i xs) → column_at cells p ≡ Some x
    → map (column_at cells) (ps ++ p ∷ []) ≡ map Some (take (i + 1) xs)
place_more cells ps xs i p x d lt is before here =
    map-append (column_at cells) ps (p ∷ []) ∙ ap (λ os. os ++ column_at cells p ∷ []) before ∙ ap (λ o. map Some (take i xs) ++ o ∷ []) here
    ∙ sym (ap (map Some) (take_more xs i d lt ∙ ap (λ y. take i xs ++ y ∷ []) (sym is)) ∙ map-append Some (take i xs) (x ∷ []))

-- COLUMNS OF FACTS

pub column_grows : (f : TableHeaderValue) (cells later : List GroupCell) (c : FactColumn) → Grows cells later → IsFactColumn f cells c → IsFactColumn f later c
column_grows f cells later c g is = record { range = is.range; there = is.there; level = is.level; lead = is.lead; from = is.from; groups = places_grow cells later c.groups.items _ g is.groups }

pub columns_grow : (f : TableHeaderValue) (cells later : List GroupCell) (cs : List FactColumn) → Grows cells later → All (IsFactColumn f cells) cs → All (IsFactColumn f later) cs
columns_grow f cells later cs g all k d lt = column_grows f cells later (get_or cs k d) g (all k d lt)

by_columns : (cells later : List GroupCell) (p : ℕ) → map column_of later ≡ map column_of cells → column_at later p ≡ column_at cells p
by_columns cells later p same = sym (slice_get-map column_of later p) ∙ ap (λ xs. slice_get xs p) same ∙ slice_get-map column_of cells p

places_same : (cells later : List GroupCell) (ps : List ℕ) → map column_of later ≡ map column_of cells → map (column_at later) ps ≡ map (column_at cells) ps
places_same cells later [] same = refl
places_same cells later (p ∷ ps) same = ap (λ o. o ∷ map (column_at later) ps) (by_columns cells later p same) ∙ ap (λ os. column_at cells p ∷ os) (places_same cells later ps same)

-- What is kept of a column does not depend on the rows' choices.
pub column_kept : (f : TableHeaderValue) (cells later : List GroupCell) (c : FactColumn) → map column_of later ≡ map column_of cells → IsFactColumn f cells c → IsFactColumn f later c
column_kept f cells later c same is =
    record { range = is.range; there = is.there; level = is.level; lead = is.lead; from = is.from; groups = places_same cells later c.groups.items same ∙ is.groups }

pub all_columns_kept : (f : TableHeaderValue) (cells later : List GroupCell) (cs : List FactColumn) → map column_of later ≡ map column_of cells → AreFactColumns f cells cs → AreFactColumns f later cs
all_columns_kept f cells later cs same are = record { columns = are.columns; are = λ k d lt. column_kept f cells later (get_or cs k d) same (are.are k d lt) }

-- One more place of the header.
abbrev with_column : List FactColumn → Option FactColumn → List FactColumn
with_column cs None = cs
with_column cs (Some c) = cs ++ c ∷ []

pub one_more : (f : TableHeaderValue) (cells later : List GroupCell) (cs : List FactColumn) (i : ℕ) (o : Option FactColumn) → i < length f.columns → Grows cells later
    → map (λ (c : FactColumn). c.column) cs ≡ fact_columns_in f (take i f.columns) → All (IsFactColumn f cells) cs → IsColumnAt f later i o
    → (map (λ (c : FactColumn). c.column) (with_column cs o) ≡ fact_columns_in f (take (i + 1) f.columns)) × All (IsFactColumn f later) (with_column cs o)
one_more f cells later cs i None lt g same are none =
    (same ∙ sym (fact_columns_more f i lt ∙ ap (λ xs. fact_columns_in f (take i f.columns) ++ xs) none ∙ append-nil _), columns_grow f cells later cs g are)
one_more f cells later cs i (Some c) lt g same are some = (
  map-append (λ (k : FactColumn). k.column) cs (c ∷ []) ∙ ap (λ xs. xs ++ c.column ∷ []) same ∙ sym (fact_columns_more f i lt ∙ ap (λ xs. fact_columns_in f (take i f.columns) ++ xs) some.0),
  all_push (IsFactColumn f later) cs c (columns_grow f cells later cs g are) some.1,
)

-- Where its frames may be has no effect.
pub guessed : (f : TableHeaderValue) (cells : List GroupCell) (c later : FactColumn) → later ≡ record c { last = later.last } → IsFactColumn f cells c → IsFactColumn f cells later
guessed f cells c later e is = subst (IsFactColumn f cells) (sym e) (record { range = is.range; there = is.there; level = is.level; lead = is.lead; from = is.from; groups = is.groups })

pub guessed_kind : (f : TableHeaderValue) (cells : List GroupCell) (c later : FactColumn) → later ≡ record c { last_of_kind = later.last_of_kind } → IsFactColumn f cells c → IsFactColumn f cells later
guessed_kind f cells c later e is = subst (IsFactColumn f cells) (sym e) (record { range = is.range; there = is.there; level = is.level; lead = is.lead; from = is.from; groups = is.groups })

pub same_one : (c later : FactColumn) → later ≡ record c { last = later.last } → later ≡ record c { last = later.last; last_of_kind = later.last_of_kind }
same_one c later e = e ∙ ap (λ (n : ℕ). record c { last = later.last; last_of_kind = n }) (sym (ap (λ (k : FactColumn). k.last_of_kind) e))

pub same_two : (c one two : FactColumn) → one ≡ record c { last = one.last } → two ≡ record one { last_of_kind = two.last_of_kind } → two ≡ record c { last = two.last; last_of_kind = two.last_of_kind }
same_two c one two p q =
    q ∙ ap (λ (k : FactColumn). record k { last_of_kind = two.last_of_kind }) p
    ∙ ap (λ (n : List ℕ). record c { last = n; last_of_kind = two.last_of_kind }) (sym (ap (λ (k : FactColumn). k.last) q))
