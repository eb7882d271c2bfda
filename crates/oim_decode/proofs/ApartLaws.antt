-- The stream of rows equals the rows decoded without the earlier ones, joined by the identifiers
-- before them.
use Rattle.std.proofs.Common.{◌≡◌, ◌++◌, ◌+◌, ℕ, suc, List, [], ◌∷◌, Bool, true, false, not, length, take, Option, Some, None, option_map, unwrap_or, Result, Ok, Err}
use Rattle.std.proofs.Common.{refl, sym, ap, ◌∙◌, arith, append-nil, append_assoc, add-zero}
use Rattle.std.specs.Prelude.{if◌then◌else◌}
use Rattle.std.specs.List.{list_any}
use Rattle.std.specs.Str.{bytes_eq}
use Rattle.csv.specs.Records.{field_at}
use Rattle.oim_names.specs.Names.{is_row_identifier}
use Rattle.oim_records.specs.Grids.{Field, Record}
use Rattle.oim_resolve.specs.FactParts.{FactParts as Fact}
use Rattle.oim_decode.specs.Apart.{Apart, apart_from, apart_row, cut_at, id_in, joined_piece, repeated_from, repeated_id}
use Rattle.oim_rows.specs.Header.{fault_at, is_empty, or_else}
use Rattle.oim_decode.specs.Pieces.{PieceThenRest, RowsInPieces, pieces_from, records_of, stream_then, stream_until}
use Rattle.oim_rows.specs.RowFacts.{TableHeaderValue, checked, facts_from, id_fault, id_place_of, ids_after, limit_fault, ragged_fault, row_fault, row_of, row_result, text_fault}
use Rattle.oim_rows.specs.Streams.{Stream, ending, row_in_front, stream_from}
use Rattle.oim_rows.specs.WholeTable.{ids_of}
use Rattle.oim_rows.specs.declared.fault.TableFault.{TableFault}
use Rattle.oim_rows.specs.declared.fault.TableKind.TheVariants as kind

-- A ROW

-- The fault of a repeated identifier.
abbrev pub repeats_at : ℕ → Option ℕ → ℕ → List Field → Record → Option TableFault
repeats_at table None n before r = None
repeats_at table (Some p) n before r = if list_any (bytes_eq (unwrap_or (field_at r p) [])) before then Some (fault_at table n (p + 1) kind.RepeatedRowId) else None

id_fault-apart : (g : TableHeaderValue) (o : Option ℕ) (n : ℕ) (before : List Field) (r : Record) → id_fault g o n before r ≡ or_else (id_fault g o n [] r) (repeats_at g.table o n before r)
id_fault-apart g None n before r = refl
id_fault-apart g (Some p) n before r = by (is_empty f) (is_row_identifier f) (list_any (bytes_eq f) before)
  where
    f : Field
    f = unwrap_or (field_at r p) []

    by : (e i a : Bool)
        → option_map (fault_at g.table n (p + 1)) (if e then Some kind.MissingRowId else if not i then Some kind.BadRowId else if a then Some kind.RepeatedRowId else None)
        ≡ or_else (option_map (fault_at g.table n (p + 1)) (if e then Some kind.MissingRowId else if not i then Some kind.BadRowId else if false then Some kind.RepeatedRowId else None))
        (if a then Some (fault_at g.table n (p + 1) kind.RepeatedRowId) else None)
    by true i a = refl
    by false true true = refl
    by false true false = refl
    by false false a = refl

-- The fault of a row apart from its cells: its own fault first, and then a repeated identifier.
pub row_fault-apart : (g : TableHeaderValue) (n : ℕ) (before : List Field) (r : Record) → row_fault g n before r ≡ or_else (row_fault g n [] r) (repeats_at g.table (id_place_of g) n before r)
row_fault-apart g n before r =
    by (ragged_fault g n r) (text_fault g n r) (limit_fault g n) (id_fault g (id_place_of g) n [] r) (id_fault g (id_place_of g) n before r)
    (repeats_at g.table (id_place_of g) n before r) (id_fault-apart g (id_place_of g) n before r)
  where
    by : (a b c d e x : Option TableFault) → e ≡ or_else d x → or_else a (or_else b (or_else c e)) ≡ or_else (or_else a (or_else b (or_else c d))) x
    by (Some f) b c d e x h = refl
    by None (Some f) c d e x h = refl
    by None None (Some f) d e x h = refl
    by None None None d e x h = h

pub ids_and : (o : Option ℕ) (ids : List Field) (r : Record) → ids_after o ids r ≡ ids ++ id_in o r
ids_and None ids r = sym (append-nil ids)
ids_and (Some p) ids r = refl

-- REPEATED IDENTIFIERS

pub repeated_shifts : (k : ℕ) (before ids : List Field) → repeated_from (suc k) before ids ≡ option_map suc (repeated_from k before ids)
repeated_shifts k before [] = refl
repeated_shifts k before (id ∷ ids) = by (list_any (bytes_eq id) before) (repeated_shifts (k + 1) (before ++ id ∷ []) ids)
  where
    by : (b : Bool) → repeated_from (suc (k + 1)) (before ++ id ∷ []) ids ≡ option_map suc (repeated_from (k + 1) (before ++ id ∷ []) ids)
        → (if b then Some (suc k) else repeated_from (suc k + 1) (before ++ id ∷ []) ids) ≡ option_map suc (if b then Some k else repeated_from (k + 1) (before ++ id ∷ []) ids)
    by true more = refl
    by false more = let one : suc k + 1 ≡ suc (k + 1) = omega arith in ap (λ i. repeated_from i (before ++ id ∷ []) ids) one ∙ more

-- A row before a piece that is cut.
cut_later : (g : TableHeaderValue) (n : ℕ) (facts : List Fact) (ids : List Field) (rest : Apart) (o : Option ℕ)
    → cut_at g n (option_map suc o) (record { rows = facts ∷ rest.rows; ids = ids; fault = rest.fault }) ≡ row_in_front (Ok facts) (cut_at g (n + 1) o rest)
cut_later g n facts ids rest None = refl
cut_later g n facts ids rest (Some k) =
    let one : n + suc k ≡ (n + 1) + k = omega arith in
    ap (λ m. record { rows = facts ∷ take k rest.rows; fault = Some (repeated_id g m) }) one

-- A piece that is cut at its first row.
cut_first : (g : TableHeaderValue) (n : ℕ) (a : Apart) → cut_at g n (Some 0) a ≡ ending (Some (repeated_id g n))
cut_first g n a = ap (λ m. ending (Some (repeated_id g m))) (add-zero n)

-- A row with an identifier before a piece.
joined_id : (g : TableHeaderValue) (n : ℕ) (before : List Field) (own : Option TableFault) (facts : Result (List Fact) TableFault) (f : Field) (rest : Apart)
    → joined_piece g n before (apart_row own facts (f ∷ []) rest)
    ≡ row_in_front (checked (or_else own (if list_any (bytes_eq f) before then Some (repeated_id g n) else None)) facts) (joined_piece g (n + 1) (before ++ f ∷ []) rest)
joined_id g n before (Some e) facts f rest = refl
joined_id g n before None (Err e) f rest = by (list_any (bytes_eq f) before)
  where
    by : (b : Bool) → cut_at g n (if b then Some 0 else None) (record { rows = []; ids = f ∷ []; fault = Some e })
        ≡ row_in_front (checked (if b then Some (repeated_id g n) else None) (Err e)) (joined_piece g (n + 1) (before ++ f ∷ []) rest)
    by true = cut_first g n (record { rows = []; ids = f ∷ []; fault = Some e })
    by false = refl
joined_id g n before None (Ok facts) f rest = by (list_any (bytes_eq f) before)
  where
    whole : Apart
    whole = record { rows = facts ∷ rest.rows; ids = f ∷ rest.ids; fault = rest.fault }

    by : (b : Bool) → cut_at g n (if b then Some 0 else repeated_from 1 (before ++ f ∷ []) rest.ids) whole
        ≡ row_in_front (checked (if b then Some (repeated_id g n) else None) (Ok facts)) (joined_piece g (n + 1) (before ++ f ∷ []) rest)
    by true = cut_first g n whole
    by false = ap (λ o. cut_at g n o whole) (repeated_shifts 0 (before ++ f ∷ []) rest.ids) ∙ cut_later g n facts (f ∷ rest.ids) rest (repeated_from 0 (before ++ f ∷ []) rest.ids)

-- A row before a piece of a table without identifiers.
joined_plain : (g : TableHeaderValue) (n : ℕ) (before : List Field) (own : Option TableFault) (facts : Result (List Fact) TableFault) (rest : Apart) → rest.ids ≡ []
    → joined_piece g n before (apart_row own facts [] rest) ≡ row_in_front (checked own facts) (joined_piece g (n + 1) before rest)
joined_plain g n before (Some e) facts rest none = refl
joined_plain g n before None (Err e) rest none = refl
joined_plain g n before None (Ok facts) rest none = rw none refl

no_ids : (g : TableHeaderValue) (n : ℕ) (rows : List Record) → id_place_of g ≡ None → (apart_from g n rows).ids ≡ []
unfolding apart_from
no_ids g n [] is = refl
no_ids g n (r ∷ rows) is = by (row_fault g n [] r) (facts_from g.report g.table (row_of g n r) 0 g.columns) (no_ids g (n + 1) rows is)
  where
    by : (own : Option TableFault) (facts : Result (List Fact) TableFault) → (apart_from g (n + 1) rows).ids ≡ [] → (apart_row own facts (id_in (id_place_of g) r) (apart_from g (n + 1) rows)).ids ≡ []
    by (Some e) facts more = refl
    by None (Err e) more = ap (λ o. id_in o r) is
    by None (Ok facts) more = ap (λ o. id_in o r ++ (apart_from g (n + 1) rows).ids) is ∙ more

joined_row : (g : TableHeaderValue) (n : ℕ) (before : List Field) (own : Option TableFault) (facts : Result (List Fact) TableFault) (r : Record) (rest : Apart) (o : Option ℕ) → id_place_of g ≡ o
    → (id_place_of g ≡ None → rest.ids ≡ [])
    → joined_piece g n before (apart_row own facts (id_in o r) rest) ≡ row_in_front (checked (or_else own (repeats_at g.table o n before r)) facts) (joined_piece g (n + 1) (before ++ id_in o r) rest)
joined_row g n before own facts r rest None is none =
    joined_plain g n before own facts rest (none is) ∙ ap (λ f. row_in_front (checked f facts) (joined_piece g (n + 1) before rest)) (plain own)
    ∙ ap (λ ids. row_in_front (checked (or_else own None) facts) (joined_piece g (n + 1) ids rest)) (sym (append-nil before))
  where
    plain : (a : Option TableFault) → a ≡ or_else a None
    plain None = refl
    plain (Some e) = refl
joined_row g n before own facts r rest (Some p) is none =
    joined_id g n before own facts (unwrap_or (field_at r p) []) rest
    ∙ ap (λ q. row_in_front (checked (or_else own (if list_any (bytes_eq (unwrap_or (field_at r p) [])) before then Some (fault_at g.table n (unwrap_or q 0 + 1) kind.RepeatedRowId) else None)) facts)
    (joined_piece g (n + 1) (before ++ unwrap_or (field_at r p) [] ∷ []) rest)) is

-- A stream is the join of its rows.
pub stream_joined : (g : TableHeaderValue) (n : ℕ) (ids : List Field) (rows : List Record) → stream_from g n ids rows ≡ joined_piece g n ids (apart_from g n rows)
unfolding stream_from apart_from
stream_joined g n ids [] = refl
stream_joined g n ids (r ∷ rows) =
    let facts = facts_from g.report g.table (row_of g n r) 0 g.columns in
    let rest = apart_from g (n + 1) rows in
    ap (λ o. row_in_front (checked o facts) (stream_from g (n + 1) (ids_after (id_place_of g) ids r) rows)) (row_fault-apart g n ids r)
    ∙ ap (row_in_front (checked (or_else (row_fault g n [] r) (repeats_at g.table (id_place_of g) n ids r)) facts))
    (stream_joined g (n + 1) (ids_after (id_place_of g) ids r) rows ∙ ap (λ before. joined_piece g (n + 1) before rest) (ids_and (id_place_of g) ids r))
    ∙ sym (joined_row g n ids (row_fault g n [] r) facts r rest (id_place_of g) refl (no_ids g (n + 1) rows))

-- ROWS AFTER ROWS

ids_more : (o : Option ℕ) (ids : List Field) (r : Record) (rows : List Record) → ids_after o ids r ++ ids_of o rows ≡ ids ++ ids_of o (r ∷ rows)
ids_more None ids r rows = refl
ids_more (Some p) ids r rows = append_assoc ids (unwrap_or (field_at r p) [] ∷ []) (ids_of (Some p) rows)

no_rows_ids : (o : Option ℕ) → ids_of o [] ≡ []
no_rows_ids None = refl
no_rows_ids (Some p) = refl

in_front_of_both : (a : Result (List Fact) TableFault) (s t : Stream) → row_in_front a (stream_then s t) ≡ stream_then (row_in_front a s) t
in_front_of_both (Err e) s t = refl
in_front_of_both (Ok facts) s t = by s.fault refl
  where
    by : (f : Option TableFault) → s.fault ≡ f → row_in_front (Ok facts) (stream_until s.fault s t) ≡ stream_until s.fault (row_in_front (Ok facts) s) t
    by None e = rw e refl
    by (Some x) e = rw e refl

pub stream_append : (g : TableHeaderValue) (n : ℕ) (ids : List Field) (xs ys : List Record)
    → stream_from g n ids (xs ++ ys) ≡ stream_then (stream_from g n ids xs) (stream_from g (n + length xs) (ids ++ ids_of (id_place_of g) xs) ys)
unfolding stream_from
stream_append g n ids [] ys =
    ap (λ m. stream_from g m ids ys) (sym (add-zero n)) ∙ ap (λ before. stream_from g (n + 0) before ys) (sym (append-nil ids) ∙ ap (λ t. ids ++ t) (sym (no_rows_ids (id_place_of g))))
stream_append g n ids (r ∷ xs) ys =
    let next = ids_after (id_place_of g) ids r in
    let m : (n + 1) + length xs ≡ n + length (r ∷ xs) = omega arith in
    let more = stream_append g (n + 1) next xs ys
    ∙ ap (λ k. stream_then (stream_from g (n + 1) next xs) (stream_from g k (next ++ ids_of (id_place_of g) xs) ys)) m
    ∙ ap (λ before. stream_then (stream_from g (n + 1) next xs) (stream_from g (n + length (r ∷ xs)) before ys)) (ids_more (id_place_of g) ids r xs) in
    ap (row_in_front (row_result g n ids r)) more
    ∙ in_front_of_both (row_result g n ids r) (stream_from g (n + 1) next xs) (stream_from g (n + length (r ∷ xs)) (ids ++ ids_of (id_place_of g) (r ∷ xs)) ys)

-- A piece without a fault has the identifiers of all its records.
pub whole_ids : (g : TableHeaderValue) (n : ℕ) (rows : List Record) → (apart_from g n rows).fault ≡ None → (apart_from g n rows).ids ≡ ids_of (id_place_of g) rows
unfolding apart_from
whole_ids g n [] none = sym (no_rows_ids (id_place_of g))
whole_ids g n (r ∷ rows) none = by (row_fault g n [] r) (facts_from g.report g.table (row_of g n r) 0 g.columns) none (whole_ids g (n + 1) rows)
  where
    more : (o : Option ℕ) → id_in o r ++ ids_of o rows ≡ ids_of o (r ∷ rows)
    more None = refl
    more (Some p) = refl

    by : (own : Option TableFault) (facts : Result (List Fact) TableFault) → (apart_row own facts (id_in (id_place_of g) r) (apart_from g (n + 1) rows)).fault ≡ None
        → ((apart_from g (n + 1) rows).fault ≡ None → (apart_from g (n + 1) rows).ids ≡ ids_of (id_place_of g) rows)
        → (apart_row own facts (id_in (id_place_of g) r) (apart_from g (n + 1) rows)).ids ≡ ids_of (id_place_of g) (r ∷ rows)
    by (Some e) facts none ids = cc none
    by None (Err e) none ids = cc none
    by None (Ok facts) none ids = ap (λ t. id_in (id_place_of g) r ++ t) (ids none) ∙ more (id_place_of g)

-- A piece with a fault has one after the join.
joined_ends : (g : TableHeaderValue) (n : ℕ) (before : List Field) (a : Apart) (e : TableFault) → a.fault ≡ Some e → (x : TableFault) × ((joined_piece g n before a).fault ≡ Some x)
joined_ends g n before a e is = by (repeated_from 0 before a.ids)
  where
    by : (o : Option ℕ) → (x : TableFault) × ((cut_at g n o a).fault ≡ Some x)
    by None = (e, is)
    by (Some k) = (repeated_id g (n + k), refl)

then_ends : (s t u : Stream) (e : TableFault) → s.fault ≡ Some e → stream_then s t ≡ stream_then s u
then_ends s t u e is = rw is refl

-- What follows a piece is read with the identifiers of the piece.
pub piece_then : (g : TableHeaderValue) (n : ℕ) (ids : List Field) (p : List Record) (next : List Field → Stream)
    → stream_then (joined_piece g n ids (apart_from g n p)) (next (ids ++ ids_of (id_place_of g) p)) ≡ stream_then (joined_piece g n ids (apart_from g n p)) (next (ids ++ (apart_from g n p).ids))
piece_then g n ids p next = by (apart_from g n p).fault refl
  where
    s : Stream
    s = joined_piece g n ids (apart_from g n p)

    by : (o : Option TableFault) → (apart_from g n p).fault ≡ o → stream_then s (next (ids ++ ids_of (id_place_of g) p)) ≡ stream_then s (next (ids ++ (apart_from g n p).ids))
    by None is = ap (λ t. stream_then s (next (ids ++ t))) (sym (whole_ids g n p is))
    by (Some e) is =
        let ends = joined_ends g n ids (apart_from g n p) e is in
        then_ends s (next (ids ++ ids_of (id_place_of g) p)) (next (ids ++ (apart_from g n p).ids)) ends.0 ends.1

pub piece_then_rest : PieceThenRest
piece_then_rest g n ids piece rest =
    stream_append g n ids piece rest ∙ ap (λ s. stream_then s (stream_from g (n + length piece) (ids ++ ids_of (id_place_of g) piece) rest)) (stream_joined g n ids piece)
    ∙ piece_then g n ids piece (λ before. stream_from g (n + length piece) before rest)

pub rows_in_pieces : RowsInPieces
unfolding pieces_from stream_from
rows_in_pieces g n ids [] = refl
rows_in_pieces g n ids (p ∷ ps) =
    piece_then_rest g n ids p (records_of ps)
    ∙ ap (stream_then (joined_piece g n ids (apart_from g n p))) (rows_in_pieces g (n + length p) (ids ++ (apart_from g n p).ids) ps)

pub then_assoc : (s t u : Stream) → stream_then (stream_then s t) u ≡ stream_then s (stream_then t u)
then_assoc s t u = by s.rows t.rows s.fault t.fault
  where
    by : (a b : List (List Fact)) (f h : Option TableFault)
        → stream_then (stream_then (record { rows = a; fault = f }) (record { rows = b; fault = h })) u
        ≡ stream_then (record { rows = a; fault = f }) (stream_then (record { rows = b; fault = h }) u)
    by a b (Some e) h = refl
    by a b None (Some e) = refl
    by a b None None = ap (λ r. record { rows = r; fault = u.fault }) (append_assoc a b u.rows)
