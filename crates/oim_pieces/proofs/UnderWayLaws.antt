-- The pieces under way, and the stream that is left with them.
use Rattle.std.proofs.Common.{◌≡◌, ◌++◌, ◌+◌, ◌≤◌, ◌<◌, ℕ, suc, List, [], ◌∷◌, length, Bool, true, false, if◌then◌else◌, Option, Some, None, IfSome, option_map, Result, Ok, Err, inl, inr, refl, sym, ap, subst, ◌∙◌, append-nil, append_assoc, arith}
use Rattle.std.proofs.lemmas.Grind.{flat_map-append}
use Rattle.csv.specs.Machine.{ends_at_end, is_end, step}
use Rattle.csv.specs.Reading.{default_config}
use Rattle.csv.specs.declared.parser.State.{State}
use Rattle.csv.specs.declared.parser.State.TheVariants as state
use Rattle.oim_records.specs.Cuts.{ended, state_after}
use Rattle.oim_records.specs.Grids.{Field, Record, records_left}
use Rattle.oim_records.specs.Reads.{KeepsLeft, left_known}
use Rattle.oim_records.proofs.RecordLaws.{left-count}
use Rattle.oim_resolve.specs.FactParts.{FactParts as Fact}
use Rattle.oim_rows.specs.RowFacts.{TableHeaderValue, facts_from, id_place_of, row_fault, row_of}
use Rattle.oim_rows.specs.Streams.{Stream, ending, stream_from}
use Rattle.oim_rows.specs.declared.fault.TableFault.{TableFault}
use Rattle.oim_decode.specs.Apart.{Apart, apart_from, apart_row, cut_at, id_in, repeated_from}
use Rattle.oim_decode.specs.Blocks.{ReadsRows}
use Rattle.oim_decode.specs.PieceAnswers.{IsJoined, IsPieceDecoded, fault_or_next}
use Rattle.oim_decode.proofs.JoinLaws.{piece_is_read}
use Rattle.oim_decode.proofs.PieceSteps.{within_limit}
use Rattle.oim_pieces.specs.state.Cutting.{CutterLeft, IsOver, TakesRows}
use Rattle.oim_pieces.specs.PiecesLeft.{KeepsStream}
use Rattle.oim_pieces.specs.state.PiecesUnderWay.{AreChained, UnderWayLeft, PieceRowsLeft, IsEndOfTable, IsFront, IsPieceAnswer, ReadsJoined, fault_or_left, first_row_of, next_row, rows_in, rows_left, stream_in}

-- COUNTS

-- A text has at most one more record than bytes.
ends-few : (s : State) (xs : List ℕ) → ended s xs ≤ length xs
unfolding ended
ends-few s [] = omega arith
ends-few s (c ∷ xs) = by (is_end (step default_config s c).1) (ends-few (step default_config s c).0 xs)
  where
    by : (b : Bool) → ended (step default_config s c).0 xs ≤ length xs → (if b then 1 else 0) + ended (step default_config s c).0 xs ≤ suc (length xs)
    by true few = omega (arith, few)
    by false few = omega (arith, few)

pub rows_few : (xs : List ℕ) → length (records_left state.StartRecord xs) ≤ 1 + length xs
rows_few xs = by (ends_at_end (state_after state.StartRecord xs)) (left-count state.StartRecord xs)
  where
    by : (b : Bool) → length (records_left state.StartRecord xs) ≡ ended state.StartRecord xs + (if b then 1 else 0) → length (records_left state.StartRecord xs) ≤ 1 + length xs
    by true is = let few = ends-few state.StartRecord xs in omega (arith, few, is)
    by false is = let few = ends-few state.StartRecord xs in omega (arith, few, is)

-- ONE MORE PIECE

pub next_more : (fs : List PieceRowsLeft) (f : PieceRowsLeft) (next next' : ℕ) → f.first ≡ next → first_row_of (fs ++ f ∷ []) next' ≡ first_row_of fs next
next_more [] f next next' at = at
next_more (x ∷ fs) f next next' at = refl

pub chained_more : (g : TableHeaderValue) (fs : List PieceRowsLeft) (f : PieceRowsLeft) (next next' : ℕ) → AreChained g fs next → f.header ≡ g → f.first ≡ next
    → 1 ≤ length f.rows → f.first + length f.rows ≡ next' → AreChained g (fs ++ f ∷ []) next'
chained_more g [] f next next' chain reads at some more = (reads, some, more, tt)
chained_more g (x ∷ fs) f next next' chain reads at some more =
    (chain.0, chain.1, chain.2 ∙ sym (next_more fs f next next' at), chained_more g fs f next next' chain.3 reads at some more)

rows-more : (fs : List PieceRowsLeft) (f : PieceRowsLeft) → rows_in (fs ++ f ∷ []) ≡ rows_in fs ++ f.rows
rows-more fs f = flat_map-append (λ (x : PieceRowsLeft). x.rows) fs (f ∷ []) ∙ ap (λ t. rows_in fs ++ t) (append-nil f.rows)

module _ (g : TableHeaderValue) (ids : List Field) (fs : List PieceRowsLeft) where
  pub stream_more : (f : PieceRowsLeft) (next next' : ℕ) (left left' : Option (List Record)) → f.first ≡ next → TakesRows left f.rows left'
      → KeepsStream (rows_left g ids fs next left) (rows_left g ids (fs ++ f ∷ []) next' left')
  stream_more f next next' None left' at takes = tt
  stream_more f next next' (Some records) None at takes = absurd takes
  stream_more f next next' (Some records) (Some rest) at takes =
      let all : rows_in (fs ++ f ∷ []) ++ rest ≡ rows_in fs ++ records =
      ap (λ t. t ++ rest) (rows-more fs f) ∙ append_assoc (rows_in fs) f.rows rest ∙ ap (λ t. rows_in fs ++ t) (sym takes) in
      ap (λ n. some (stream_from g n ids (rows_in (fs ++ f ∷ []) ++ rest))) (next_more fs f next next' at) ∙ ap (λ t. some (stream_from g (first_row_of fs next) ids t)) all
    where
      some : Stream → Option Stream
      some s = Some s

  pub stream_kept : (next : ℕ) (left left' : Option (List Record)) → KeepsLeft left left' → KeepsStream (rows_left g ids fs next left) (rows_left g ids fs next left')
  stream_kept next None left' same = tt
  stream_kept next (Some xs) None same = absurd same
  stream_kept next (Some xs) (Some ys) same = ap (λ t. some (stream_from g (first_row_of fs next) ids (rows_in fs ++ t))) same
    where
      some : Stream → Option Stream
      some s = Some s

pub stream_same : (o : Option Stream) → KeepsStream o o
stream_same None = tt
stream_same (Some s) = refl

pub stream_then : (a b c : Option Stream) → KeepsStream a b → KeepsStream b c → KeepsStream a c
stream_then None b c ab bc = tt
stream_then (Some s) b c ab bc = subst (λ o. KeepsStream o c) ab bc

-- THE FIRST PIECE

-- Rows that are decoded without a fault are within the limit.
rows-within : (g : TableHeaderValue) (n : ℕ) (rows : List Record) → (apart_from g n rows).fault ≡ None → 1 ≤ length rows → n + length rows ≤ g.limit + 1
unfolding apart_from
rows-within g n [] none some = absurd (omega (arith, some))
rows-within g n (r ∷ rows) none some = by (row_fault g n [] r) refl (facts_from g.report g.table (row_of g n r) 0 g.columns) (rows-within g (n + 1) rows) none
  where
    behind : (rs : List Record) → (1 ≤ length rs → (n + 1) + length rs ≤ g.limit + 1) → n ≤ g.limit → n + length (r ∷ rs) ≤ g.limit + 1
    behind [] more within = omega (arith, within)
    behind (x ∷ rs) more within = let fits = more (omega arith) in omega (arith, fits)

    by : (own : Option TableFault) → row_fault g n [] r ≡ own → (facts : Result (List Fact) TableFault)
        → ((apart_from g (n + 1) rows).fault ≡ None → 1 ≤ length rows → (n + 1) + length rows ≤ g.limit + 1)
        → (apart_row own facts (id_in (id_place_of g) r) (apart_from g (n + 1) rows)).fault ≡ None → n + length (r ∷ rows) ≤ g.limit + 1
    by (Some e) is facts more fine = cc fine
    by None is (Err e) more fine = cc fine
    by None is (Ok facts) more fine = behind rows (more fine) (within_limit g n [] r is)

-- A joined piece without a fault was decoded without one.
joined-fine : (g : TableHeaderValue) (n : ℕ) (before : List Field) (a : Apart) (s : Stream) → IsJoined g n before a s → s.fault ≡ None → a.fault ≡ None
joined-fine g n before a s (inl is) none = by (repeated_from 0 before a.ids) (ap (λ (t : Stream). t.fault) (sym is) ∙ none)
  where
    by : (o : Option ℕ) → (cut_at g n o a).fault ≡ None → a.fault ≡ None
    by None fine = fine
    by (Some k) fine = cc fine
joined-fine g n before a s (inr is) none = cc (ap (λ (t : Stream). t.fault) (sym is) ∙ none)

decoded-fine : (g : TableHeaderValue) (n : ℕ) (rows : List Record) (a : Apart) → IsPieceDecoded g n rows a → a.fault ≡ None → (apart_from g n rows).fault ≡ None
decoded-fine g n rows a (inl is) none = ap (λ (x : Apart). x.fault) (sym is) ∙ none
decoded-fine g n rows a (inr short) none = cc (ap (λ (x : Apart). x.fault) (sym short.is) ∙ none)

module _ (old : UnderWayLeft) (g : TableHeaderValue) (ids : List Field) (all fs : List PieceRowsLeft) (f : PieceRowsLeft) (cutter : CutterLeft) where
  -- The first piece has a row.
  pub next_joined : record { header = g; ids = ids; pieces = all; cutter = cutter } ≡ old → all ≡ f ∷ fs → AreChained g all cutter.next → next_row old < first_row_of fs cutter.next
  next_joined view is chain = by (subst (λ l. AreChained g l cutter.next) is chain) (ap next_row (sym view) ∙ ap (λ l. first_row_of l cutter.next) is)
    where
      by : AreChained g (f ∷ fs) cutter.next → next_row old ≡ f.first → next_row old < first_row_of fs cutter.next
      by linked at = let some = linked.1 in let sum = linked.2 in omega (arith, some, sum, at)

  -- Without a fault its rows are within the limit.
  pub few_joined : (ids' : List Field) (s : Stream) → record { header = g; ids = ids; pieces = all; cutter = cutter } ≡ old → all ≡ f ∷ fs → AreChained g all cutter.next
      → g.limit ≡ cutter.limit → IsFront f ids s ids' → s.fault ≡ None → first_row_of fs cutter.next ≤ old.cutter.limit + 1
  few_joined ids' s view is chain limits front none =
      let linked = subst (λ l. AreChained g l cutter.next) is chain in
      let fine = decoded-fine f.header f.first f.rows front.answer front.decoded (joined-fine f.header f.first ids front.answer s front.joined none) in
      let within = rows-within f.header f.first f.rows fine linked.1 in
      let limit : f.header.limit ≡ old.cutter.limit = ap (λ (h : TableHeaderValue). h.limit) linked.0 ∙ limits ∙ ap (λ (v : UnderWayLeft). v.cutter.limit) view in
      let sum = linked.2 in
      omega (arith, within, limit, sum)

next-behind : (g : TableHeaderValue) (ids ids' : List Field) (n m : ℕ) (o : Option TableFault) (rest : List Record) → n ≡ m → (o ≡ None → ids ≡ ids')
    → Some (fault_or_next o (stream_from g n ids rest)) ≡ fault_or_left o (Some (stream_from g m ids' rest))
next-behind g ids ids' n m None rest at same = ap (λ k. some (stream_from g k ids rest)) at ∙ ap (λ l. some (stream_from g m l rest)) (same refl)
  where
    some : Stream → Option Stream
    some s = Some s
next-behind g ids ids' n m (Some e) rest at same = refl

pub front_read : (g : TableHeaderValue) (ids ids' : List Field) (f : PieceRowsLeft) (fs : List PieceRowsLeft) (next : ℕ) (left : Option (List Record)) (s : Stream)
    → AreChained g (f ∷ fs) next → IsFront f ids s ids'
    → IfSome (rows_left g ids (f ∷ fs) next left) (λ whole. ReadsJoined g.table whole s (rows_left g ids' fs next left))
front_read g ids ids' f fs next None s chain front = tt
front_read g ids ids' f fs next (Some rest) s chain front =
    let a = front.answer in
    let decoded : IsPieceDecoded g f.first f.rows a = subst (λ (x : TableHeaderValue). IsPieceDecoded x f.first f.rows a) chain.0 front.decoded in
    let joined : IsJoined g f.first ids a s = subst (λ (x : TableHeaderValue). IsJoined x f.first ids a s) chain.0 front.joined in
    let read = piece_is_read g f.first ids f.rows (rows_in fs ++ rest) a s decoded joined in
    let left = next-behind g (ids ++ a.ids) ids' (f.first + length f.rows) (first_row_of fs next) s.fault (rows_in fs ++ rest) chain.2 (λ none. sym (front.behind none)) in
    subst (λ (t : List Record). ReadsJoined g.table (stream_from g f.first ids t) s (Some (stream_from g (first_row_of fs next) ids' (rows_in fs ++ rest))))
    (sym (append_assoc f.rows (rows_in fs) rest))
    (subst (λ o. ReadsRows g.table (stream_from g f.first ids (f.rows ++ (rows_in fs ++ rest))) s.rows o) left read)

-- If no row is left, the stream is at its end.
pub none_left : (g : TableHeaderValue) (n : ℕ) (ids : List Field) → stream_from g n ids [] ≡ ending None
unfolding stream_from
none_left g n ids = refl

-- If no piece is under way and nothing more is cut, the table ends.
pub end_found : (table : ℕ) (g : TableHeaderValue) (ids : List Field) (next : ℕ) (left : Option (List Record)) (o : Option TableFault) → IsOver table left o
    → IsEndOfTable table (rows_left g ids [] next left) o
end_found table g ids next None None over = tt
end_found table g ids next (Some records) None over = ap (stream_from g next ids) over ∙ none_left g next ids
end_found table g ids next left (Some e) over = over

-- An answer for equal rows of an equal header is an answer for the piece.
pub answer_same : (g g' : TableHeaderValue) (first first' : ℕ) (rows rows' : List Record) (a : Apart) → IsPieceAnswer g' first' rows' a → g' ≡ g → first' ≡ first → rows' ≡ rows → IsPieceAnswer g first rows a
answer_same g g' first first' rows rows' a is header at same =
    subst (λ r. IsPieceAnswer g first r a) same (subst (λ n. IsPieceAnswer g n rows' a) at (subst (λ (x : TableHeaderValue). IsPieceAnswer x first' rows' a) header is))

-- The first piece under way is joined, and the others stay under way.
pub joined_front : (old : UnderWayLeft) (g g' : TableHeaderValue) (ids ids' : List Field) (f : PieceRowsLeft) (all fs : List PieceRowsLeft) (cutter : CutterLeft) (s : Stream)
    → record { header = g; ids = ids; pieces = all; cutter = cutter } ≡ old → all ≡ f ∷ fs → g.table ≡ cutter.table → AreChained g all cutter.next → IsFront f ids s ids'
    → g' ≡ g → IfSome (stream_in old) (λ whole. ReadsJoined old.cutter.table whole s (stream_in (record { header = g'; ids = ids'; pieces = fs; cutter = cutter })))
joined_front old g g' ids ids' f all fs cutter s view is table chain front same =
    let next = cutter.next in
    let left = cutter.left in
    let read = front_read g ids ids' f fs next left s (subst (λ l. AreChained g l next) is chain) front in
    let placed = subst (λ t. IfSome (rows_left g ids (f ∷ fs) next left) (λ whole. ReadsJoined t whole s (rows_left g ids' fs next left))) table read in
    let whole = subst (λ l. IfSome (rows_left g ids l next left) (λ whole. ReadsJoined cutter.table whole s (rows_left g ids' fs next left))) (sym is) placed in
    let new = subst (λ (h : TableHeaderValue). IfSome (rows_left g ids all next left) (λ whole. ReadsJoined cutter.table whole s (rows_left h ids' fs next left))) (sym same) whole in
    subst (λ (v : UnderWayLeft). IfSome (stream_in v) (λ whole. ReadsJoined v.cutter.table whole s (rows_left g' ids' fs next left))) view new

-- THE REST

-- The records of a piece, and those of the text after it.
records-behind : (g : TableHeaderValue) (n : ℕ) (ids : List Field) (rows : List Record) (text : Option (List ℕ))
    → option_map (stream_from g n ids) (left_known rows text) ≡ option_map (λ records. stream_from g n ids (rows ++ records)) (left_known [] text)
records-behind g n ids rows None = refl
records-behind g n ids rows (Some xs) = refl

pub rest_blocks : (g g' : TableHeaderValue) (n : ℕ) (ids : List Field) (rows : List Record) (text : Option (List ℕ)) (left cut : Option (List Record)) (stream : Option Stream)
    → g' ≡ g → left ≡ left_known rows text → left_known [] text ≡ cut → stream ≡ option_map (stream_from g' n ids) left
    → stream ≡ option_map (λ records. stream_from g n ids (rows ++ records)) cut
rest_blocks g g' n ids rows text left cut stream reads of_piece after is =
    is ∙ ap (λ o. option_map (stream_from g' n ids) o) of_piece ∙ ap (λ (x : TableHeaderValue). option_map (stream_from x n ids) (left_known rows text)) reads
    ∙ records-behind g n ids rows text ∙ ap (λ o. option_map (λ records. stream_from g n ids (rows ++ records)) o) after

-- The only piece under way was taken. Its rows and those after it are the stream.
pub rest_stream : (old new : UnderWayLeft) (n : ℕ) (rows : List Record) (stream : Option Stream) → new ≡ record old { pieces = [] } → n ≡ next_row old → rows_in old.pieces ≡ rows
    → stream ≡ option_map (λ records. stream_from new.header n new.ids (rows ++ records)) new.cutter.left → stream ≡ stream_in old
rest_stream old new n rows stream taken at are is =
    is ∙ ap (λ (v : UnderWayLeft). option_map (λ records. stream_from v.header n v.ids (rows ++ records)) v.cutter.left) taken
    ∙ ap (λ k. option_map (λ records. stream_from old.header k old.ids (rows ++ records)) old.cutter.left) at
    ∙ ap (λ t. option_map (λ records. stream_from old.header (next_row old) old.ids (t ++ records)) old.cutter.left) (sym are)

pub only_piece : (fs rest : List PieceRowsLeft) (f : PieceRowsLeft) → fs ≡ f ∷ rest → length fs ≡ 1 → rest ≡ []
only_piece fs [] f is one = refl
only_piece fs (x ∷ rest) f is one = let more : length fs ≡ length (f ∷ x ∷ rest) = ap (λ (l : List PieceRowsLeft). length l) is in absurd (omega (arith, more, one))

pub only_rows : (fs rest : List PieceRowsLeft) (f : PieceRowsLeft) → fs ≡ f ∷ rest → length fs ≡ 1 → rows_in fs ≡ f.rows
only_rows fs rest f is one = ap rows_in is ∙ ap (λ l. rows_in (f ∷ l)) (only_piece fs rest f is one) ∙ append-nil f.rows
