-- The stream of a table, row by row, is that of its rows at once.
use Rattle.std.proofs.Common.{List, [], ◌∷◌, ◌++◌, ◌≡◌, ◌∙◌, ℕ, zero, suc, ◌+◌, Option, Some, None, Result, Ok, Err, IfSome, length, take, refl, sym, ap, subst, append_assoc, length-append, arith}
use Rattle.std.proofs.lemmas.List.{append-nil, map-append}
use Rattle.std.specs.Prelude.{◌↔◌, MatchOption, unwrap_or}
use Rattle.csv.specs.Records.{field_at}
use Rattle.oim_records.specs.Grids.{Record, grid}
use Rattle.oim_report.specs.ReportValue.{ReportValue}
use Rattle.oim_resolve.specs.FactParts.{FactParts as Fact}
use Rattle.oim_rows.specs.Header.{header_fault}
use Rattle.oim_rows.specs.RowFacts.{TableHeaderValue, id_place_of, ids_after}
use Rattle.oim_rows.specs.Streams.{Stream, ending, table_header_of, row_in_front, stream_from, stream_of, table_stream}
use Rattle.oim_rows.specs.WholeTable.{RowGives, IsFileStream, IsStreamOf, IsTableStream, ids_of, row_after, row_at}
use Rattle.oim_rows.specs.declared.fault.TableFault.{TableFault}

pub ids_of-more : (p : Option ℕ) (earlier : List Record) (r : Record) → ids_after p (ids_of p earlier) r ≡ ids_of p (earlier ++ r ∷ [])
ids_of-more None earlier r = refl
ids_of-more (Some p) earlier r = sym (map-append (λ (q : Record). unwrap_or (field_at q p) []) earlier (r ∷ []))

-- A row after the first is one of the rows after it.
gives_later : (g : TableHeaderValue) (earlier rows : List Record) (r : Record) (m : ℕ) (answer : Result (List Fact) TableFault) → RowGives g (earlier ++ r ∷ []) rows m answer
    → RowGives g earlier (r ∷ rows) (suc m) answer
gives_later g earlier rows r m answer h = (h.0, h.1, rw (append_assoc earlier (r ∷ []) (take m rows)) at h.2)

gives_first : (g : TableHeaderValue) (earlier rows : List Record) (r : Record) (answer : Result (List Fact) TableFault) → row_after g earlier r ≡ answer → RowGives g earlier (r ∷ rows) zero answer
gives_first g earlier rows r answer e = (r, refl, rw (append-nil earlier) e)

good_rows : (g : TableHeaderValue) (earlier rows : List Record) (r : Record) (first : List Fact) (s : Stream) → row_after g earlier r ≡ Ok first → IsStreamOf g (earlier ++ r ∷ []) rows s
    → (m : ℕ) (facts : List Fact) → row_at (first ∷ s.rows) m ≡ Some facts → RowGives g earlier (r ∷ rows) m (Ok facts)
good_rows g earlier rows r first s e h zero facts at = let same : first ≡ facts = cc in gives_first g earlier rows r (Ok facts) (rw (← same) e)
good_rows g earlier rows r first s e h (suc m) facts at = gives_later g earlier rows r m (Ok facts) (h.good m facts at)

end_row : (g : TableHeaderValue) (earlier rows : List Record) (r : Record) (first : List Fact) (more : List (List Fact)) (o : Option TableFault)
    → MatchOption o (length more ≡ length rows) (λ x. RowGives g (earlier ++ r ∷ []) rows (length more) (Err x))
    → MatchOption o (length (first ∷ more) ≡ length (r ∷ rows)) (λ x. RowGives g earlier (r ∷ rows) (length (first ∷ more)) (Err x))
end_row g earlier rows r first more None h = omega arith
end_row g earlier rows r first more (Some x) h = gives_later g earlier rows r (length more) (Err x) h

-- The first row, and the rows after it.
row_first : (g : TableHeaderValue) (earlier rows : List Record) (r : Record) (first : List Fact) (s : Stream) → row_after g earlier r ≡ Ok first → IsStreamOf g (earlier ++ r ∷ []) rows s
    → IsStreamOf g earlier (r ∷ rows) (row_in_front (Ok first) s)
row_first g earlier rows r first s e h = record { good = good_rows g earlier rows r first s e h; end = end_row g earlier rows r first s.rows s.fault h.end }

bad_first : (g : TableHeaderValue) (earlier rows : List Record) (r : Record) (x : TableFault) → row_after g earlier r ≡ Err x → IsStreamOf g earlier (r ∷ rows) (ending (Some x))
bad_first g earlier rows r x e = record { good = λ m facts at. cc at; end = gives_first g earlier rows r (Err x) e }

abbrev stream_after : TableHeaderValue → List Record → List Record → Stream
stream_after g earlier rows = stream_from g (length earlier + 1) (ids_of (id_place_of g) earlier) rows

stream_after-row : (g : TableHeaderValue) (earlier rows : List Record) (r : Record) → stream_after g earlier (r ∷ rows) ≡ row_in_front (row_after g earlier r) (stream_after g (earlier ++ r ∷ []) rows)
unfolding stream_from
stream_after-row g earlier rows r =
    let longer : length earlier + 1 ≡ length (earlier ++ r ∷ []) = sym (length-append earlier (r ∷ [])) in
    rw (ids_of-more (id_place_of g) earlier r, longer) refl

pub stream_is_whole : (g : TableHeaderValue) (earlier rows : List Record) → IsStreamOf g earlier rows (stream_after g earlier rows)
unfolding stream_from
stream_is_whole g earlier [] = record { good = λ m facts at. cc at; end = refl }
stream_is_whole g earlier (r ∷ rows) = rw (stream_after-row g earlier rows r) (by (row_after g earlier r) refl (stream_is_whole g (earlier ++ r ∷ []) rows))
  where
    by : (o : Result (List Fact) TableFault) → row_after g earlier r ≡ o → IsStreamOf g (earlier ++ r ∷ []) rows (stream_after g (earlier ++ r ∷ []) rows)
        → IsStreamOf g earlier (r ∷ rows) (row_in_front (row_after g earlier r) (stream_after g (earlier ++ r ∷ []) rows))
    by (Ok first) e h = rw e (row_first g earlier rows r first (stream_after g (earlier ++ r ∷ []) rows) e h)
    by (Err x) e h = rw e (bad_first g earlier rows r x e)

ids_of-none : (p : Option ℕ) → ids_of p [] ≡ []
ids_of-none None = refl
ids_of-none (Some p) = refl

pub stream_is_of_all_rows : (g : TableHeaderValue) (rows : List Record) → IsStreamOf g [] rows (stream_from g 1 [] rows)
stream_is_of_all_rows g rows = rw (ids_of-none (id_place_of g)) at (stream_is_whole g [] rows)

-- NO OTHER STREAM HAS THIS PROPERTY

stream_after-end : (g : TableHeaderValue) (earlier : List Record) → stream_after g earlier [] ≡ ending None
unfolding stream_from
stream_after-end g earlier = refl

first_gives : (g : TableHeaderValue) (earlier rows : List Record) (r : Record) (answer : Result (List Fact) TableFault) → RowGives g earlier (r ∷ rows) zero answer → row_after g earlier r ≡ answer
first_gives g earlier rows r answer (x, at, is) = let same : r ≡ x = cc in rw (append-nil earlier, ← same) at is

rest_gives : (g : TableHeaderValue) (earlier rows : List Record) (r : Record) (m : ℕ) (answer : Result (List Fact) TableFault) → RowGives g earlier (r ∷ rows) (suc m) answer
    → RowGives g (earlier ++ r ∷ []) rows m answer
rest_gives g earlier rows r m answer (x, at, is) = (x, at, subst (λ before. row_after g before x ≡ answer) (sym (append_assoc earlier (r ∷ []) (take m rows))) is)

rest_end : (g : TableHeaderValue) (earlier rows : List Record) (r : Record) (first : List Fact) (more : List (List Fact)) (o : Option TableFault)
    → MatchOption o (length (first ∷ more) ≡ length (r ∷ rows)) (λ x. RowGives g earlier (r ∷ rows) (length (first ∷ more)) (Err x))
    → MatchOption o (length more ≡ length rows) (λ x. RowGives g (earlier ++ r ∷ []) rows (length more) (Err x))
rest_end g earlier rows r first more None h = omega arith
rest_end g earlier rows r first more (Some x) h = rest_gives g earlier rows r (length more) (Err x) h

rest_stream : (g : TableHeaderValue) (earlier rows : List Record) (r : Record) (first : List Fact) (more : List (List Fact)) (o : Option TableFault)
    → IsStreamOf g earlier (r ∷ rows) (record { rows = first ∷ more; fault = o }) → IsStreamOf g (earlier ++ r ∷ []) rows (record { rows = more; fault = o })
rest_stream g earlier rows r first more o h = record {
  good = λ m facts at. rest_gives g earlier rows r m (Ok facts) (h.good (suc m) facts at);
  end = rest_end g earlier rows r first more o h.end;
}

past_end : (g : TableHeaderValue) (earlier : List Record) (m : ℕ) (answer : Result (List Fact) TableFault) → RowGives g earlier [] m answer → ⊥
past_end g earlier m answer (x, at, is) = cc at

only_stream : (g : TableHeaderValue) (earlier rows : List Record) (all : List (List Fact)) (o : Option TableFault) → IsStreamOf g earlier rows (record { rows = all; fault = o })
    → record { rows = all; fault = o } ≡ stream_after g earlier rows
only_stream g earlier [] [] None h = sym (stream_after-end g earlier)
only_stream g earlier [] [] (Some x) h = absurd (past_end g earlier 0 (Err x) h.end)
only_stream g earlier [] (facts ∷ all) o h = absurd (past_end g earlier 0 (Ok facts) (h.good 0 facts refl))
only_stream g earlier (r ∷ rows) [] None h = cc h.end
only_stream g earlier (r ∷ rows) [] (Some x) h =
    let bad : row_after g earlier r ≡ Err x = first_gives g earlier rows r (Err x) h.end in
    sym (stream_after-row g earlier rows r ∙ ap (λ a. row_in_front a (stream_after g (earlier ++ r ∷ []) rows)) bad)
only_stream g earlier (r ∷ rows) (first ∷ more) o h =
    let good : row_after g earlier r ≡ Ok first = first_gives g earlier rows r (Ok first) (h.good zero first refl) in
    let rest = only_stream g (earlier ++ r ∷ []) rows more o (rest_stream g earlier rows r first more o h) in
    sym (stream_after-row g earlier rows r ∙ ap (λ a. row_in_front a (stream_after g (earlier ++ r ∷ []) rows)) good ∙ ap (row_in_front (Ok first)) (sym rest))

only_of_all_rows : (g : TableHeaderValue) (rows : List Record) (s : Stream) → IsStreamOf g [] rows s → s ≡ stream_from g 1 [] rows
only_of_all_rows g rows s h = rw (ids_of-none (id_place_of g)) at (only_stream g [] rows s.rows s.fault h)

file_stream : (report : ReportValue) (table limit : ℕ) (records : List Record) (s : Stream) → IsFileStream report table limit records s ↔ (s ≡ stream_of report table limit records)
file_stream report table limit [] s = (λ e. e, λ e. e)
file_stream report table limit (r ∷ rows) s = by (header_fault report table r) refl
  where
    by : (o : Option TableFault) → header_fault report table r ≡ o → IsFileStream report table limit (r ∷ rows) s ↔ (s ≡ stream_of report table limit (r ∷ rows))
    by (Some x) e = rw e (λ is. is, λ is. is)
    by None e =
        let g = table_header_of report table limit r in
        rw e (only_of_all_rows g rows s, λ is. subst (λ t. IsStreamOf g [] rows t) (sym is) (stream_is_of_all_rows g rows))

pub table_stream_is_of_all_rows : (report : ReportValue) (table limit : ℕ) (file : Option (List ℕ)) (s : Stream) → IsTableStream report table limit file s ↔ (s ≡ table_stream report table limit file)
table_stream_is_of_all_rows report table limit None s = (λ e. e, λ e. e)
table_stream_is_of_all_rows report table limit (Some bytes) s = file_stream report table limit (grid bytes) s

-- What is left of a file before its first row is read.
pub left_is_of_all_rows : (report : ReportValue) (table limit : ℕ) (bytes : List ℕ) (left : Option Stream) → left ≡ Some (stream_of report table limit (grid bytes))
    → IfSome left (IsTableStream report table limit (Some bytes))
left_is_of_all_rows report table limit bytes left e =
    subst (λ o. IfSome o (IsTableStream report table limit (Some bytes))) (sym e) ((file_stream report table limit (grid bytes) (stream_of report table limit (grid bytes))).1 refl)
