-- Rows that are added to others: their facts, and where they end.
use Rattle.std.proofs.Common.{◌≡◌, ◌++◌, ◌+◌, ℕ, List, [], ◌∷◌, length, Some, None, Result, Ok, Err, refl, sym, ap, ◌∙◌, arith, inl, inr, append-nil, append_assoc, length-append}
use Rattle.std.proofs.lemmas.Grind.{flat_map-append}
use Rattle.oim_records.specs.Grids.{Field}
use Rattle.oim_resolve.specs.FactParts.{FactParts as Fact}
use Rattle.oim_fast.specs.Facts.{facts_of_row}
use Rattle.oim_row.specs.Rows.{RowValue}
use Rattle.oim_rows.specs.Header.{file_fault}
use Rattle.oim_rows.specs.RowFacts.{id_place_of}
use Rattle.oim_rows.specs.Streams.{OrNoMemory, facts_of_rows}
use Rattle.oim_rows.specs.declared.fault.TableFault.{TableFault}
use Rattle.oim_rows.specs.declared.fault.TableKind.TheVariants as kind
use Rattle.oim_decode.specs.Apart.{Apart, apart_row, id_in}
use Rattle.oim_decode.specs.PieceAnswers.{apart_then, refused}
use Rattle.oim_decode.specs.state.PieceAnswers.{cells_apart, no_rows}
use Rattle.oim_decode.specs.state.RowEnds.{counts_from, stretches}
use Rattle.oim_decode.specs.state.RowTexts.{AddsFacts, AddsRowFacts, facts_of_answer}
use Rattle.oim_decode.proofs.PieceSteps.{answer, then_fault}

-- The facts of one more row.
pub facts_push : (rows : List (List Fact)) (row : List Fact) → facts_of_rows (rows ++ row ∷ []) ≡ facts_of_rows rows ++ row
facts_push rows row = flat_map-append (λ (r : List Fact). r) rows (row ∷ []) ∙ ap (λ t. facts_of_rows rows ++ t) (append-nil row)

counts_push : (n : ℕ) (rows : List (List Fact)) (row : List Fact) → counts_from n (rows ++ row ∷ []) ≡ counts_from n rows ++ (n + length (facts_of_rows (rows ++ row ∷ []))) ∷ []
unfolding counts_from
counts_push n [] row = ap (λ k. (n + k) ∷ []) (sym (ap length (append-nil row)))
counts_push n (first ∷ rows) row =
    let all = facts_of_rows (rows ++ row ∷ []) in
    let here : (n + length first) + length all ≡ n + length (first ++ all) = omega (arith, length-append first all) in
    ap (λ t. (n + length first) ∷ t) (counts_push (n + length first) rows row ∙ ap (λ k. counts_from (n + length first) rows ++ k ∷ []) here)

-- No rows.
pub none_counted : (rows : List (List Fact)) → rows ≡ [] → ([] ≡ facts_of_rows rows) × ([] ≡ counts_from 0 rows)
unfolding counts_from
none_counted rows none = rw none (refl, refl)

-- What is held after one more row.
pub row_counted : (before after facts : List Fact) (ends ends' : List ℕ) (rows rows' : List (List Fact)) (count : ℕ) → before ≡ facts_of_rows rows → ends ≡ counts_from 0 rows → after ≡ before ++ facts
    → rows' ≡ rows ++ facts ∷ [] → count ≡ length after → ends' ≡ ends ++ count ∷ [] → (after ≡ facts_of_rows rows') × (ends' ≡ counts_from 0 rows')
row_counted before after facts ends ends' rows rows' count is marks more all so noted =
    let whole : after ≡ facts_of_rows (rows ++ facts ∷ []) = more ∙ ap (λ t. t ++ facts) is ∙ sym (facts_push rows facts) in
    let here : count ≡ 0 + length (facts_of_rows (rows ++ facts ∷ [])) = omega (arith, so, ap length whole) in (
      whole ∙ ap facts_of_rows (sym all),
      noted ∙ ap (λ t. t ++ count ∷ []) marks ∙ ap (λ k. counts_from 0 rows ++ k ∷ []) here ∙ sym (counts_push 0 rows facts) ∙ ap (counts_from 0) (sym all),
    )

-- The answer for a row's facts is the answer for one more row.
pub adds_row_facts : (table : ℕ) (answer : Result (List Fact) TableFault) (before after : List Fact) (rows rows' : List (List Fact)) (r : Result (Unit {0}) TableFault)
    → AddsFacts table answer before after (Ok tt) → rows' ≡ rows ++ facts_of_answer answer ∷ [] → AddsRowFacts table answer rows rows' (Ok tt)
adds_row_facts table answer before after rows rows' r adds more = (adds.0, more)

-- STRETCHES

-- A stretch is closed.
pub closed : (full : List (List (List Fact))) (last : List (List Fact)) → stretches (full ++ last ∷ []) ++ [] ≡ stretches full ++ last
closed full last =
    append-nil (stretches (full ++ last ∷ [])) ∙ flat_map-append (λ (rows : List (List Fact)). rows) full (last ∷ []) ∙ ap (λ t. stretches full ++ t) (append-nil last)

-- A row after those of the earlier stretches.
pub adds_behind : (table : ℕ) (answer : Result (List Fact) TableFault) (front before after : List (List Fact)) (r : Result (Unit {0}) TableFault) → AddsRowFacts table answer before after r
    → AddsRowFacts table answer (front ++ before) (front ++ after) r
adds_behind table answer front before after (Ok u) (is, more) = (is, ap (λ t. front ++ t) more ∙ sym (append_assoc front before (facts_of_answer answer ∷ [])))
adds_behind table answer front before after (Err e) (same, or) = (ap (λ t. front ++ t) same, or)

-- ANSWERS

-- A good row.
pub adds_good : (x : RowValue) (before : Apart) (rows : List (List Fact)) (ids : List Field) → facts_of_row x ≡ Ok (facts_of_answer (facts_of_row x))
    → rows ≡ before.rows ++ facts_of_answer (facts_of_row x) ∷ [] → ids ≡ before.ids ++ id_in (id_place_of x.header) x.fields
    → answer rows ids None ≡ apart_then before (cells_apart x)
adds_good x before rows ids good more kept =
    let id = id_in (id_place_of x.header) x.fields in
    let facts = facts_of_answer (facts_of_row x) in
    ap (λ (r : List (List Fact)). answer r ids None) more
    ∙ ap (λ (i : List Field). answer (before.rows ++ facts ∷ []) i None) (kept ∙ ap (λ t. before.ids ++ t) (sym (append-nil id)))
    ∙ ap (λ a. apart_then before (apart_row None a id no_rows)) (sym good)

-- A row with a fault in its cells.
pub adds_bad : (x : RowValue) (before : Apart) (ids : List Field) (e : TableFault) → facts_of_row x ≡ Err e → ids ≡ before.ids ++ id_in (id_place_of x.header) x.fields
    → answer before.rows ids (Some e) ≡ apart_then before (cells_apart x)
adds_bad x before ids e bad kept =
    let id = id_in (id_place_of x.header) x.fields in
    ap (λ (r : List (List Fact)). answer r ids (Some e)) (sym (append-nil before.rows))
    ∙ ap (λ (i : List Field). answer (before.rows ++ []) i (Some e)) kept
    ∙ ap (λ a. apart_then before (apart_row None a id no_rows)) (sym bad)

-- Memory ran out for a row.
pub adds_none : (table : ℕ) (before : Apart) (rows : List (List Fact)) (ids : List Field) (e : TableFault) → rows ≡ before.rows → ids ≡ before.ids → e ≡ file_fault table kind.Memory
    → answer rows ids (Some e) ≡ apart_then before (refused table)
adds_none table before rows ids e same kept is =
    ap (λ (r : List (List Fact)). answer r ids (Some e)) same ∙ ap (λ (i : List Field). answer before.rows i (Some e)) kept
    ∙ ap (λ x. answer before.rows before.ids (Some x)) is ∙ sym (then_fault before (file_fault table kind.Memory))

-- A fault of another kind is the row's.
pub not_memory : {A : Type 0} (table : ℕ) (e : TableFault) (result : Result A TableFault) → (e.kind ≡ kind.Memory → ⊥) → OrNoMemory table (Err e) result → result ≡ Err e
not_memory table e result apart (inl memory) = let same : e ≡ file_fault table kind.Memory = cc memory in absurd (apart (ap (λ (f : TableFault). f.kind) same))
not_memory table e result apart (inr is) = sym is
