-- A row's facts, and what a read record adds.
use Rattle.std.proofs.Common.{◌≡◌, ℕ, List, [], ◌∷◌, drop, MatchResult, Option, Some, None, Bool, true, false, Result, Ok, Err, IfOk, IfSome, option_map, ◌+◌, ◌++◌, refl, ap, sym, subst, ◌∙◌, inl, inr}
use Rattle.oim_records.specs.Grids.{Field, Record}
use Rattle.oim_records.specs.Reads.{TakesRecord}
use Rattle.oim_records.specs.declared.read_fault.ReadFault.{ReadFault}
use Rattle.oim_resolve.specs.FactParts.{FactParts as Fact}
use Rattle.oim_fast.specs.Facts.{facts_of_row}
use Rattle.oim_row.specs.Rows.{RowValue}
use Rattle.oim_rows.specs.RowFacts.{IsTextRecord, TableHeaderValue, checked, facts_from, id_fault, id_place_of, ids_after, is_not_text, limit_fault, ragged_fault, row_fault, row_of, row_result, text_fault}
use Rattle.oim_rows.specs.Header.{fault_at, or_else}
use Rattle.oim_rows.specs.declared.fault.TableKind.TheVariants as kind
use Rattle.std.specs.List.{position_from}
use Rattle.oim_rows.specs.Streams.{OrNoMemory, Stream, IsOutside, fault_of_read, stream_from}
use Rattle.oim_rows.specs.state.Streams.{early_row_answer}
use Rattle.oim_rows.proofs.StreamLaws.{gives_end, gives_fault, gives_row, outside}
use Rattle.oim_rows.specs.declared.fault.TableFault.{TableFault}
use Rattle.oim_decode.specs.state.Blocks.{AddsNone, AddsRow, CountsRow, TakesOne, has_row}
use Rattle.oim_decode.specs.state.RowParts.{AddsParts, RowRestValue, with_rest}
use Rattle.oim_decode.specs.state.RowTexts.{AddsFacts, facts_of_answer}
use Rattle.oim_decode.proofs.ApartLaws.{repeats_at, row_fault-apart}

-- Apart from its cells the row has no fault.
pub adds_answer : (x : RowValue) (ids : List Field) (before after : List Fact) (result : Result (Option RowRestValue) TableFault) → row_fault x.header x.number ids x.fields ≡ None
    → AddsParts x.header.table (facts_of_row x) before after result → AddsParts x.header.table (row_result x.header x.number ids x.fields) before after result
adds_answer x ids before after result none adds =
    subst (λ (a : Result (List Fact) TableFault). AddsParts x.header.table a before after result) (sym (ap (λ o. checked o (facts_of_row x)) none)) adds

-- A row without a fault of its own is text.
second_none : (a b c : Option TableFault) → or_else a (or_else b c) ≡ None → b ≡ None
second_none None None c none = refl
second_none None (Some x) c none = cc none
second_none (Some x) b c none = cc none

pub text_row : (g : TableHeaderValue) (n : ℕ) (ids : List Field) (r : Record) → row_fault g n ids r ≡ None → IsTextRecord r
text_row g n ids r none =
    by (position_from is_not_text 0 r) (second_none (ragged_fault g n r) (text_fault g n r) (or_else (limit_fault g n) (id_fault g (id_place_of g) n ids r)) none)
  where
    by : (o : Option ℕ) → option_map (λ p. fault_at g.table n (p + 1) kind.NotUtf8) o ≡ None → o ≡ None
    by None that = refl
    by (Some p) that = cc that

-- A row's own fault counts before that of its identifier.
own_first : (g : TableHeaderValue) (n : ℕ) (ids : List Field) (r : Record) (e : TableFault) → row_fault g n [] r ≡ Some e → row_fault g n ids r ≡ Some e
own_first g n ids r e is = row_fault-apart g n ids r ∙ ap (λ o. or_else o (repeats_at g.table (id_place_of g) n ids r)) is

-- What a read record adds.
pub adds_end : (table n : ℕ) (g : TableHeaderValue) (ids : List Field) (before : List Fact) (old new : Option (List Record)) (r : Record) (after : Option Stream) → TakesRecord old false r new
    → IfSome (option_map (stream_from g n ids) old) (λ s. AddsRow table s before before (Ok false) after)
adds_end table n g ids before None new r after took = tt
adds_end table n g ids before (Some rs) new r after took = (refl, gives_end table n g ids (Some rs) new r after took)

pub adds_fault : (n : ℕ) (g : TableHeaderValue) (ids : List Field) (before now : List Fact) (old new : Option (List Record)) (r : Record) (e : TableFault) (after : Option Stream) → TakesRecord old true r new
    → now ≡ before → OrNoMemory g.table (Err e) (row_result g n ids r) → IfSome (option_map (stream_from g n ids) old) (λ s. AddsRow g.table s before now (Err e) after)
adds_fault n g ids before now None new r e after took same why = tt
adds_fault n g ids before now (Some rs) new r e after took same why = (same, gives_fault n g ids (Some rs) new r e after took why)

pub adds_outside : (n : ℕ) (g : TableHeaderValue) (ids : List Field) (before : List Fact) (old : Option (List Record)) (e : TableFault) (after : Option Stream) → IsOutside g.table e
    → IfSome (option_map (stream_from g n ids) old) (λ s. AddsRow g.table s before before (Err e) after)
adds_outside n g ids before None e after outside = tt
adds_outside n g ids before (Some rs) e after outside = (refl, inl outside)

pub adds_row : (n : ℕ) (g : TableHeaderValue) (ids ids2 : List Field) (before now : List Fact) (old new : Option (List Record)) (r : Record) → TakesRecord old true r new
    → (row_result g n ids r ≡ Ok (facts_of_answer (row_result g n ids r))) × (now ≡ before ++ facts_of_answer (row_result g n ids r)) → ids2 ≡ ids_after (id_place_of g) ids r
    → IfSome (option_map (stream_from g n ids) old) (λ s. AddsRow g.table s before now (Ok true) (option_map (stream_from g (n + 1) ids2) new))
adds_row n g ids ids2 before now None new r took added kept = tt
adds_row n g ids ids2 before now (Some rs) new r took added kept =
    (facts_of_answer (row_result g n ids r), added.1, gives_row n g ids ids2 (Some rs) new r (facts_of_answer (row_result g n ids r)) took (inr (sym added.0)) kept)

-- NoFacts is left of the row before.
pub adds_closed : (table : ℕ) (first : Option Stream) (before now : List Fact) (rest : Option RowRestValue) (result : Result Bool TableFault) (left : Option Stream) → rest ≡ None
    → IfSome first (λ s. AddsRow table s before now result left) → IfSome first (λ s. AddsRow table s before (with_rest now rest) result left)
adds_closed table first before now rest result left closed adds =
    subst (λ (o : Option RowRestValue). IfSome first (λ s. AddsRow table s before (with_rest now o) result left)) (sym closed) adds

-- A row's own fault is its answer.
pub own_fault : (g : TableHeaderValue) (n : ℕ) (ids : List Field) (r : Record) (e : TableFault) → row_fault g n ids r ≡ Some e → OrNoMemory g.table (Err e) (row_result g n ids r)
own_fault g n ids r e is = inr (sym (ap (λ o. checked o (facts_from g.report g.table (row_of g n r) 0 g.columns)) is))

-- The record that was read is the first of those left.
pub one_taken : (rs : List Record) (r : Record) (new : Option (List Record)) → TakesRecord (Some rs) true r new → new ≡ Some (drop 1 rs)
one_taken [] r new took = cc took.0
one_taken (x ∷ rest) r new took = took.2

none_taken : (rs : List Record) (r : Record) (new : Option (List Record)) → TakesRecord (Some rs) false r new → (rs ≡ []) × (new ≡ Some [])
none_taken [] r new took = (refl, took.1)
none_taken (x ∷ rest) r new took = cc took.0

pub row_taken : (table : ℕ) (old new : Option (List Record)) (r : Record) → TakesRecord old true r new → IfSome old (λ rs. TakesOne table rs (Ok true) new)
row_taken table None new r took = tt
row_taken table (Some rs) new r took = one_taken rs r new took

pub bad_row_taken : (table : ℕ) (old new : Option (List Record)) (r : Record) (e : TableFault) → TakesRecord old true r new → IfSome old (λ rs. TakesOne table rs (Err e) new)
bad_row_taken table None new r e took = tt
bad_row_taken table (Some rs) new r e took = inl (one_taken rs r new took)

-- The answer that a row has before its cells are read: the reader's fault, the end, or a fault of
-- the row itself.
module _ (n : ℕ) (g : TableHeaderValue) (ids : List Field) (r : Record) (answer : Result Bool TableFault) where
  pub adds_early : (found : Result Bool ReadFault) (before : List Fact) (old new : Option (List Record)) (after : Option Stream) → IfOk found (λ b. TakesRecord old b r new)
      → Some answer ≡ option_map has_row (early_row_answer g n [] found r)
      → IfSome (option_map (stream_from g n ids) old) (λ s. AddsRow g.table s before before answer after)
  adds_early (Err f) before old new after took is =
      let same : answer ≡ Err (fault_of_read g.table f) = cc is in
      rw same (adds_outside n g ids before old (fault_of_read g.table f) after (outside g.table f))
  adds_early (Ok false) before old new after took is =
      let same : answer ≡ Ok false = cc is in
      rw same (adds_end g.table n g ids before old new r after took)
  adds_early (Ok true) before old new after took is = by (row_fault g n [] r) refl is
    where
      by : (o : Option TableFault) → row_fault g n [] r ≡ o → Some answer ≡ option_map has_row (option_map Err o)
          → IfSome (option_map (stream_from g n ids) old) (λ s. AddsRow g.table s before before answer after)
      by None own is = absurd (cc is)
      by (Some e) own is =
          let same : answer ≡ Err e = cc is in
          rw same (adds_fault n g ids before before old new r e after took refl (own_fault g n ids r e (own_first g n ids r e own)))

  -- Then no row is counted.
  pub none_counted : (found : Result Bool ReadFault) (limit given : ℕ) → Some answer ≡ option_map has_row (early_row_answer g n ids found r) → CountsRow limit answer given given
  none_counted (Err f) limit given is = let same : answer ≡ Err (fault_of_read g.table f) = cc is in rw same refl
  none_counted (Ok false) limit given is = let same : answer ≡ Ok false = cc is in rw same refl
  none_counted (Ok true) limit given is = by (row_fault g n ids r) is
    where
      by : (o : Option TableFault) → Some answer ≡ option_map has_row (option_map Err o) → CountsRow limit answer given given
      by None is = absurd (cc is)
      by (Some e) is = let same : answer ≡ Err e = cc is in rw same refl

  pub none_added : (found : Result Bool ReadFault) (facts : List Fact) (rest : Option RowRestValue) → rest ≡ None → Some answer ≡ option_map has_row (early_row_answer g n ids found r)
      → AddsNone answer facts facts rest
  none_added (Err f) facts rest closed is = let same : answer ≡ Err (fault_of_read g.table f) = cc is in rw same (refl, closed)
  none_added (Ok false) facts rest closed is = let same : answer ≡ Ok false = cc is in rw same (refl, closed)
  none_added (Ok true) facts rest closed is = by (row_fault g n ids r) is
    where
      by : (o : Option TableFault) → Some answer ≡ option_map has_row (option_map Err o) → AddsNone answer facts facts rest
      by None is = absurd (cc is)
      by (Some e) is = let same : answer ≡ Err e = cc is in rw same (refl, closed)

  -- Then nothing was read after the current record.
  pub early_unread : (found : Result Bool ReadFault) (old new : Option (List Record)) → MatchResult found (λ b. TakesRecord old b r new) (λ _. new ≡ Some [])
      → Some answer ≡ option_map has_row (early_row_answer g n ids found r) → IfSome old (λ rs. TakesOne g.table rs answer new)
  early_unread found None new took is = tt
  early_unread (Err f) (Some rs) new took is =
      let same : answer ≡ Err (fault_of_read g.table f) = cc is in
      subst (λ a. TakesOne g.table rs a new) (sym same) (inr (outside g.table f, took))
  early_unread (Ok false) (Some rs) new took is =
      let same : answer ≡ Ok false = cc is in
      subst (λ a. TakesOne g.table rs a new) (sym same) (none_taken rs r new took)
  early_unread (Ok true) (Some rs) new took is = by (row_fault g n ids r) is
    where
      by : (o : Option TableFault) → Some answer ≡ option_map has_row (option_map Err o) → TakesOne g.table rs answer new
      by None is = absurd (cc is)
      by (Some e) is =
          let same : answer ≡ Err e = cc is in
          subst (λ a. TakesOne g.table rs a new) (sym same) (inl (one_taken rs r new took))

-- A row without such an answer was read, and has no fault of its own.
pub not_early : (n : ℕ) (g : TableHeaderValue) (ids : List Field) (r : Record) (found : Result Bool ReadFault) → option_map has_row (early_row_answer g n ids found r) ≡ None
    → (found ≡ Ok true) × (row_fault g n ids r ≡ None)
not_early n g ids r (Err f) is = absurd (cc is)
not_early n g ids r (Ok false) is = absurd (cc is)
not_early n g ids r (Ok true) is = (refl, by (row_fault g n ids r) is)
  where
    by : (o : Option TableFault) → option_map has_row (option_map Err o) ≡ None → o ≡ None
    by None is = refl
    by (Some e) is = absurd (cc is)

-- The facts of the row that was read are added, or none of them.
pub row_adds : (x : RowValue) (g : TableHeaderValue) (n : ℕ) (ids ids2 : List Field) (t r : Record) (before now : List Fact) (old new : Option (List Record))
    → x ≡ record { header = g; number = n; fields = t } → t ≡ r → TakesRecord old true r new
    → AddsFacts x.header.table (row_result x.header x.number ids x.fields) before now (Ok tt) → ids2 ≡ ids_after (id_place_of x.header) ids x.fields
    → IfSome (option_map (stream_from g n ids) old) (λ s. AddsRow g.table s before now (Ok true) (option_map (stream_from g (n + 1) ids2) new))
row_adds x g n ids ids2 t r before now old new is same took adds kept =
    let row : x ≡ record { header = g; number = n; fields = r } = is ∙ ap (λ (s : Record). record { header = g; number = n; fields = s }) same in
    adds_row n g ids ids2 before now old new r took
    (subst (λ (y : RowValue). AddsFacts y.header.table (row_result y.header y.number ids y.fields) before now (Ok tt)) row adds)
    (subst (λ (y : RowValue). ids2 ≡ ids_after (id_place_of y.header) ids y.fields) row kept)

pub row_fails : (x : RowValue) (g : TableHeaderValue) (n : ℕ) (ids : List Field) (t r : Record) (before now : List Fact) (old new : Option (List Record)) (e : TableFault) (after : Option Stream)
    → x ≡ record { header = g; number = n; fields = t } → t ≡ r → TakesRecord old true r new
    → AddsFacts x.header.table (row_result x.header x.number ids x.fields) before now (Err e)
    → IfSome (option_map (stream_from g n ids) old) (λ s. AddsRow g.table s before now (Err e) after)
row_fails x g n ids t r before now old new e after is same took adds =
    let row : x ≡ record { header = g; number = n; fields = r } = is ∙ ap (λ (s : Record). record { header = g; number = n; fields = s }) same in
    let there = subst (λ (y : RowValue). AddsFacts y.header.table (row_result y.header y.number ids y.fields) before now (Err e)) row adds in
    adds_fault n g ids before now old new r e after took there.0 there.1
