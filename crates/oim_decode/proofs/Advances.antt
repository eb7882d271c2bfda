-- Rows that are read from a table's stream, one after another.
use Rattle.std.proofs.Common.{◌≡◌, ◌⊎◌, ◌≤◌, ◌<◌, ◌+◌, ◌-◌, ℕ, arith, drop, List, [], ◌∷◌, ◌++◌, true, false, Option, Some, None, Ok, Err, IfSome, IsSome, refl, ap, sym, subst, ◌∙◌, inl, inr, append-nil, append_assoc, length, length-append, take}
use Rattle.std.proofs.lemmas.Grind.{flat_map-append}
use Rattle.std.proofs.lemmas.List.{drop-drop, drop_at, length-take-le, take-append-drop}
use Rattle.oim_json.specs.Blocks.{behind_commas}
use Rattle.oim_json.proofs.Blocks.{nothing_written}
use Rattle.oim_records.specs.Grids.{Record}
use Rattle.oim_resolve.specs.FactParts.{FactParts as Fact}
use Rattle.oim_rows.specs.Header.{file_fault}
use Rattle.oim_rows.specs.Streams.{GivesNext, IsOutside, Stream, ending, facts_of_rows}
use Rattle.oim_rows.specs.declared.fault.TableFault.{TableFault}
use Rattle.oim_rows.specs.declared.fault.TableKind.TheVariants as kind
use Rattle.oim_decode.specs.Blocks.{BlocksLeft, GivesBlock, IsBehind, ReadsRows}
use Rattle.oim_decode.specs.state.Blocks.{AddsRow, HasRead, RowsUnread, TakesOne, blocks_left, end_or_left}
use Rattle.oim_decode.specs.state.RowParts.{RowRestValue, with_rest}

pub none_read : (table : ℕ) (left : Option Stream) (before : List Fact) → IfSome left (λ s. HasRead table s before before left)
none_read table None before = tt
none_read table (Some s) before = ([], inl (refl, refl), sym (append-nil before))

facts_more : (before pending after facts : List Fact) (rows : List (List Fact)) → pending ≡ before ++ facts_of_rows rows
    → after ≡ pending ++ facts → after ≡ before ++ facts_of_rows (rows ++ facts ∷ [])
facts_more before pending after facts rows so more =
    more ∙ ap (λ t. t ++ facts) so ∙ append_assoc before (facts_of_rows rows) facts ∙ ap (λ t. before ++ (facts_of_rows rows ++ t)) (sym (append-nil facts))
    ∙ ap (λ t. before ++ t) (sym (flat_map-append (λ (row : List Fact). row) rows (facts ∷ [])))

-- One more row.
one_more : (table : ℕ) (s : Stream) (before pending after facts : List Fact) (rows : List (List Fact)) (left left' : Option Stream)
    → ReadsRows table s rows left → pending ≡ before ++ facts_of_rows rows
    → IfSome left (λ t. GivesNext table t (Ok (Some facts)) left') → after ≡ pending ++ facts → HasRead table s before after left'
one_more table s before pending after facts rows None left' reads so gives more = absurd reads
one_more table s before pending after facts rows (Some rest) None reads so gives more = absurd gives
one_more table s before pending after facts rows (Some rest) (Some next) (inl (split, same)) so gives more = (
  rows ++ facts ∷ [],
  inl (split ∙ ap (λ (t : Stream). rows ++ t.rows) gives ∙ sym (append_assoc rows (facts ∷ []) next.rows), same ∙ ap (λ (t : Stream). t.fault) gives),
  facts_more before pending after facts rows so more,
)
one_more table s before pending after facts rows (Some rest) (Some next) (inr (some, e, outside, only)) so gives more =
    let no : [] ≡ facts ∷ next.rows = ap (λ (t : Stream). t.rows) (sym only ∙ gives) in absurd (cc no)

-- The end.
at_end : (table : ℕ) (s : Stream) (before pending : List Fact) (rows : List (List Fact)) (left left' : Option Stream) → ReadsRows table s rows left → pending ≡ before ++ facts_of_rows rows
    → IfSome left (λ t. GivesNext table t (Ok None) left') → HasRead table s before pending (Some (ending None))
at_end table s before pending rows None left' reads so gives = absurd reads
at_end table s before pending rows (Some rest) left' (inl (split, same)) so gives = (rows, inl (split ∙ ap (λ (t : Stream). rows ++ t.rows) gives, same ∙ ap (λ (t : Stream). t.fault) gives), so)
at_end table s before pending rows (Some rest) left' (inr (some, e, outside, only)) so gives =
    let no : Some e ≡ None = ap (λ (t : Stream). t.fault) (sym only ∙ gives) in absurd (cc no)

-- A fault.
pub broken_off : (table : ℕ) (s : Stream) (rows : List (List Fact)) (left : Option Stream) (e : TableFault) → ReadsRows table s rows left
    → IsOutside table e → ReadsRows table s rows (Some (ending (Some e)))
broken_off table s rows None e reads outside = absurd reads
broken_off table s rows (Some rest) e (inl (split, same)) outside = inr ((rest.rows, sym split), e, outside, refl)
broken_off table s rows (Some rest) e (inr (some, f, old, only)) outside = inr (some, e, outside, refl)

at_fault : (table : ℕ) (s : Stream) (before pending : List Fact) (rows : List (List Fact)) (left left' : Option Stream) (e : TableFault)
    → ReadsRows table s rows left → pending ≡ before ++ facts_of_rows rows
    → IfSome left (λ t. GivesNext table t (Err e) left') → HasRead table s before pending (Some (ending (Some e)))
at_fault table s before pending rows None left' e reads so gives = absurd reads
at_fault table s before pending rows (Some rest) left' e reads so (inl outside) = (rows, broken_off table s rows (Some rest) e reads outside, so)
at_fault table s before pending rows (Some rest) left' e (inl (split, same)) so (inr over) =
    (rows, inl (split ∙ ap (λ (t : Stream). rows ++ t.rows) over, same ∙ ap (λ (t : Stream). t.fault) over), so)
at_fault table s before pending rows (Some rest) left' e (inr (some, f, outside, only)) so (inr over) = (rows, inr (some, f, outside, sym over ∙ only), so)

weaker : (left : Option Stream) (P Q : Stream → Type 0) → ((s : Stream) → P s → Q s) → IfSome left P → IfSome left Q
weaker None P Q f h = tt
weaker (Some s) P Q f h = f s h

-- What a row adds, by its answer.
pub row_added : (table : ℕ) (first : Option Stream) (before pending after : List Fact) (left left' : Option Stream) → IfSome first (λ s. HasRead table s before pending left)
    → IfSome left (λ t. AddsRow table t pending after (Ok true) left') → IfSome first (λ s. HasRead table s before after left')
row_added table first before pending after None left' reads adds = weaker first (λ s. HasRead table s before pending None) (λ s. HasRead table s before after left') (λ s h. absurd h.1) reads
row_added table first before pending after (Some t) left' reads (facts, more, gives) =
    weaker first (λ s. HasRead table s before pending (Some t)) (λ s. HasRead table s before after left')
    (λ s h. one_more table s before pending after facts h.0 (Some t) left' h.1 h.2 gives more) reads

pub end_reached : (table : ℕ) (first : Option Stream) (before pending after : List Fact) (left left' : Option Stream) → IfSome first (λ s. HasRead table s before pending left)
    → IfSome left (λ t. AddsRow table t pending after (Ok false) left') → IfSome first (λ s. HasRead table s before after (Some (ending None)))
end_reached table first before pending after None left' reads adds =
    weaker first (λ s. HasRead table s before pending None) (λ s. HasRead table s before after (Some (ending None))) (λ s h. absurd h.1) reads
end_reached table first before pending after (Some t) left' reads (same, gives) =
    weaker first (λ s. HasRead table s before pending (Some t)) (λ s. HasRead table s before after (Some (ending None)))
    (λ s h. at_end table s before after h.0 (Some t) left' h.1 (same ∙ h.2) gives) reads

pub fault_reached : (table : ℕ) (first : Option Stream) (before pending after : List Fact) (left left' : Option Stream) (e : TableFault) → IfSome first (λ s. HasRead table s before pending left)
    → IfSome left (λ t. AddsRow table t pending after (Err e) left') → IfSome first (λ s. HasRead table s before after (Some (ending (Some e))))
fault_reached table first before pending after None left' e reads adds =
    weaker first (λ s. HasRead table s before pending None) (λ s. HasRead table s before after (Some (ending (Some e)))) (λ s h. absurd h.1) reads
fault_reached table first before pending after (Some t) left' e reads (same, gives) =
    weaker first (λ s. HasRead table s before pending (Some t)) (λ s. HasRead table s before after (Some (ending (Some e))))
    (λ s h. at_fault table s before after h.0 (Some t) left' e h.1 (same ∙ h.2) gives) reads

-- BLOCKS

pub block_given : (table : ℕ) (first : Option Stream) (before pending block after : List Fact) (left : Option Stream)
    → IfSome first (λ s. HasRead table s before pending left) → pending ≡ block ++ after
    → IfSome first (λ s. GivesBlock table before s (Ok (Some block)) after left)
block_given table first before pending block after left reads cut =
    weaker first (λ s. HasRead table s before pending left) (λ s. GivesBlock table before s (Ok (Some block)) after left) (λ s h. record { rows = h.0; reads = h.1; answers = sym h.2 ∙ cut }) reads

pub end_given : (table : ℕ) (first : Option Stream) (before pending : List Fact) (left : Option Stream)
    → IfSome first (λ s. HasRead table s before pending left) → pending ≡ [] → left ≡ Some (ending None)
    → IfSome first (λ s. GivesBlock table before s (Ok None) pending left)
end_given table first before pending left reads none over =
    weaker first (λ s. HasRead table s before pending left) (λ s. GivesBlock table before s (Ok None) pending left)
    (λ s h. record { rows = h.0; reads = h.1; answers = (sym h.2 ∙ none, none, over) }) reads

pub fault_given : (table : ℕ) (first : Option Stream) (before pending : List Fact) (left : Option Stream) (e : TableFault) → IfSome first (λ s. HasRead table s before pending left) → pending ≡ []
    → left ≡ Some (ending (Some e)) → IfSome first (λ s. GivesBlock table before s (Err e) pending left)
fault_given table first before pending left e reads none over =
    weaker first (λ s. HasRead table s before pending left) (λ s. GivesBlock table before s (Err e) pending left)
    (λ s h. record { rows = h.0; reads = h.1; answers = (none, over, inl (sym h.2 ∙ none)) }) reads

pub memory_given : (table : ℕ) (first : Option Stream) (before pending after : List Fact) (left left' : Option Stream) (e : TableFault)
    → IfSome first (λ s. HasRead table s before pending left) → after ≡ []
    → e ≡ file_fault table kind.Memory → left' ≡ Some (ending (Some e)) → IfSome first (λ s. GivesBlock table before s (Err e) after left')
memory_given table first before pending after left left' e reads none short over =
    weaker first (λ s. HasRead table s before pending left) (λ s. GivesBlock table before s (Err e) after left')
    (λ s h. record { rows = h.0; reads = subst (ReadsRows table s h.0) (sym over) (broken_off table s h.0 left e h.1 (inr short)); answers = (none, over, inr short) }) reads

-- Memory ran out before a row was read.
pub lost_given : (table : ℕ) (first : Option Stream) (before after : List Fact) (left : Option Stream) (e : TableFault) → e ≡ file_fault table kind.Memory → after ≡ []
    → left ≡ Some (ending (Some e)) → IfSome first (λ s. GivesBlock table before s (Err e) after left)
lost_given table first before after left e short none over = memory_given table first before before after first left e (none_read table first before) none short over

-- An answer that exists is `Some`.
pub no_answer : {A : Type 0} (o : Option A) → None ≡ o → IsSome o → ⊥
no_answer None none some = cc some
no_answer (Some x) none some = cc none

pub unanswered : {A : Type 0} (o : Option A) → (IsSome o → ⊥) → o ≡ None
unanswered None none = refl
unanswered (Some x) none = absurd (none refl)

-- More rows are read only if nothing is left of the last one.
pub no_rest : (rest : Option RowRestValue) (facts : List Fact) (count bytes : ℕ) → (IsSome rest → 131072 < length (behind_commas facts)) → count ≡ length facts
    → bytes ≡ length (behind_commas facts) → (1 ≤ count → bytes ≤ 131072) → rest ≡ None
no_rest None facts count bytes long are is short = refl
no_rest (Some rest) [] count bytes long are is short = absurd (omega (arith, long refl, ap length nothing_written.0))
no_rest (Some rest) (f ∷ fs) count bytes long are is short = let some : 1 ≤ count = omega (arith, are) in absurd (omega (arith, long refl, is, short some))

pub none_more : (before after : List Fact) (rest left : Option RowRestValue) → rest ≡ None → left ≡ None → after ≡ before → with_rest after left ≡ with_rest before rest
none_more before after rest left closed none same = ap (with_rest after) none ∙ same ∙ ap (with_rest before) (sym closed)

-- More facts of the last row were added: what is left of the table is as before.
pub same_left : (before after : RowsUnread) (facts more : List Fact) (settled : Option (Option TableFault)) → after ≡ record before { rest = after.rest }
    → with_rest more after.rest ≡ with_rest facts before.rest → blocks_left after more settled ≡ blocks_left before facts settled
same_left before after facts more settled is same =
    let left : RowsUnread → List Fact → BlocksLeft =
    λ rows pending. record {
      table = rows.header.table;
      limit = rows.header.limit;
      given = rows.given;
      pending = pending;
      answered = settled;
      left = end_or_left settled rows.left;
      unread = rows.unread;
    } in
    ap (λ (rows : RowsUnread). left rows (with_rest more after.rest)) is ∙ ap (left before) same

pub same_rows : (before after : RowsUnread) → after ≡ record before { rest = after.rest } → (after.header ≡ before.header) × (after.given ≡ before.given) × (after.unread ≡ before.unread)
same_rows before after is = (ap (λ (r : RowsUnread). r.header) is, ap (λ (r : RowsUnread). r.given) is, ap (λ (r : RowsUnread). r.unread) is)

-- A block takes facts before those that are left of a row.
pub rest_cut : (n : ℕ) (facts : List Fact) (rest : Option RowRestValue) → with_rest facts rest ≡ take n facts ++ with_rest (drop n facts) rest
rest_cut n facts None = sym (take-append-drop n facts)
rest_cut n facts (Some r) = ap (λ (fs : List Fact). fs ++ r.facts) (sym (take-append-drop n facts)) ∙ append_assoc (take n facts) (drop n facts) r.facts

pub rest_dropped : (n : ℕ) (facts : List Fact) (rest : Option RowRestValue) → n ≤ length facts → with_rest (drop n facts) rest ≡ drop n (with_rest facts rest)
rest_dropped n facts rest there = sym (ap (drop n) (rest_cut n facts rest) ∙ drop_at (take n facts) (with_rest (drop n facts) rest) n (length-take-le n facts there))

pub rest_longer : (facts : List Fact) (rest : Option RowRestValue) → length facts ≤ length (with_rest facts rest)
rest_longer facts None = omega arith
rest_longer facts (Some r) = omega (arith, length-append facts r.facts)

-- Then rows were read.
pub moves_on : (k given next : ℕ) (before now after : List Fact) → given ≡ k → now ≡ before → (given < next) ⊎ (after ≡ now) → (k < next) ⊎ (after ≡ before)
moves_on k given next before now after is same (inl more) = inl (omega (arith, more, is))
moves_on k given next before now after is same (inr so) = inr (so ∙ same)

-- WHAT IS LEFT UNREAD

more_dropped : (n : ℕ) (rs : List Record) → drop 1 (drop n rs) ≡ drop (n + 1) rs
more_dropped n rs = drop-drop 1 n rs

-- One more row.
pub behind_row : (table k given next : ℕ) (old now after : Option (List Record)) → k ≤ given → next ≡ given + 1 → IfSome old (λ rs. IsBehind table rs (given - k) None now)
    → IfSome now (λ us. TakesOne table us (Ok true) after) → IfSome old (λ rs. IsBehind table rs (next - k) None after)
behind_row table k given next None now after le is so takes = tt
behind_row table k given next (Some rs) now after le is so takes =
    let one : next - k ≡ (given - k) + 1 = omega (arith, le, is) in
    rw so at takes ∙ ap Some (more_dropped (given - k) rs ∙ ap (λ m. drop m rs) (sym one))

-- The end.
pub behind_end : (table k given next : ℕ) (old now after : Option (List Record)) → next ≡ given → IfSome old (λ rs. IsBehind table rs (given - k) None now)
    → IfSome now (λ us. TakesOne table us (Ok false) after) → IfSome old (λ rs. IsBehind table rs (next - k) (Some None) after)
behind_end table k given next None now after is so takes = tt
behind_end table k given next (Some rs) now after is so takes =
    let took : TakesOne table (drop (given - k) rs) (Ok false) after = rw so at takes in (ap (λ i. drop (i - k) rs) is ∙ took.0, took.1)

-- A fault.
pub behind_fault : (table k given next : ℕ) (old now after : Option (List Record)) (e : TableFault) → next ≡ given → IfSome old (λ rs. IsBehind table rs (given - k) None now)
    → IfSome now (λ us. TakesOne table us (Err e) after) → IfSome old (λ rs. IsBehind table rs (next - k) (Some (Some e)) after)
behind_fault table k given next None now after e is so takes = tt
behind_fault table k given next (Some rs) now after e is so takes = by (rw so at takes)
  where
    by : TakesOne table (drop (given - k) rs) (Err e) after → IsBehind table rs (next - k) (Some (Some e)) after
    by (inl one) = inl (one ∙ ap Some (more_dropped (given - k) rs) ∙ ap (λ i. Some (drop ((i - k) + 1) rs)) (sym is))
    by (inr (outside, none)) = inr (outside, inr none)

-- No row was read.
pub stays : (k given next : ℕ) (before now after : List Fact) → next ≡ given → after ≡ now → (k < given) ⊎ (now ≡ before) → (k < next) ⊎ (after ≡ before)
stays k given next before now after is same (inl more) = inl (omega (arith, more, is))
stays k given next before now after is same (inr so) = inr (same ∙ so)

-- Memory ran out for a block of the waiting facts.
pub behind_short : (table n : ℕ) (old : Option (List Record)) (answered : Option (Option TableFault)) (unread : Option (List Record)) (e : TableFault) → e ≡ file_fault table kind.Memory
    → IfSome old (λ rs. IsBehind table rs n answered unread) → IfSome old (λ rs. IsBehind table rs n (Some (Some e)) unread)
behind_short table n None answered unread e short so = tt
behind_short table n (Some rs) None unread e short so = inr (inr short, inl so)
behind_short table n (Some rs) (Some None) unread e short so = inr (inr short, inr so.1)
behind_short table n (Some rs) (Some (Some f)) unread e short (inl one) = inl one
behind_short table n (Some rs) (Some (Some f)) unread e short (inr (outside, left)) = inr (inr short, left)

-- Memory ran out before a row was read.
pub behind_lost : (table given next : ℕ) (old unread : Option (List Record)) (e : TableFault) → e ≡ file_fault table kind.Memory → next ≡ given → unread ≡ old
    → IfSome old (λ rs. IsBehind table rs (next - given) (Some (Some e)) unread)
behind_lost table given next None unread e short is same = tt
behind_lost table given next (Some rs) unread e short is same =
    let none : next - given ≡ 0 = omega (arith, is) in
    inr (inr short, inl (same ∙ ap (λ (n : ℕ). Some (drop n rs)) (sym none)))
