-- The facts of a table as they are sent, block after block.
use Rattle.std.specs.Prelude.{◌≡◌, ◌⊎◌, ℕ, List, [], ◌∷◌, ◌++◌, true, Option, Some, None, Result, Ok, Err, IfSome}
use Rattle.std.proofs.Common.{refl, sym, ap, ◌∙◌, subst, append_assoc, append-nil, inl, inr}
use Rattle.std.proofs.lemmas.Grind.{flat_map-append}
use mathlib.Core.List.{IsPrefix}
use Rattle.oim_decode.specs.Blocks.{AnswersFacts, GivesBlock, ReadsRows}
use Rattle.oim_records.specs.Grids.{grid}
use Rattle.oim_report.specs.ReportValue.{ReportValue}
use Rattle.oim_resolve.specs.FactParts.{FactParts as Fact}
use Rattle.oim_ring.specs.Items.{blocks_only}
use Rattle.oim_ring.specs.declared.item.Ending as Endings
use Rattle.oim_ring.specs.declared.item.Ending.TheVariants.{Closed, Refused}
use Rattle.oim_ring.specs.declared.item.Item.{Item}
use Rattle.oim_ring.specs.declared.item.Item.TheVariants.{Block, Ending}
use Rattle.oim_rows.specs.Header.{file_fault, file_header_fault}
use Rattle.oim_rows.specs.Streams.{IsOutside, Stream, ending, facts_of, facts_of_rows, stream_of, table_stream}
use Rattle.oim_rows.specs.declared.fault.TableFault.{TableFault}
use Rattle.oim_rows.specs.declared.fault.TableKind.TheVariants as kind
use Rattle.oim_convert.specs.Answer.{ending_of}
use Rattle.oim_records.specs.Reads.{IsFileOf}
use Rattle.oim_convert.specs.Histories.{IsDecoded, IsGiven, facts_in}
pub use Rattle.oim_convert.specs.state.Reading.{IsReading}
use Rattle.oim_pieces.specs.PiecesLeft.{KeepsStream}
use Rattle.oim_convert.proofs.TableFiles.{has_file, has_no_file, refused_header}

-- Blocks.

pub facts_push : (items : List Item) (facts : List Fact) → facts_in (items ++ Block facts ∷ []) ≡ facts_in items ++ facts
facts_push [] facts = append-nil facts
facts_push (Block fs ∷ items) facts = ap (λ l. fs ++ l) (facts_push items facts) ∙ sym (append_assoc fs (facts_in items) facts)
facts_push (Ending e ∷ items) facts = facts_push items facts

-- Rows.

pub rows_append : (xs ys : List (List Fact)) → facts_of_rows (xs ++ ys) ≡ facts_of_rows xs ++ facts_of_rows ys
rows_append xs ys = flat_map-append (λ (row : List Fact). row) xs ys

-- The facts of the first rows are a prefix of the table's.
first_facts : (whole : Stream) (rows : List (List Fact)) (given more : List Fact) → IsPrefix rows whole.rows → given ++ more ≡ facts_of_rows rows → IsPrefix given (facts_of whole)
first_facts whole rows given more (later, is) all = (
  more ++ facts_of_rows later,
  sym (append_assoc given more (facts_of_rows later)) ∙ (ap (λ l. l ++ facts_of_rows later) all ∙ (sym (rows_append rows later) ∙ ap facts_of_rows is)),
)

rows_before : (table : ℕ) (whole : Stream) (rows : List (List Fact)) (left : Option Stream) → ReadsRows table whole rows left → IsPrefix rows whole.rows
rows_before table whole rows None reads = absurd reads
rows_before table whole rows (Some rest) (inl (split, same)) = (rest.rows, sym split)
rows_before table whole rows (Some rest) (inr (some, e, outside, only)) = some

same_stream : (s : Stream) (o : Option TableFault) → [] ≡ s.rows → o ≡ s.fault → s ≡ ending o
same_stream s o none same = ap (λ (rows : List (List Fact)). record { rows = rows; fault = s.fault }) (sym none) ∙ ap ending (sym same)

-- Rows that were read after others.
reads_on : (table : ℕ) (whole mid : Stream) (rows more : List (List Fact)) (left : Option Stream) → ReadsRows table whole rows (Some mid)
    → ReadsRows table mid more left → ReadsRows table whole (rows ++ more) left
reads_on table whole mid rows more None first next = absurd next
reads_on table whole mid rows more (Some rest) (inl (split, same)) (inl (split2, same2)) =
    inl (split ∙ (ap (λ l. rows ++ l) split2 ∙ sym (append_assoc rows more rest.rows)), same ∙ same2)
reads_on table whole mid rows more (Some rest) (inl (split, same)) (inr (some, e, outside, only)) =
    inr ((some.0, append_assoc rows more some.0 ∙ (ap (λ l. rows ++ l) some.1 ∙ sym split)), e, outside, only)
reads_on table whole mid rows [] (Some rest) (inr (some, e, outside, only)) (inl (split2, same2)) =
    let rest_is : rest ≡ ending (Some e) = same_stream rest (Some e) (ap (λ (x : Stream). x.rows) (sym only) ∙ split2) (ap (λ (x : Stream). x.fault) (sym only) ∙ same2) in
    inr ((some.0, ap (λ l. l ++ some.0) (append-nil rows) ∙ some.1), e, outside, rest_is)
reads_on table whole mid rows (m ∷ more) (Some rest) (inr (some, e, outside, only)) (inl (split2, same2)) =
    let no : [] ≡ m ∷ (more ++ rest.rows) = ap (λ (x : Stream). x.rows) (sym only) ∙ split2 in absurd (cc no)
reads_on table whole mid rows [] (Some rest) (inr (some, e, outside, only)) (inr (some2, e2, outside2, only2)) =
    inr ((some.0, ap (λ l. l ++ some.0) (append-nil rows) ∙ some.1), e2, outside2, only2)
reads_on table whole mid rows (m ∷ more) (Some rest) (inr (some, e, outside, only)) (inr (some2, e2, outside2, only2)) =
    let no : m ∷ (more ++ some2.0) ≡ [] = some2.1 ∙ ap (λ (x : Stream). x.rows) only in absurd (cc no)

-- The blocks of a table.

pub reading_begins : (table : ℕ) (left : Option Stream) (given pending : List Fact) → given ≡ [] → pending ≡ [] → IfSome left (λ whole. IsReading table whole given pending left)
reading_begins table None given pending none waits = tt
reading_begins table (Some s) given pending none waits = record { rows = []; reads = inl (refl, refl); holds = ap (λ l. l ++ pending) none ∙ waits }

-- The stream that is left is the same.
pub reading_kept : (table : ℕ) (whole : Stream) (given pending : List Fact) (left left' : Option Stream) → IsReading table whole given pending left → KeepsStream left left'
    → IsReading table whole given pending left'
reading_kept table whole given pending None left' r kept = absurd r.reads
reading_kept table whole given pending (Some s) left' r kept = subst (IsReading table whole given pending) (sym kept) r

-- One worker sends the rest of a table.
pub rest_given : (table opened : ℕ) (whole : Stream) (given given' pending : List Fact) (left left' : Option Stream) (e : Endings.Ending) → opened ≡ table → pending ≡ []
    → KeepsStream left left' → IsReading table whole given [] left → (IsReading opened whole given pending left' → IsGiven opened whole given' e) → IsGiven table whole given' e
rest_given table opened whole given given' pending left left' e same none kept r sent =
    let now : IsReading table whole given [] left' = reading_kept table whole given [] left left' r kept in
    let of_rest : IsReading opened whole given pending left' =
    subst (λ t. IsReading t whole given pending left') (sym same) (subst (λ p. IsReading table whole given p left') (sym none) now) in
    subst (λ t. IsGiven t whole given' e) same (sent of_rest)

-- All rows read, after one more answer.
record HasRead (table : ℕ) (whole : Stream) (given : List Fact) (result : Result (Option (List Fact)) TableFault) (pending : List Fact) (left : Option Stream) : Type 0 where
  rows : List (List Fact)
  reads : ReadsRows table whole rows left
  facts : List Fact
  holds : given ++ facts ≡ facts_of_rows rows
  answers : AnswersFacts table facts result pending left

module _ (table : ℕ) (whole : Stream) (given before pending : List Fact) (after : Option Stream) where
  has_read : (left : Option Stream) (result : Result (Option (List Fact)) TableFault) → IsReading table whole given before left → IfSome left (λ s. GivesBlock table before s result pending after)
      → HasRead table whole given result pending after
  has_read None result r gives = absurd r.reads
  has_read (Some s) result r gives =
      record {
        rows = r.rows ++ gives.rows;
        reads = reads_on table whole s r.rows gives.rows after r.reads gives.reads;
        facts = before ++ facts_of_rows gives.rows;
        holds = sym (append_assoc given before (facts_of_rows gives.rows)) ∙ (ap (λ l. l ++ facts_of_rows gives.rows) r.holds ∙ sym (rows_append r.rows gives.rows));
        answers = gives.answers;
      }

  pub block_given : (left : Option Stream) (block given' : List Fact) → IsReading table whole given before left
      → IfSome left (λ s. GivesBlock table before s (Ok (Some block)) pending after) → given' ≡ given ++ block
      → IsReading table whole given' pending after
  block_given left block given' r gives more =
      let h = has_read left (Ok (Some block)) r gives in
      record { rows = h.rows; reads = h.reads; holds = ap (λ l. l ++ pending) more ∙ (append_assoc given block pending ∙ (ap (λ l. given ++ l) (sym h.answers) ∙ h.holds)) }

-- The facts given are a prefix of the table's.
pub so_far : (table : ℕ) (whole : Stream) (given pending : List Fact) (left : Option Stream) → IsReading table whole given pending left → IsPrefix given (facts_of whole)
so_far table whole given pending left r = first_facts whole r.rows given pending (rows_before table whole r.rows left r.reads) r.holds

-- A table that ends before its stream does.
pub cut_short : (table : ℕ) (whole : Stream) (given pending : List Fact) (left : Option Stream) (e : Endings.Ending)
    → IsReading table whole given pending left → e ≡ Refused (file_fault table kind.Memory) → IsGiven table whole given e
cut_short table whole given pending left e r is = inr (inr (record { some = so_far table whole given pending left r; refused = is }))

-- The reader failed, or memory ran out, after these rows.
outside_given : (table : ℕ) (whole : Stream) (rows : List (List Fact)) (given : List Fact) (e f : TableFault) → IsPrefix rows whole.rows
    → IsOutside table e → f ≡ e → given ≡ facts_of_rows rows → IsGiven table whole given (Refused f)
outside_given table whole rows given e f some (inl unread) is all = inr (inl (record { rows = rows; some = some; holds = all; refused = ap (λ x. Refused x) (is ∙ unread) }))
outside_given table whole rows given e f some (inr short) is all =
    inr (inr (record { some = first_facts whole rows given [] some (append-nil given ∙ all); refused = ap (λ x. Refused x) (is ∙ short) }))

-- All facts read are given, and only an ending is left.
all_given : (table : ℕ) (whole : Stream) (rows : List (List Fact)) (given : List Fact) (o : Option TableFault)
    → ReadsRows table whole rows (Some (ending o)) → given ≡ facts_of_rows rows → IsGiven table whole given (ending_of o)
all_given table whole rows given o (inl (split, same)) all = inl (all ∙ sym (ap facts_of_rows (split ∙ append-nil rows)), ap ending_of (sym same))
all_given table whole rows given None (inr (some, e, outside, only)) all = let no : None ≡ Some e = ap (λ (x : Stream). x.fault) only in absurd (cc no)
all_given table whole rows given (Some f) (inr (some, e, outside, only)) all =
    let one : Some f ≡ Some e = ap (λ (x : Stream). x.fault) only in let same : f ≡ e = cc one in outside_given table whole rows given e f some outside same all

nothing_waits : (given facts all : List Fact) → given ++ facts ≡ all → facts ≡ [] → given ≡ all
nothing_waits given facts all holds none = sym (append-nil given) ∙ (ap (λ l. given ++ l) (sym none) ∙ holds)

module _ (table : ℕ) (whole : Stream) (given before pending : List Fact) (left after : Option Stream) (r : IsReading table whole given before left) where
  pub end_given : IfSome left (λ s. GivesBlock table before s (Ok None) pending after) → IsGiven table whole given Closed
  end_given gives =
      let h = has_read table whole given before pending after left (Ok None) r gives in
      all_given table whole h.rows given None (subst (ReadsRows table whole h.rows) h.answers.2 h.reads) (nothing_waits given h.facts (facts_of_rows h.rows) h.holds h.answers.0)

  pub fault_given : (e : TableFault) → IfSome left (λ s. GivesBlock table before s (Err e) pending after) → IsGiven table whole given (Refused e)
  fault_given e gives = by h.answers.2
    where
      h : HasRead table whole given (Err e) pending after
      h = has_read table whole given before pending after left (Err e) r gives

      by : (h.facts ≡ []) ⊎ (e ≡ file_fault table kind.Memory) → IsGiven table whole given (Refused e)
      by (inl none) = all_given table whole h.rows given (Some e) (subst (ReadsRows table whole h.rows) h.answers.1 h.reads)
          (nothing_waits given h.facts (facts_of_rows h.rows) h.holds none)
      by (inr short) =
          inr (inr (record { some = first_facts whole h.rows given h.facts (rows_before table whole h.rows after h.reads) h.holds; refused = ap (λ x. Refused x) short }))

-- Files.

-- A file whose header has a fault, or could not be read.
pub unopened_given : (report : ReportValue) (table limit : ℕ) (bytes : List ℕ) (sent : List Fact) (e : TableFault) → IsOutside table e
    ⊎ (file_header_fault report table (grid bytes) ≡ Some e) → sent ≡ []
    → IsGiven table (table_stream report table limit (Some bytes)) sent (Refused e)
unopened_given report table limit bytes sent e (inl outside) none =
    let whole = stream_of report table limit (grid bytes) in outside_given table whole [] sent e e (whole.rows, refl) outside refl none
unopened_given report table limit bytes sent e (inr bad) none =
    let is = refused_header report table limit (grid bytes) e bad in inl (none ∙ sym (ap facts_of is), ap (λ (s : Stream). ending_of s.fault) (sym is))

-- The blocks of a file that was opened.
pub opened_given : (report : ReportValue) (table opened limit : ℕ) (o : Option (List ℕ)) (left : Option Stream) (sent : List Fact) (e : Endings.Ending) → opened ≡ table
    → IfSome o (λ bytes. left ≡ Some (stream_of report table limit (grid bytes))) → IfSome left (λ s. IsGiven opened s sent e)
    → IfSome o (λ bytes. IsGiven table (table_stream report table limit (Some bytes)) sent e)
opened_given report table opened limit None left sent e same is given = tt
opened_given report table opened limit (Some bytes) left sent e same is given = rw (is, same) at given

-- The facts given and the ending are the table's history.
pub decoded : (table : ℕ) (s : Stream) (before history : List Item) (e : Endings.Ending) → IsGiven table s (facts_in before) e
    → blocks_only before ≡ true → history ≡ before ++ Ending e ∷ [] → IsDecoded table s history
decoded table s before history e given only is = record { facts = facts_in before; ending = e; given = given; is = record { before = before; blocks = only; holds = refl; is = is } }

pub if_some_both : {X : Type 0} (o : Option X) (P Q S : X → Type 0) → ((x : X) → P x → Q x → S x) → IfSome o P → IfSome o Q → IfSome o S
if_some_both None P Q S f p q = tt
if_some_both (Some x) P Q S f p q = f x p q

pub file_decoded : {R : Type 0} → (told : R → Option (List ℕ)) (r : R) (file : Option (List ℕ)) (report : ReportValue) (table limit : ℕ)
    (before history : List Item) (e : Endings.Ending) → IsFileOf told (Some r) file
    → IfSome (told r) (λ bytes. IsGiven table (table_stream report table limit (Some bytes)) (facts_in before) e) → blocks_only before ≡ true → history ≡ before ++ Ending e ∷ []
    → IsDecoded table (table_stream report table limit file) history
file_decoded told r file report table limit before history e is given only closed =
    has_file told r file (λ f. IsDecoded table (table_stream report table limit f) history) is
    (λ bytes tells. decoded table (table_stream report table limit (Some bytes)) before history e (subst (λ o.
    IfSome o (λ b. IsGiven table (table_stream report table limit (Some b)) (facts_in before) e)) tells given) only closed)

pub no_file_decoded : {R : Type 0} → (told : R → Option (List ℕ)) (file : Option (List ℕ)) (report : ReportValue) (table limit : ℕ)
    (before history : List Item) (e : Endings.Ending) → IsFileOf told None file
    → before ≡ [] → e ≡ ending_of (table_stream report table limit None).fault → blocks_only before ≡ true → history ≡ before ++ Ending e ∷ []
    → IsDecoded table (table_stream report table limit file) history
no_file_decoded told file report table limit before history e is none ends only closed =
    has_no_file told file (λ f. IsDecoded table (table_stream report table limit f) history) is
    (decoded table (table_stream report table limit None) before history e (inl (ap facts_in none, ends)) only closed)
