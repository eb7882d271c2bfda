-- The facts of a document are a prefix of the report's facts, so no two of them have one
-- identifier.
use Rattle.std.specs.Prelude.{◌≡◌, ℕ, ◌+◌, Bool, false, List, [], ◌∷◌, ◌++◌, Option, map}
use Rattle.std.proofs.Common.{refl, sym, ap, ◌∙◌, subst, append_assoc, append-nil, inl, inr}
use Rattle.std.proofs.lemmas.List.{map-append}
use Rattle.std.specs.List.{AllByRecursion, IsDistinct}
use Rattle.std.specs.Str.{bytes_eq}
use mathlib.Core.List.{IsPrefix}
use Rattle.oim_merge.specs.Histories.{all_of, facts_before}
use Rattle.oim_report.specs.ReportValue.{ReportValue}
use Rattle.oim_resolve.specs.FactParts.{FactParts as Fact}
use Rattle.oim_ring.specs.declared.item.Ending as Endings
use Rattle.oim_ring.specs.declared.item.Ending.TheVariants.{Closed, Refused}
use Rattle.oim_ring.specs.declared.item.Item.{Item}
use Rattle.oim_ring.specs.declared.item.Item.TheVariants.{Ending}
use Rattle.oim_rows.specs.Identifiers.{HaveOwnIds, facts_of_tables}
use Rattle.oim_rows.specs.Streams.{Stream, facts_of, facts_of_rows, table_stream}
use Rattle.oim_rows.specs.declared.fault.TableFault.{TableFault}
use Rattle.oim_convert.specs.Answer.{histories_of, streams, streams_from}
use Rattle.oim_convert.specs.Histories.{AreDecoded, AreUnserved, IsGiven}
use Rattle.oim_convert.specs.Identifiers.{WriteOwnIds}
use Rattle.oim_convert.specs.Runs.{AreHistories}
use Rattle.oim_convert.proofs.SentFacts.{rows_append}
use Rattle.oim_convert.proofs.StreamHistories.{facts_with, streams_decoded}

-- The first facts of a list.

first_all : {K : Type 0} (P : K → Type 0) (xs ys : List K) → AllByRecursion P (xs ++ ys) → AllByRecursion P xs
first_all P [] ys all = tt
first_all P (x ∷ xs) ys all = (all.0, first_all P xs ys all.1)

first_distinct : {K : Type 0} (same : K → K → Bool) (xs ys : List K) → IsDistinct same (xs ++ ys) → IsDistinct same xs
unfolding IsDistinct
first_distinct same [] ys all = tt
first_distinct {K = K} same (x ∷ xs) ys all = (first_all (λ (y : K). same x y ≡ false) xs ys all.0, first_distinct same xs ys all.1)

first_ids : (facts more : List Fact) → HaveOwnIds (facts ++ more) → HaveOwnIds facts
first_ids facts more own =
    first_distinct bytes_eq (map (λ (f : Fact). f.id) facts) (map (λ (f : Fact). f.id) more)
    (subst (λ (ids : List (List ℕ)). IsDistinct bytes_eq ids) (map-append (λ (f : Fact). f.id) facts more) own)

prefix_ids : (facts all : List Fact) → IsPrefix facts all → HaveOwnIds all → HaveOwnIds facts
prefix_ids facts all (more, is) own = first_ids facts more (subst (λ (l : List Fact). HaveOwnIds l) (sym is) own)

pub no_facts : (all : List Fact) → IsPrefix [] all
no_facts all = (all, refl)

-- After all facts of a table.
pub behind_table : (facts those more : List Fact) → IsPrefix those more → IsPrefix (facts ++ those) (facts ++ more)
behind_table facts those more (rest, is) = (rest, append_assoc facts those rest ∙ ap (λ l. facts ++ l) is)

-- A table without its later facts and those of later tables.
pub cut_in_table : (facts all more : List Fact) → IsPrefix facts all → IsPrefix (facts ++ []) (all ++ more)
cut_in_table facts all more (rest, is) =
    (rest ++ more, ap (λ l. l ++ (rest ++ more)) (append-nil facts) ∙ (sym (append_assoc facts rest more) ∙ ap (λ l. l ++ more) is))

-- The facts of histories.

after_ending : (e : Endings.Ending) (items : List Item) (all : List Fact) → IsPrefix (facts_before items) all → IsPrefix (facts_before (Ending e ∷ items)) all
after_ending Closed items all first = first
after_ending (Refused x) items all first = no_facts all

-- A table that is refused with these first facts.
pub refused_table : (e : Endings.Ending) (x : TableFault) (items : List Item) (facts all more : List Fact) → e ≡ Refused x → IsPrefix facts all
    → IsPrefix (facts ++ facts_before (Ending e ∷ items)) (all ++ more)
refused_table e x items facts all more is first =
    subst (λ (y : Endings.Ending). IsPrefix (facts ++ facts_before (Ending y ∷ items)) (all ++ more)) (sym is) (cut_in_table facts all more first)

pub first_rows : (rows all : List (List Fact)) → IsPrefix rows all → IsPrefix (facts_of_rows rows) (facts_of_rows all)
first_rows rows all (later, is) = (facts_of_rows later, sym (rows_append rows later) ∙ ap facts_of_rows is)

given_first : (table : ℕ) (s : Stream) (facts : List Fact) (e : Endings.Ending) (items : List Item) (more : List Fact) → IsGiven table s facts e → IsPrefix (facts_before items) more
    → IsPrefix (facts ++ facts_before (Ending e ∷ items)) (facts_of s ++ more)
given_first table s facts e items more (inl whole) first =
    subst (λ (fs : List Fact). IsPrefix (fs ++ facts_before (Ending e ∷ items)) (facts_of s ++ more)) (sym whole.0)
    (behind_table (facts_of s) (facts_before (Ending e ∷ items)) more (after_ending e items more first))
given_first table s facts e items more (inr (inl unread)) first =
    refused_table e _ items facts (facts_of s) more unread.refused
    (subst (λ (fs : List Fact). IsPrefix fs (facts_of s)) (sym unread.holds) (first_rows unread.rows s.rows unread.some))
given_first table s facts e items more (inr (inr short)) first = refused_table e _ items facts (facts_of s) more short.refused short.some

decoded_first : (report : ReportValue) (limit i : ℕ) (files : List (Option (List ℕ))) (hs : List (List Item)) → AreDecoded i (streams_from report limit i files) hs
    → IsPrefix (facts_before (all_of hs)) (facts_of_tables report limit i files)
decoded_first report limit i [] [] all = no_facts []
decoded_first report limit i [] (h ∷ hs) all = absurd all
decoded_first report limit i (file ∷ files) [] all = absurd all
decoded_first report limit i (file ∷ files) (h ∷ hs) all =
    let s = table_stream report i limit file in
    let d = all.0 in
    let more = facts_of_tables report limit (i + 1) files in
    let first = given_first i s d.facts d.ending (all_of hs) more d.given (decoded_first report limit (i + 1) files hs all.1) in
    subst (λ (fs : List Fact). IsPrefix fs (facts_of_tables report limit i (file ∷ files))) (sym (facts_with d.facts d.ending h (all_of hs) d.is)) first

pub unserved_first : (i : ℕ) (ss : List Stream) (hs : List (List Item)) (all : List Fact) → AreUnserved i ss hs → IsPrefix (facts_before (all_of hs)) all
unserved_first i [] [] all are = no_facts all
unserved_first i [] (h ∷ hs) all are = absurd are
unserved_first i (s ∷ ss) [] all are = absurd are
unserved_first i (s ∷ ss) (h ∷ hs) all are = subst (λ (x : List Item). IsPrefix (facts_before (x ++ all_of hs)) all) (sym are.0) (no_facts all)

-- The law.

module _ (report : ReportValue) (limit : ℕ) (files : List (Option (List ℕ))) where
  pub run_ids : (hs : List (List Item)) → HaveOwnIds (facts_of_tables report limit 0 files) → AreHistories (streams report limit files) hs → WriteOwnIds hs
  run_ids hs own (inl decoded) = prefix_ids (facts_before (all_of hs)) (facts_of_tables report limit 0 files) (decoded_first report limit 0 files hs decoded) own
  run_ids hs own (inr unserved) =
      prefix_ids (facts_before (all_of hs)) (facts_of_tables report limit 0 files) (unserved_first 0 (streams report limit files) hs (facts_of_tables report limit 0 files) unserved) own

  pub answer_ids : HaveOwnIds (facts_of_tables report limit 0 files) → WriteOwnIds (histories_of (streams report limit files))
  answer_ids own = run_ids (histories_of (streams report limit files)) own (inl (streams_decoded 0 (streams report limit files)))
