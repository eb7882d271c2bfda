-- The text written if tables are refused: all of the tables before the first of them, and a prefix
-- of that one.
use Rattle.std.specs.Prelude.{◌≡◌, ℕ, ◌+◌, List, [], ◌∷◌, ◌++◌, Option, Some, None, length}
use Rattle.std.proofs.Common.{arith, refl, sym, ap, ◌∙◌, subst, inl, inr, append-nil, append_assoc}
use mathlib.Core.List.{IsPrefix}
use Rattle.oim_convert.proofs.FaultTables.{given_table}
use Rattle.oim_convert.proofs.OwnFaults.{IsOwn, own_table}
use Rattle.oim_convert.proofs.StreamHistories.{facts_with, refusals_with}
use Rattle.oim_convert.proofs.WrittenIds.{first_rows, no_facts}
use Rattle.oim_convert.specs.Answer.{ending_of, streams, streams_from}
use Rattle.oim_convert.specs.Histories.{AreDecoded, AreUnserved, IsGiven}
use Rattle.oim_convert.specs.Runs.{AreHistories}
use Rattle.oim_convert.specs.WrittenHistories.{WritesHistories}
use Rattle.oim_json.specs.Document.{text_after}
use Rattle.oim_json.specs.JsonText.{head_text}
use Rattle.oim_json.specs.Sinks.{SinkView, Wrote}
use Rattle.oim_json.specs.declared.layout.Layout.{Layout}
use Rattle.oim_merge.specs.Histories.{all_of, document, facts_before, refusals, tail_for, unfinished}
use Rattle.oim_merge.specs.declared.progress.MergeEnd.TheVariants as end
use Rattle.oim_report.specs.ReportValue.{ReportValue}
use Rattle.oim_resolve.specs.FactParts.{FactParts as Fact}
use Rattle.oim_ring.specs.declared.item.Ending as Endings
use Rattle.oim_ring.specs.declared.item.Ending.TheVariants.{Closed, Refused}
use Rattle.oim_ring.specs.declared.item.Item.{Item}
use Rattle.oim_ring.specs.declared.item.Item.TheVariants.{Ending}
use Rattle.oim_rows.specs.Header.{file_fault}
use Rattle.oim_rows.specs.Streams.{Stream, facts_of, table_stream}
use Rattle.oim_rows.specs.declared.fault.TableFault.{TableFault}
use Rattle.oim_rows.specs.declared.fault.TableKind.TheVariants as kind
use Rattle.oim_run.specs.Outcomes.{StopsAt, StopsInTable, facts_of_streams}

-- One table.

closed_none : (o : Option TableFault) → Closed ≡ ending_of o → o ≡ None
closed_none None e = refl
closed_none (Some a) e = absurd (cc)

whole_of : (i : ℕ) (s : Stream) (facts : List Fact) → IsGiven i s facts Closed → (facts ≡ facts_of s) × (s.fault ≡ None)
whole_of i s facts (inl whole) = (whole.0, closed_none s.fault whole.1)
whole_of i s facts (inr (inl unread)) = absurd (let e = unread.refused in cc)
whole_of i s facts (inr (inr short)) = absurd (let e = short.refused in cc)

given_some : (i : ℕ) (s : Stream) (facts : List Fact) (e : Endings.Ending) → IsGiven i s facts e → IsPrefix facts (facts_of s)
given_some i s facts e (inl whole) = subst (λ (fs : List Fact). IsPrefix fs (facts_of s)) (sym whole.0) ([], append-nil (facts_of s))
given_some i s facts e (inr (inl unread)) = subst (λ (fs : List Fact). IsPrefix fs (facts_of s)) (sym unread.holds) (first_rows unread.rows s.rows unread.some)
given_some i s facts e (inr (inr short)) = short.some

-- The table is whole, and the first refused one is a later one.
goes_on : (i : ℕ) (s : Stream) (ss : List Stream) (facts : List Fact) (items : List Item) → (facts ≡ facts_of s) × (s.fault ≡ None) → (f : TableFault)
    → StopsAt (i + 1) ss f (facts_before items) → StopsAt i (s ∷ ss) f (facts ++ facts_before items)
goes_on i s ss facts items whole f at = record {
  before = s ∷ at.before;
  here = at.here;
  later = at.later;
  tables = ap (λ l. s ∷ l) at.tables;
  place = let p = at.place in omega (arith, p);
  sound = (whole.1, at.sound);
  first = at.first;
  some = at.some;
  facts = ap (λ l. l ++ facts_before items) whole.0 ∙ (ap (λ l. facts_of s ++ l) at.facts ∙ sym (append_assoc (facts_of s) (facts_of_streams at.before) at.first));
}

ends_or_goes : (i : ℕ) (s : Stream) (ss : List Stream) (facts : List Fact) (e : Endings.Ending) (items : List Item) → IsGiven i s facts e → IsOwn i s.fault
    → (f : TableFault) (rest : List TableFault) → refusals (Ending e ∷ []) ++ refusals items ≡ f ∷ rest
    → (refusals items ≡ f ∷ rest → StopsAt (i + 1) ss f (facts_before items)) → StopsAt i (s ∷ ss) f (facts ++ facts_before (Ending e ∷ items))
ends_or_goes i s ss facts Closed items given own f rest is go = goes_on i s ss facts items (whole_of i s facts given) f (go is)
ends_or_goes i s ss facts (Refused x) items given own f rest is go =
    let same : x ≡ f = cc in
    let at : x.table ≡ i = given_table i s facts (Refused x) x given own refl in
    let place : f.table ≡ i = subst (λ (y : TableFault). y.table ≡ i) same at in
    record {
      before = [];
      here = s;
      later = ss;
      tables = refl;
      place = omega (arith, place);
      sound = tt;
      first = facts;
      some = given_some i s facts (Refused x) given;
      facts = append-nil facts;
    }

-- All tables.

decoded_stop : (report : ReportValue) (limit i : ℕ) (fs : List (Option (List ℕ))) (hs : List (List Item)) → AreDecoded i (streams_from report limit i fs) hs
    → (f : TableFault) (rest : List TableFault) → refusals (all_of hs) ≡ f ∷ rest → StopsAt i (streams_from report limit i fs) f (facts_before (all_of hs))
decoded_stop report limit i [] [] all f rest is = absurd (cc)
decoded_stop report limit i [] (h ∷ hs) all f rest is = absurd all
decoded_stop report limit i (file ∷ fs) [] all f rest is = absurd all
decoded_stop report limit i (file ∷ fs) (h ∷ hs) all f rest is =
    let d = all.0 in
    let s = table_stream report i limit file in
    let later = streams_from report limit (i + 1) fs in
    subst (λ (l : List Fact). StopsAt i (s ∷ later) f l) (sym (facts_with d.facts d.ending h (all_of hs) d.is))
    (ends_or_goes i s later d.facts d.ending (all_of hs) d.given (own_table report i limit file) f rest (sym (refusals_with d.facts d.ending h (all_of hs) d.is) ∙ is)
    (λ more. decoded_stop report limit (i + 1) fs hs all.1 f rest more))

unserved_stop : (i : ℕ) (ss : List Stream) (hs : List (List Item)) → AreUnserved i ss hs → (f : TableFault) (rest : List TableFault) → refusals (all_of hs) ≡ f ∷ rest
    → StopsAt i ss f (facts_before (all_of hs))
unserved_stop i [] [] all f rest is = absurd (cc)
unserved_stop i [] (h ∷ hs) all f rest is = absurd all
unserved_stop i (s ∷ ss) [] all f rest is = absurd all
unserved_stop i (s ∷ ss) (h ∷ hs) all f rest is =
    let x = file_fault i kind.NoThread in
    let some : x ∷ refusals (all_of hs) ≡ f ∷ rest = subst (λ (l : List Item). refusals (l ++ all_of hs) ≡ f ∷ rest) all.0 is in
    let same : x ≡ f = cc in
    let place : f.table ≡ i = subst (λ (y : TableFault). y.table ≡ i) same refl in
    subst (λ (l : List Item). StopsAt i (s ∷ ss) f (facts_before (l ++ all_of hs))) (sym all.0)
    (record {
      before = [];
      here = s;
      later = ss;
      tables = refl;
      place = omega (arith, place);
      sound = tt;
      first = [];
      some = no_facts (facts_of s);
      facts = refl;
    })

histories_stop : (report : ReportValue) (limit : ℕ) (files : List (Option (List ℕ))) (hs : List (List Item)) → AreHistories (streams report limit files) hs
    → (f : TableFault) (rest : List TableFault) → refusals (all_of hs) ≡ f ∷ rest → StopsAt 0 (streams report limit files) f (facts_before (all_of hs))
histories_stop report limit files hs (inl decoded) f rest is = decoded_stop report limit 0 files hs decoded f rest is
histories_stop report limit files hs (inr unserved) f rest is = unserved_stop 0 (streams report limit files) hs unserved f rest is

-- The text.

module _ (layout : Layout) (report : ReportValue) (limit : ℕ) (files : List (Option (List ℕ))) (old new : SinkView) where
  pub stops : (faults : List TableFault) → WritesHistories (AreHistories (streams report limit files)) layout report old new faults end.Refused
      → StopsInTable layout report (streams report limit files) old new faults
  stops [] w = absurd (w.merged.1.0 refl)
  stops (f ∷ faults) w =
      let hs = w.histories in
      let so_far = unfinished layout (head_text report) (all_of hs) in
      let some : refusals (all_of hs) ≡ f ∷ faults = sym w.merged.0 in
      let cut : document layout (head_text report) hs ≡ so_far = ap (λ (fs : List TableFault). so_far ++ tail_for layout fs) some ∙ append-nil so_far in (
        facts_before (all_of hs),
        histories_stop report limit files hs w.are f faults some,
        subst (λ (t : List ℕ). Wrote old new t) cut w.merged.1.1,
      )
