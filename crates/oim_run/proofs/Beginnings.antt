-- The text that a conversion writes is a prefix of the defined text, whatever faults its tables
-- have.
use Rattle.std.proofs.Common.{◌≡◌, ◌∙◌, ℕ, ◌+◌, refl, List, [], ◌∷◌, ◌++◌, ap, append-nil, append_assoc, inl, inr, sym, subst}
use mathlib.Core.List.{IsPrefix}
use Rattle.oim_convert.proofs.SerialLaws.{document_first, text_first}
use Rattle.oim_convert.proofs.StreamHistories.{streams_text}
use Rattle.oim_convert.proofs.WrittenIds.{unserved_first}
use Rattle.oim_convert.specs.Answer.{answer_text, histories_of}
use Rattle.oim_convert.specs.Histories.{AreUnserved}
use Rattle.oim_convert.specs.Runs.{AreHistories, AreStreams}
use Rattle.oim_convert.specs.WrittenHistories.{WritesHistories}
use Rattle.oim_json.specs.JsonText.{head_text}
use Rattle.oim_json.specs.Sinks.{SinkView}
use Rattle.oim_json.specs.declared.layout.Layout.{Layout}
use Rattle.oim_merge.specs.Histories.{all_of, document, facts_before, refusals, tail_for, unfinished}
use Rattle.oim_merge.specs.Merging.{EndsWith}
use Rattle.oim_merge.specs.declared.progress.MergeEnd.{MergeEnd}
use Rattle.oim_merge.specs.declared.progress.MergeEnd.TheVariants as end
use Rattle.oim_report.specs.ReportValue.{ReportValue}
use Rattle.oim_ring.specs.declared.item.Ending.TheVariants.{Refused}
use Rattle.oim_ring.specs.declared.item.Item.{Item}
use Rattle.oim_ring.specs.declared.item.Item.TheVariants.{Ending}
use Rattle.oim_rows.specs.Header.{file_fault}
use Rattle.oim_rows.specs.Streams.{Stream}
use Rattle.oim_rows.specs.declared.fault.TableFault.{TableFault}
use Rattle.oim_rows.specs.declared.fault.TableKind.TheVariants as kind
use Rattle.oim_run.specs.Outcomes.{Begins}

-- No table was refused, so threads could be made, or there are no tables.
open_unserved : (i : ℕ) (ss : List Stream) (hs : List (List Item)) → AreUnserved i ss hs → refusals (all_of hs) ≡ [] → AreStreams ss hs
open_unserved i [] [] all none = tt
open_unserved i [] (h ∷ hs) all none = absurd all
open_unserved i (s ∷ ss) [] all none = absurd all
open_unserved i (s ∷ ss) (h ∷ hs) all none =
    let some : refusals ((Ending (Refused (file_fault i kind.NoThread)) ∷ []) ++ all_of hs) ≡ [] =
    subst (λ (x : List Item). refusals (x ++ all_of hs) ≡ []) all.0 none in
    absurd (cc)

module _ (layout : Layout) (report : ReportValue) (ss : List Stream) where
  unserved_begins : (hs : List (List Item)) → AreUnserved 0 ss hs → (faults : List TableFault) → refusals (all_of hs) ≡ faults
      → IsPrefix (document layout (head_text report) hs) (answer_text layout report ss)
  unserved_begins hs are [] none = ([], append-nil (document layout (head_text report) hs) ∙ streams_text layout report ss hs (open_unserved 0 ss hs are none))
  unserved_begins hs are (f ∷ faults) some =
      let so_far = unfinished layout (head_text report) (all_of hs) in
      let cut : document layout (head_text report) hs ≡ so_far = ap (λ (fs : List TableFault). so_far ++ tail_for layout fs) some ∙ append-nil so_far in
      subst (λ (t : List ℕ). IsPrefix t (answer_text layout report ss)) (sym cut)
      (text_first layout report ss (all_of hs) (unserved_first 0 ss hs (facts_before (all_of (histories_of ss))) are))

  document_begins : (hs : List (List Item)) → AreHistories ss hs → IsPrefix (document layout (head_text report) hs) (answer_text layout report ss)
  document_begins hs (inl decoded) = document_first layout report ss hs decoded
  document_begins hs (inr unserved) = unserved_begins hs unserved (refusals (all_of hs)) refl

  beginning_of : (a b c : List ℕ) → IsPrefix a b → IsPrefix b c → IsPrefix a c
  beginning_of a b c (t, is) (u, js) = (t ++ u, sym (append_assoc a t u) ∙ (ap (λ x. x ++ u) is ∙ js))

  written_begins : (old new : SinkView) (text : List ℕ) (faults : List TableFault) (e : MergeEnd) → IsPrefix text (answer_text layout report ss) → EndsWith old new text faults e
      → Begins layout report ss old new
  written_begins old new text faults end.Complete first ends = record { text = text; first = first; written = ends.1.1 }
  written_begins old new text faults end.Refused first ends = record { text = text; first = first; written = ends.1.1 }
  written_begins old new text faults (end.Write w) first ends =
      let some = ends.1 in
      record { text = some.0; first = beginning_of some.0 text (answer_text layout report ss) some.1 first; written = some.2 }

  pub begun : (old new : SinkView) (faults : List TableFault) (e : MergeEnd) → WritesHistories (AreHistories ss) layout report old new faults e → Begins layout report ss old new
  begun old new faults e w = written_begins old new (document layout (head_text report) w.histories) faults e (document_begins w.histories w.are) w.merged.1
