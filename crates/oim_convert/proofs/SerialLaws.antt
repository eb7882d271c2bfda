-- The answer of a conversion on one thread, by the histories of its tables.
use Rattle.std.specs.Prelude.{⊤, ◌≡◌, ◌≢◌, ◌↔◌, ℕ, ◌+◌, Bool, true, false, ◌==◌, if◌then◌else◌, ◌≤◌, List, [], ◌∷◌, ◌++◌, Option, Some, None, Result, Ok, Err, length}
use Rattle.std.specs.Global.{Vec}
use Rattle.std.proofs.Common.{refl, sym, ap, ◌∙◌, subst, append_assoc, append-nil, arith, inl, inr}
use Rattle.std.proofs.lemmas.Bool.{eq-eqb, eqb-true}
use Rattle.std.proofs.lemmas.List.{length-append}
use mathlib.Core.List.{IsPrefix}
use Rattle.oim_json.proofs.Members.{members_more}
use Rattle.oim_json.proofs.Writes.{broke_before}
use Rattle.oim_json.specs.Document.{members, more_members}
use Rattle.oim_json.specs.state.Writing.{has_any}
use Rattle.oim_json.specs.JsonText.{head_text}
use Rattle.oim_json.specs.Sinks.{SinkView, Broke, Unwritten}
use Rattle.oim_json.specs.declared.layout.Layout.{Layout}
use Rattle.oim_json.specs.declared.mark.WriteFault.{WriteFault}
use Rattle.oim_merge.specs.Histories.{all_of, document, facts_before, refusals, tail_for, unfinished}
use Rattle.oim_merge.specs.declared.progress.MergeEnd.{MergeEnd}
use Rattle.oim_merge.specs.declared.progress.MergeEnd.TheVariants as end
use Rattle.oim_report.specs.ReportValue.{ReportValue}
use Rattle.oim_resolve.specs.FactParts.{FactParts as Fact}
use Rattle.oim_ring.specs.declared.item.Ending as Endings
use Rattle.oim_ring.specs.declared.item.Ending.TheVariants.{Closed, Refused}
use Rattle.oim_ring.specs.declared.item.Item.{Item}
use Rattle.oim_ring.specs.declared.item.Item.TheVariants.{Ending}
use Rattle.oim_rows.specs.Streams.{Stream, facts_of}
use Rattle.oim_rows.specs.declared.fault.TableFault.{TableFault}
use Rattle.oim_convert.specs.Answer.{answer_text, ending_of, histories_of, streams, streams_from}
use Rattle.oim_convert.specs.Files.{AreFilesOf}
use Rattle.oim_convert.specs.Histories.{AreDecoded, IsEndingOf, IsGiven}
use Rattle.oim_convert.specs.ReadAlone.{AreRead}
use Rattle.oim_convert.specs.Runs.{AnswersFault, early_fault}
use Rattle.oim_convert.specs.Serial.{AnswersBy, AreBelow, AreFew, Converts, EndsAlone, IsOfTables, Leaves, LeavesAlone, WritesAlone, WritesHere}
use Rattle.oim_convert.specs.WrittenHistories.{WritesHistories, WritesUntil}
use Rattle.oim_convert.specs.state.Serial.{answer_at, answer_of}
use Rattle.oim_convert.specs.declared.fault.ConvertFault.{ConvertFault}
use Rattle.oim_convert.specs.declared.fault.ConvertFault.TheVariants as fault
use Rattle.oim_convert.specs.declared.run.Run.{Run}
use Rattle.oim_convert.proofs.FaultTables.{ending_below, one_at_most}
use Rattle.oim_convert.proofs.StreamHistories.{facts_with, open_streams, refusals_with, streams_answer, streams_text}
use Rattle.oim_convert.proofs.WrittenIds.{behind_table, first_rows, no_facts, refused_table}

-- The first facts of a report.

same_ending : (e : Endings.Ending) (xs ys : List Item) → IsPrefix (facts_before xs) (facts_before ys) → IsPrefix (facts_before (Ending e ∷ xs)) (facts_before (Ending e ∷ ys))
same_ending Closed xs ys first = first
same_ending (Refused f) xs ys first = no_facts []

given_first : (table : ℕ) (s : Stream) (facts : List Fact) (e : Endings.Ending) (xs ys : List Item) → IsGiven table s facts e → IsPrefix (facts_before xs) (facts_before ys)
    → IsPrefix (facts ++ facts_before (Ending e ∷ xs)) (facts_of s ++ facts_before (Ending (ending_of s.fault) ∷ ys))
given_first table s facts e xs ys (inl whole) first =
    subst (λ (fs : List Fact). IsPrefix (fs ++ facts_before (Ending e ∷ xs)) (facts_of s ++ facts_before (Ending (ending_of s.fault) ∷ ys))) (sym whole.0)
    (behind_table (facts_of s) (facts_before (Ending e ∷ xs)) (facts_before (Ending (ending_of s.fault) ∷ ys))
    (subst (λ (x : Endings.Ending). IsPrefix (facts_before (Ending e ∷ xs)) (facts_before (Ending x ∷ ys))) whole.1 (same_ending e xs ys first)))
given_first table s facts e xs ys (inr (inl unread)) first =
    refused_table e _ xs facts (facts_of s) (facts_before (Ending (ending_of s.fault) ∷ ys)) unread.refused
    (subst (λ (fs : List Fact). IsPrefix fs (facts_of s)) (sym unread.holds) (first_rows unread.rows s.rows unread.some))
given_first table s facts e xs ys (inr (inr short)) first =
    refused_table e _ xs facts (facts_of s) (facts_before (Ending (ending_of s.fault) ∷ ys)) short.refused short.some

pub decoded_first : (i : ℕ) (ss : List Stream) (hs : List (List Item)) → AreDecoded i ss hs → IsPrefix (facts_before (all_of hs)) (facts_before (all_of (histories_of ss)))
decoded_first i [] [] all = no_facts []
decoded_first i [] (h ∷ hs) all = absurd all
decoded_first i (s ∷ ss) [] all = absurd all
decoded_first i (s ∷ ss) (h ∷ hs) all =
    let d = all.0 in
    let later = all_of (histories_of ss) in
    subst (λ (fs : List Fact). IsPrefix fs (facts_of s ++ facts_before (Ending (ending_of s.fault) ∷ later))) (sym (facts_with d.facts d.ending h (all_of hs) d.is))
    (given_first i s d.facts d.ending (all_of hs) later d.given (decoded_first (i + 1) ss hs all.1))

-- The document.

module _ (l : Layout) (report : ReportValue) (ss : List Stream) where
  -- The text of a report's first facts is a prefix of its document.
  pub text_first : (items : List Item) → IsPrefix (facts_before items) (facts_before (all_of (histories_of ss))) → IsPrefix (unfinished l (head_text report) items) (answer_text l report ss)
  text_first items (more, is) =
      let facts = facts_before items in
      let head = head_text report in
      let tail = tail_for l (refusals (all_of (histories_of ss))) in
      let rest = more_members l (has_any false facts) more in
      let whole : answer_text l report ss ≡ unfinished l head items ++ (rest ++ tail) =
      ap (λ fs. (head ++ members l fs) ++ tail) (sym is)
      ∙ (ap (λ t. (head ++ t) ++ tail) (members_more l facts more)
      ∙ (ap (λ t. t ++ tail) (sym (append_assoc head (members l facts) rest)) ∙ append_assoc (head ++ members l facts) rest tail)) in
      (rest ++ tail, sym whole)

  -- The document of decoded tables is a prefix of the report's.
  pub document_first : (hs : List (List Item)) → AreDecoded 0 ss hs → IsPrefix (document l (head_text report) hs) (answer_text l report ss)
  document_first hs decoded = by (refusals (all_of hs)) refl
    where
      by : (faults : List TableFault) → refusals (all_of hs) ≡ faults → IsPrefix (document l (head_text report) hs) (answer_text l report ss)
      by [] none = ([], append-nil (document l (head_text report) hs) ∙ streams_text l report ss hs (open_streams 0 ss hs decoded none))
      by (f ∷ faults) some =
          let so_far = unfinished l (head_text report) (all_of hs) in
          let cut : document l (head_text report) hs ≡ so_far = ap (λ (fs : List TableFault). so_far ++ tail_for l fs) some ∙ append-nil so_far in
          subst (λ (t : List ℕ). IsPrefix t (answer_text l report ss)) (sym cut) (text_first (all_of hs) (decoded_first 0 ss hs decoded))

broke_first : (a b : SinkView) (text whole : List ℕ) (w : WriteFault) → IsPrefix text whole → Broke a b text w → Broke a b whole w
broke_first a b text whole w (rest, is) broke = subst (λ (t : List ℕ). Broke a b t w) is (broke_before a b text rest w broke)

-- The answer.

module _ {R : Type 0} (told : R → Option (List ℕ)) (report : ReportValue) (limit : ℕ) where
  pub read_decoded : (i : ℕ) (readers : List (Option R)) (files : List (Option (List ℕ))) (hs : List (List Item)) → AreFilesOf told readers files → AreRead told report limit i readers hs
      → AreDecoded i (streams_from report limit i files) hs
  read_decoded i [] [] [] are read = tt
  read_decoded i [] [] (h ∷ hs) are read = absurd read
  read_decoded i [] (f ∷ fs) hs are read = absurd are
  read_decoded i (r ∷ rs) [] hs are read = absurd are
  read_decoded i (r ∷ rs) (f ∷ fs) [] are read = absurd read
  read_decoded i (r ∷ rs) (f ∷ fs) (h ∷ hs) are read = (read.0.kept f are.0, read_decoded (i + 1) rs fs hs are.1 read.1)

  pub read_few : (i : ℕ) (readers : List (Option R)) (hs : List (List Item)) → AreRead told report limit i readers hs → length (refusals (all_of hs)) ≤ length readers
  read_few i [] [] read = omega arith
  read_few i [] (h ∷ hs) read = absurd read
  read_few i (r ∷ rs) [] read = absurd read
  read_few i (r ∷ rs) (h ∷ hs) read =
      let d = read.0 in
      let one = one_at_most d.ending in
      let later = read_few (i + 1) rs hs read.1 in
      let both = ap length (refusals_with d.facts d.ending h (all_of hs) d.is) ∙ length-append (refusals (Ending d.ending ∷ [])) (refusals (all_of hs)) in
      omega (arith, one, later, both)

  read_below : (i tables : ℕ) (readers : List (Option R)) (hs : List (List Item)) → i + length readers ≤ tables → AreRead told report limit i readers hs → AreBelow tables (refusals (all_of hs))
  read_below i tables [] [] at read = tt
  read_below i tables [] (h ∷ hs) at read = absurd read
  read_below i tables (r ∷ rs) [] at read = absurd read
  read_below i tables (r ∷ rs) (h ∷ hs) at read =
      let d = read.0 in
      subst (λ faults. AreBelow tables faults) (sym (refusals_with d.facts d.ending h (all_of hs) d.is))
      (ending_below tables d.ending (refusals (all_of hs))
      (λ x is. let own : x.table ≡ i = subst (λ (e : Endings.Ending). IsEndingOf i e) is d.own in omega (arith, own, at))
      (read_below (i + 1) tables rs hs (omega (arith, at)) read.1))

-- A fault of the conversion.

not_wrong : (faults : Vec TableFault) (e : MergeEnd) → answer_at faults e ≡ Err fault.WrongReaders → ⊥
not_wrong faults end.Complete is = cc
not_wrong faults end.Refused is = cc
not_wrong faults (end.Write x) is = cc

none_wrong : (run : Result Run ConvertFault) → AnswersFault None run → answer_of run ≡ Err fault.WrongReaders → ⊥
none_wrong (Ok run) found is = not_wrong run.faults run.end is
none_wrong (Err f) found is = let same : f ≡ fault.WrongReaders = cc in subst (λ (g : ConvertFault). AnswersFault None (Err g)) same found

wrong_by : (many tables : ℕ) (run : Result Run ConvertFault) (same : Bool) → (many == tables) ≡ same → AnswersFault (if same then None else Some fault.WrongReaders) run
    → (answer_of run ≡ Err fault.WrongReaders) ↔ (many ≢ tables)
wrong_by many tables run true is found = (λ wrong. absurd (none_wrong run found wrong), λ differ. absurd (differ (eqb-true many tables is)))
wrong_by many tables run false is found = (λ wrong same. let both : true ≡ false = sym (eq-eqb many tables same) ∙ is in cc, λ differ. ap answer_of found)

-- The answer, by the run.

module _ {R : Type 0} (told : R → Option (List ℕ)) (l : Layout) (report : ReportValue) (limit : ℕ) (readers : List (Option R)) (old new : SinkView) where
  abbrev Written : List TableFault → MergeEnd → Type 0
  Written faults e = WritesHistories (AreRead told report limit 0 readers) l report old new faults e

  module _ (Ends : List TableFault → MergeEnd → Type 0) (Early : Type 0) (run_ends : (faults : List TableFault) (e : MergeEnd) → length readers ≡ length report.tables → Written faults e → Ends faults e)
      (early : Unwritten old new → Early) where
    ended : length readers ≡ length report.tables → (faults : Vec TableFault) (e : MergeEnd) → WritesUntil (AreRead told report limit 0 readers) l report old new faults.items e
        → AnswersBy Ends Early (answer_at faults e)
    ended count faults end.Complete w = run_ends [] end.Complete count (subst (λ (fs : List TableFault). Written fs end.Complete) w.merged.1.0 w)
    ended count faults end.Refused w = run_ends faults.items end.Refused count w
    ended count faults (end.Write x) w = (w.0, run_ends w.0 (end.Write x) count w.2)

    answered : (same : Bool) → (length readers == length report.tables) ≡ same → (run : Result Run ConvertFault) → AnswersFault (if same then None else Some fault.WrongReaders) run
        → WritesHere told l report limit readers old new run → AnswersBy Ends Early (answer_of run)
    answered true is (Ok run) found w = ended (eqb-true (length readers) (length report.tables) is) run.faults run.end w.1
    answered false is (Ok run) found w = absurd (cc)
    answered same is (Err fault.WrongReaders) found w = early w
    answered same is (Err fault.Memory) found w = early w
    answered true is (Err fault.BadWorkers) found w = found
    answered false is (Err fault.BadWorkers) found w = absurd (cc)
    answered true is (Err fault.BadSize) found w = found
    answered false is (Err fault.BadSize) found w = absurd (cc)
    answered same is (Err fault.Lost) found w = w
    answered same is (Err (fault.Tables faults)) found w = absurd w
    answered same is (Err (fault.Write x)) found w = absurd w

  converts_at : (files : List (Option (List ℕ))) → AreFilesOf told readers files → (faults : List TableFault) (e : MergeEnd) → Written faults e
      → EndsAlone l report (streams report limit files) old new faults e
  converts_at files are faults end.Complete w =
      let ss = streams report limit files in
      let decoded = read_decoded told report limit 0 readers files w.histories are w.are in
      streams_answer l report ss w.histories old new faults end.Complete (open_streams 0 ss w.histories decoded (sym w.merged.0 ∙ w.merged.1.0)) w.merged
  converts_at files are faults end.Refused w = record { histories = w.histories; are = read_decoded told report limit 0 readers files w.histories are w.are; merged = w.merged }
  converts_at files are faults (end.Write x) w =
      let ss = streams report limit files in let hs = w.histories in
      broke_first old new (document l (head_text report) hs) (answer_text l report ss) x (document_first l report ss hs (read_decoded told report limit 0 readers files hs are w.are)) w.merged.1

  leaves_at : (faults : List TableFault) (e : MergeEnd) → Written faults e → LeavesAlone old new faults e
  leaves_at faults end.Complete w = w.merged.1.1.0
  leaves_at faults end.Refused w = (w.merged.1.1.0, w.merged.1.0)
  leaves_at faults (end.Write x) w = w.merged.1.0

  module _ (run : Result Run ConvertFault) (answer : Result (Unit {0}) ConvertFault) (is : answer ≡ answer_of run)
      (found : AnswersFault (early_fault 1 1 (length readers) (length report.tables)) run) (writes : WritesHere told l report limit readers old new run) where
    answers : (Ends : List TableFault → MergeEnd → Type 0) (Early : Type 0) → ((faults : List TableFault) (e : MergeEnd) → length readers ≡ length report.tables → Written faults e → Ends faults e)
        → (Unwritten old new → Early) → AnswersBy Ends Early answer
    answers Ends Early ends early = subst (AnswersBy Ends Early) (sym is) (answered Ends Early ends early (length readers == length report.tables) refl run found writes)

    pub alone_writes : WritesAlone told l report limit readers old new answer
    alone_writes = answers Written (Unwritten old new) (λ faults e count w. w) (λ none. none)

    pub alone_converts : (files : List (Option (List ℕ))) → AreFilesOf told readers files → Converts l report (streams report limit files) old new answer
    alone_converts files are = answers (EndsAlone l report (streams report limit files) old new) (Unwritten old new) (λ faults e count w. converts_at files are faults e w) (λ none. none)

    pub alone_leaves : Leaves old new answer
    alone_leaves = answers (LeavesAlone old new) (Unwritten old new) (λ faults e count w. leaves_at faults e w) (λ none. none)

    pub alone_few : AreFew (length report.tables) answer
    alone_few = answers (λ faults e. length faults ≤ length report.tables) ⊤
        (λ faults e count w. let few = read_few told report limit 0 readers w.histories w.are in let all = ap length w.merged.0 in omega (arith, few, all, count)) (λ none. tt)

    pub alone_of_tables : IsOfTables (length report.tables) answer
    alone_of_tables = answers (λ faults e. AreBelow (length report.tables) faults) ⊤
        (λ faults e count w. subst (λ (fs : List TableFault). AreBelow (length report.tables) fs) (sym w.merged.0)
        (read_below told report limit 0 (length report.tables) readers w.histories (omega (arith, count)) w.are)) (λ none. tt)

    pub alone_wrong : (answer ≡ Err fault.WrongReaders) ↔ (length readers ≢ length report.tables)
    alone_wrong =
        subst (λ (a : Result (Unit {0}) ConvertFault). (a ≡ Err fault.WrongReaders) ↔ (length readers ≢ length report.tables)) (sym is)
        (wrong_by (length readers) (length report.tables) run (length readers == length report.tables) refl found)
