-- The outcome of a conversion, from its answer.
use Rattle.std.specs.Prelude.{◌≡◌, ℕ, ◌<◌, ◌≤◌, Bool, true, false, ◌||◌, nat_lt, ◌==◌, if◌then◌else◌, List, [], ◌∷◌, ◌++◌, Option, Some, None, Result, Ok, Err, IfOk, MatchResult, length}
use Rattle.std.proofs.Common.{arith, refl, sym, ap, subst, ◌∙◌, inl, inr}
use Rattle.std.proofs.lemmas.Bool.{eq-eqb}
use Rattle.std.proofs.lemmas.List.{length-append}
use Rattle.std.proofs.lemmas.Result.{MatchResult-weaker}
use Rattle.oim_convert.proofs.RunHistories.{uncut_streams}
use Rattle.oim_convert.proofs.SerialTables.{until_of}
use Rattle.oim_convert.proofs.StreamHistories.{streams_answer}
use Rattle.oim_convert.specs.Answer.{streams}
use Rattle.oim_convert.specs.Limits.{most_workers}
use Rattle.oim_ring.specs.Limits.{largest_ring}
use Rattle.oim_convert.specs.Runs.{AnswersFault, AreEnded, AreHistories, AreUncut, BreaksOff, IsCut, IsLost, IsRun, early_fault}
use Rattle.oim_convert.specs.WrittenHistories.{WritesHistories, WritesUntil}
use Rattle.oim_convert.specs.declared.fault.ConvertFault.{ConvertFault}
use Rattle.oim_convert.specs.declared.fault.ConvertFault.TheVariants as fault
use Rattle.oim_convert.specs.declared.run.Run.{Run}
use Rattle.oim_json.specs.Sinks.{SinkView, Unwritten}
use Rattle.oim_json.specs.declared.layout.Layout.{Layout}
use Rattle.oim_merge.proofs.Writing.{all_refusals}
use Rattle.oim_merge.specs.Histories.{all_of, refusals}
use Rattle.oim_merge.specs.declared.progress.MergeEnd.{MergeEnd}
use Rattle.oim_merge.specs.declared.progress.MergeEnd.TheVariants as end
use Rattle.oim_report.specs.ReportValue.{ReportValue}
use Rattle.oim_ring.specs.declared.item.Ending.TheVariants.{Refused}
use Rattle.oim_ring.specs.declared.item.Item.{Item}
use Rattle.oim_ring.specs.declared.item.Item.TheVariants.{Ending}
use Rattle.oim_rows.specs.Streams.{Stream}
use Rattle.oim_rows.specs.declared.fault.TableFault.{TableFault}
use Rattle.oim_run.proofs.Beginnings.{begun}
use Rattle.oim_run.proofs.Names.{faults_few, names_are}
use Rattle.oim_run.proofs.Stopped.{stops}
use Rattle.oim_run.specs.state.Naming.{outcome_at, outcome_by, with_names, table_ids}
use Rattle.oim_run.specs.Outcomes.{AreDefined, AreHistoriesWith, EndsAs, Leaves, WritesStreams}
use Rattle.oim_run.specs.Runs.{range_fault}
use Rattle.oim_run.specs.declared.outcome.Outcome.{Outcome}
use Rattle.oim_run.specs.declared.outcome.Outcome.TheVariants as outcome

-- The fault that is found first.

chosen : (a b c : Bool) → (if a then Some fault.BadWorkers else if b then Some fault.BadSize else if c then None else Some fault.WrongReaders) ≡ Some fault.Lost → ⊥
chosen true b c e = cc
chosen false true c e = cc
chosen false false true e = cc
chosen false false false e = cc

pub never_lost : (workers ring readers tables : ℕ) → early_fault workers ring readers tables ≡ Some fault.Lost → ⊥
never_lost workers ring readers tables = chosen (nat_lt workers 1 || nat_lt most_workers workers) (nat_lt ring 1 || nat_lt largest_ring ring) (readers == tables)

pub in_range : (workers ring readers tables : ℕ) → readers ≡ tables → early_fault workers ring readers tables ≡ range_fault workers ring
in_range workers ring readers tables same =
    ap (λ b. if nat_lt workers 1 || nat_lt most_workers workers then Some fault.BadWorkers
    else if nat_lt ring 1 || nat_lt largest_ring ring then Some fault.BadSize
    else if b then None else Some fault.WrongReaders) (eq-eqb readers tables same)

-- The answer that is defined.

defined_both : (xs ys : List TableFault) → AreDefined (xs ++ ys) → AreDefined xs × AreDefined ys
defined_both [] ys all = (tt, all)
defined_both (x ∷ xs) ys all = let later = defined_both xs ys all.1 in ((all.0, later.0), later.1)

not_cut : (h : List Item) → AreDefined (refusals h) → IsCut h → ⊥
not_cut h all cut =
    let last = Ending (Refused cut.fault) ∷ [] in
    let ends : AreDefined (refusals (cut.before ++ last)) = subst (λ (l : List Item). AreDefined (refusals l)) cut.is all in
    let parts : AreDefined (refusals cut.before ++ refusals last) = subst (λ (l : List TableFault). AreDefined l) (all_refusals cut.before last) ends in
    (defined_both (refusals cut.before) (refusals last) parts).1.0 cut.outside

pub uncut : (hs : List (List Item)) → AreDefined (refusals (all_of hs)) → AreUncut hs
uncut [] all = tt
uncut (h ∷ hs) all =
    let both = defined_both (refusals h) (refusals (all_of hs)) (subst (λ (l : List TableFault). AreDefined l) (all_refusals h (all_of hs)) all) in
    (not_cut h both.0, uncut hs both.1)

-- The end.

module _ (workers : ℕ) (layout : Layout) (report : ReportValue) (limit : ℕ) (files : List (Option (List ℕ))) (old new : SinkView) where
  abbrev said : List Stream
  said = streams report limit files

  any_workers : (hs : List (List Item)) → AreHistoriesWith workers said hs → AreHistories said hs
  any_workers hs (inl decoded) = inl decoded
  any_workers hs (inr unserved) = inr unserved.1

  module _ (faults : List TableFault) (e : MergeEnd) (w : WritesHistories (AreHistoriesWith workers said) layout report old new faults e) where
    written : WritesHistories (AreHistories said) layout report old new faults e
    written = record { histories = w.histories; are = any_workers w.histories w.are; merged = w.merged }

    gives : WritesStreams workers layout report said old new faults e
    gives = record {
      written = w;
      begun = begun layout report said old new faults e written;
      answer = λ all.
          let defined = subst (λ (l : List TableFault). AreDefined l) w.merged.0 all in
          streams_answer layout report said w.histories old new faults e (uncut_streams said w.histories (any_workers w.histories w.are) (uncut w.histories defined)) w.merged;
    }

  ended : (names : List (List ℕ)) → names ≡ table_ids report → (faults : List TableFault) (e : MergeEnd) → WritesUntil (AreHistoriesWith workers said) layout report old new faults e
      → EndsAs workers layout None report said old new (outcome_at names faults e)
  ended names named faults end.Complete w = subst (λ (l : List TableFault). WritesStreams workers layout report said old new l end.Complete) w.merged.1.0 (gives faults end.Complete w)
  ended names named faults end.Refused w = record {
    faults = faults;
    names = names_are report limit files w.histories names faults named (any_workers w.histories w.are) w.merged.0;
    given = gives faults end.Refused w;
    stops = stops layout report limit files old new faults (written faults end.Refused w);
  }
  ended names named faults (end.Write x) w = (w.0, gives w.0 (end.Write x) w.2)

-- What it leaves in the sink.

no_names : (names : List (List ℕ)) (faults : List TableFault) → with_names names faults ≡ [] → faults ≡ []
no_names names [] none = refl
no_names names (e ∷ faults) none = absurd (cc)

module _ (Are : List (List Item) → Type 0) (layout : Layout) (report : ReportValue) (old new : SinkView) where
  ended_leaves : (workers : ℕ) (names : List (List ℕ)) (faults : List TableFault) (e : MergeEnd) → WritesUntil Are layout report old new faults e
      → Leaves workers None old new (outcome_at names faults e)
  ended_leaves workers names faults end.Complete w = (refl, w.merged.1.1.0)
  ended_leaves workers names faults end.Refused w = (refl, w.merged.1.1.0, λ none. w.merged.1.0 (no_names names faults none))
  ended_leaves workers names faults (end.Write x) w = (refl, w.2.merged.1.0)

-- The answer.

module _ (Ends : Option ConvertFault → Outcome → Type 0) (names : List (List ℕ)) (old new : SinkView) (IsSo : Run → Type 0) (Loss : Type 0)
    (short : Unwritten old new → Ends None (outcome.Run fault.Memory)) (early_ends : (f : ConvertFault) → Unwritten old new → Ends (Some f) (outcome.Run f)) where
  breaks_off : (f : ConvertFault) → (Some f ≡ Some fault.Lost → ⊥) → BreaksOff Loss old new f → Ends (Some f) (outcome.Run f)
  breaks_off fault.BadWorkers never none = early_ends fault.BadWorkers none
  breaks_off fault.BadSize never none = early_ends fault.BadSize none
  breaks_off fault.WrongReaders never none = early_ends fault.WrongReaders none
  breaks_off fault.Memory never none = early_ends fault.Memory none
  breaks_off fault.Lost never loss = absurd (never refl)
  breaks_off (fault.Tables faults) never none = absurd none
  breaks_off (fault.Write w) never none = absurd none

  answered : (early : Option ConvertFault) (r : Result Run ConvertFault) → (early ≡ Some fault.Lost → ⊥) → (early ≡ None → Loss → Ends None (outcome.Run fault.Lost))
      → (early ≡ None → (run : Run) → IsSo run → Ends None (outcome_at names run.faults.items run.end))
      → AnswersFault early r → MatchResult r IsSo (BreaksOff Loss old new) → Ends early (outcome_by names r)
  answered None (Ok run) never lost ran found is = ran refl run is
  answered None (Err fault.Memory) never lost ran found is = short is
  answered None (Err fault.Lost) never lost ran found is = lost refl is
  answered None (Err fault.BadWorkers) never lost ran found is = absurd found
  answered None (Err fault.BadSize) never lost ran found is = absurd found
  answered None (Err fault.WrongReaders) never lost ran found is = absurd found
  answered None (Err (fault.Tables faults)) never lost ran found is = absurd found
  answered None (Err (fault.Write w)) never lost ran found is = absurd found
  answered (Some f) r never lost ran found is =
      subst (λ (q : Result Run ConvertFault). Ends (Some f) (outcome_by names q)) (sym found)
      (breaks_off f never (subst (λ (q : Result Run ConvertFault). MatchResult q IsSo (BreaksOff Loss old new)) found is))

-- A conversion by a course: its runs are so, and with Lost there is a loss.
module _ (layout : Layout) (workers ring readers : ℕ) (report : ReportValue) (old new : SinkView) (r : Result Run ConvertFault) (names : List (List ℕ)) (o : Outcome) (is : o ≡ outcome_by names r)
    (found : AnswersFault (early_fault workers ring readers (length report.tables)) r) (IsSo : Run → Type 0) (Loss : Type 0) (writes : MatchResult r IsSo (BreaksOff Loss old new)) where
  abbrev first : Option ConvertFault
  first = early_fault workers ring readers (length report.tables)

  never : first ≡ Some fault.Lost → ⊥
  never = never_lost workers ring readers (length report.tables)

  pub converted : (limit : ℕ) (files : List (Option (List ℕ))) → names ≡ table_ids report → readers ≡ length files
      → (first ≡ None → Loss → (1 < workers) × IsLost layout report (length report.tables) old new)
      → (first ≡ None → (run : Run) → IsSo run → WritesUntil (AreHistoriesWith workers (streams report limit files)) layout report old new run.faults.items run.end)
      → EndsAs workers layout (early_fault workers ring (length files) (length report.tables)) report (streams report limit files) old new o
  converted limit files named many lost ran =
      let Ends : Option ConvertFault → Outcome → Type 0 = λ early out. EndsAs workers layout early report (streams report limit files) old new out in
      subst (λ n. Ends (early_fault workers ring n (length report.tables)) o) many
      (subst (Ends first) (sym is)
      (answered Ends names old new IsSo Loss (λ none. none) (λ f none. (inl refl, none)) first r never lost
      (λ fine run so. ended workers layout report limit files old new names named run.faults.items run.end (ran fine run so)) found writes))

  pub converted_leaves : (Are : List (List Item) → Type 0) → (first ≡ None → Loss → 1 < workers) → ((run : Run) → IsSo run → WritesUntil Are layout report old new run.faults.items run.end)
      → Leaves workers first old new o
  converted_leaves Are lost ran =
      let Ends : Option ConvertFault → Outcome → Type 0 = λ early out. Leaves workers early old new out in
      subst (Ends first) (sym is)
      (answered Ends names old new IsSo Loss (λ none. inl (refl, none)) (λ f none. inr (inl (refl, none))) first r never (λ fine loss. inr (inr (refl, refl, lost fine loss)))
      (λ fine run so. ended_leaves Are layout report old new workers names run.faults.items run.end (ran run so)) found writes)

-- A run on threads.

pub with_histories : (P Q : Run → Type 0) (Breaks : ConvertFault → Type 0) (r : Result Run ConvertFault) → IfOk r P → MatchResult r Q Breaks → MatchResult r (λ run. P run × Q run) Breaks
with_histories P Q Breaks (Ok run) is also = (is, also)
with_histories P Q Breaks (Err f) is also = also

with_workers : (workers : ℕ) → 1 < workers → (ss : List Stream) (hs : List (List Item)) → AreHistories ss hs → AreHistoriesWith workers ss hs
with_workers workers several ss hs (inl decoded) = inl decoded
with_workers workers several ss hs (inr unserved) = inr (several, unserved)

module _ (layout : Layout) (report : ReportValue) (old new : SinkView) (tables : ℕ) (run : Run) (is : IsRun layout report tables old new run) where
  pub run_until : WritesUntil (AreEnded tables) layout report old new run.faults.items run.end
  run_until = until_of layout report old new run.faults.items run.end (record { histories = run.drains.items; are = (is.count, is.ended); merged = is.merged })

  pub run_streams : (workers : ℕ) (ss : List Stream) → 1 < workers → AreHistories ss run.drains.items → WritesUntil (AreHistoriesWith workers ss) layout report old new run.faults.items run.end
  run_streams workers ss several are =
      until_of layout report old new run.faults.items run.end (record { histories = run.drains.items; are = with_workers workers several ss run.drains.items are; merged = is.merged })

pub ended_few : (tables : ℕ) (hs : List (List Item)) → AreEnded tables hs → length (refusals (all_of hs)) ≤ tables
ended_few tables hs are = let few = faults_few hs are.1 in omega (arith, few, are.0)

-- A list with room for one fault of each table.

module _ (Are : List (List Item) → Type 0) (layout : Layout) (report : ReportValue) (old new : SinkView) (tables : ℕ) (few : (hs : List (List Item)) → Are hs → length (refusals (all_of hs)) ≤ tables) where
  few_until : (faults : List TableFault) (e : MergeEnd) → WritesUntil Are layout report old new faults e → length faults ≤ tables
  few_until faults end.Complete w = let all = ap length w.merged.0 in let most = few w.histories w.are in omega (arith, all, most)
  few_until faults end.Refused w = let all = ap length w.merged.0 in let most = few w.histories w.are in omega (arith, all, most)
  few_until faults (end.Write x) w =
      let all = ap length w.2.merged.0 in let most = few w.2.histories w.2.are in
      let some = sym (length-append faults w.1.0) ∙ ap length w.1.1 in omega (arith, all, most, some)

  pub roomy : (room : ℕ) (r : Result Run ConvertFault) (IsSo : Run → Type 0) (Loss : Type 0) → room ≡ tables → MatchResult r IsSo (BreaksOff Loss old new)
      → ((run : Run) → IsSo run → WritesUntil Are layout report old new run.faults.items run.end) → IfOk r (λ run. length run.faults.items ≤ room)
  roomy room r IsSo Loss same writes ran =
      MatchResult-weaker r writes (λ run so. let most = few_until run.faults.items run.end (ran run so) in omega (arith, most, same)) (λ f none. tt)

-- A course of one worker whose settings are in range, as one with rings of one block.
pub as_one : (P : ℕ → Option ConvertFault → Type 0) (workers : ℕ) (early same : Option ConvertFault) → workers ≡ 1 → early ≡ same → P 1 same → P workers early
as_one P workers early same one is p = subst (λ w. P w early) (sym one) (subst (P 1) (sym is) p)
