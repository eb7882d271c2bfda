-- The names of refused tables are their identifiers.
use Rattle.std.specs.Prelude.{⊤, ◌≡◌, ◌≢◌, ◌≤◌, ℕ, suc, ◌+◌, List, [], ◌∷◌, ◌++◌, Option, length, slice_set}
use Rattle.std.proofs.Common.{arith, refl, sym, ap, ◌∙◌, subst, inl, inr, get_or-set_other}
use Rattle.std.proofs.Math.ListN.{get_or-map}
use Rattle.std.proofs.lemmas.List.{length-append}
use Rattle.oim_convert.proofs.FaultTables.{given_table, one_at_most}
use Rattle.oim_convert.proofs.OwnFaults.{own_table}
use Rattle.oim_convert.proofs.StreamHistories.{refusals_with}
use Rattle.oim_convert.specs.Answer.{streams, streams_from}
use Rattle.oim_convert.specs.Histories.{AreDecoded, AreUnserved}
use Rattle.oim_convert.specs.Runs.{AreHistories}
use Rattle.oim_merge.proofs.Writing.{all_refusals, blocks_refusals}
use Rattle.oim_merge.specs.Histories.{all_of, refusals}
use Rattle.oim_merge.specs.Merging.{EndEach}
use Rattle.oim_report.specs.Readers.{no_table, table_of}
use Rattle.oim_report.specs.ReportValue.{ReportValue}
use Rattle.oim_report.specs.declared.data.Table.{Table}
use Rattle.oim_ring.specs.Items.{EndsOnce}
use Rattle.oim_ring.specs.declared.item.Ending as Endings
use Rattle.oim_ring.specs.declared.item.Ending.TheVariants.{Closed, Refused}
use Rattle.oim_ring.specs.declared.item.Item.{Item}
use Rattle.oim_ring.specs.declared.item.Item.TheVariants.{Ending}
use Rattle.oim_rows.specs.Streams.{Stream, table_stream}
use Rattle.oim_rows.specs.declared.fault.TableFault.{TableFault}
use Rattle.oim_run.specs.state.Naming.{with_names, name_in, table_ids}
use Rattle.oim_run.specs.Outcomes.{named_by, refused_tables}

-- One fault of a table, in table order.

-- The faults are in the order of their tables, at most one of each, from table i on.
abbrev pub Rises : ℕ → List TableFault → Type 0
Rises i [] = ⊤
Rises i (e ∷ faults) = (i ≤ e.table) × Rises (e.table + 1) faults

rises_before : (i : ℕ) (faults : List TableFault) → Rises (i + 1) faults → Rises i faults
rises_before i [] r = tt
rises_before i (e ∷ faults) (le, later) = (omega (arith, le), later)

ending_rises : (i : ℕ) (e : Endings.Ending) (faults : List TableFault) → ((x : TableFault) → e ≡ Refused x → x.table ≡ i) → Rises (i + 1) faults → Rises i (refusals (Ending e ∷ []) ++ faults)
ending_rises i Closed faults own later = rises_before i faults later
ending_rises i (Refused x) faults own later =
    let at = own x refl in
    (omega (arith, at), subst (λ (n : ℕ). Rises (n + 1) faults) (sym at) later)

decoded_rises : (report : ReportValue) (limit i : ℕ) (fs : List (Option (List ℕ))) (hs : List (List Item)) → AreDecoded i (streams_from report limit i fs) hs → Rises i (refusals (all_of hs))
decoded_rises report limit i [] [] all = tt
decoded_rises report limit i [] (h ∷ hs) all = absurd all
decoded_rises report limit i (f ∷ fs) [] all = absurd all
decoded_rises report limit i (f ∷ fs) (h ∷ hs) all =
    let d = all.0 in
    subst (λ faults. Rises i faults) (sym (refusals_with d.facts d.ending h (all_of hs) d.is))
    (ending_rises i d.ending (refusals (all_of hs))
    (λ x is. given_table i (table_stream report i limit f) d.facts d.ending x d.given (own_table report i limit f) is)
    (decoded_rises report limit (i + 1) fs hs all.1))

unserved_rises : (i : ℕ) (ss : List Stream) (hs : List (List Item)) → AreUnserved i ss hs → Rises i (refusals (all_of hs))
unserved_rises i [] [] all = tt
unserved_rises i [] (h ∷ hs) all = absurd all
unserved_rises i (s ∷ ss) [] all = absurd all
unserved_rises i (s ∷ ss) (h ∷ hs) all =
    let later : Rises (i + 1) (refusals (all_of hs)) = unserved_rises (i + 1) ss hs all.1 in
    subst (λ (l : List Item). Rises i (refusals (l ++ all_of hs))) (sym all.0) (omega arith, later)

histories_rise : (report : ReportValue) (limit : ℕ) (files : List (Option (List ℕ))) (hs : List (List Item)) → AreHistories (streams report limit files) hs → Rises 0 (refusals (all_of hs))
histories_rise report limit files hs (inl decoded) = decoded_rises report limit 0 files hs decoded
histories_rise report limit files hs (inr none) = unserved_rises 0 (streams report limit files) hs none

-- Their names.

rising_names : (name : ℕ → List ℕ) (names : List (List ℕ)) (i : ℕ) (faults : List TableFault) → ((p : ℕ) → i ≤ p → name_in names p ≡ name p)
    → Rises i faults → with_names names faults ≡ named_by name faults
rising_names name names i [] same rises = refl
rising_names name names i (e ∷ faults) same (le, later) =
    ap (λ (n : List ℕ). (n, e) ∷ with_names (slice_set names e.table []) faults) (same e.table le)
    ∙ ap (λ (l : List (List ℕ × TableFault)). (name e.table, e) ∷ l)
    (rising_names name (slice_set names e.table []) (e.table + 1) faults
    (λ p lt. let other : p ≢ e.table = omega (arith, lt) in get_or-set_other names e.table p [] [] other ∙ same p (omega (arith, lt, le))) later)

pub names_are : (report : ReportValue) (limit : ℕ) (files : List (Option (List ℕ))) (hs : List (List Item)) (names : List (List ℕ)) (faults : List TableFault)
    → names ≡ table_ids report → AreHistories (streams report limit files) hs → faults ≡ refusals (all_of hs) → with_names names faults ≡ refused_tables report faults
names_are report limit files hs names faults named are is =
    rising_names (λ i. (table_of report i).id) names 0 faults
    (λ p le. ap (λ ns. name_in ns p) named ∙ get_or-map (λ (t : Table). t.id) report.tables p no_table)
    (subst (λ (l : List TableFault). Rises 0 l) (sym is) (histories_rise report limit files hs are))

-- Their count.

ended_once : (h : List Item) → EndsOnce h → length (refusals h) ≤ 1
ended_once h once =
    let same = ap (λ (l : List Item). length (refusals l)) once.is ∙ ap length (blocks_refusals once.before (Ending once.ending ∷ []) once.only) in
    let few = one_at_most once.ending in
    omega (arith, same, few)

pub faults_few : (hs : List (List Item)) → EndEach hs → length (refusals (all_of hs)) ≤ length hs
faults_few [] ended = omega arith
faults_few (h ∷ hs) ended =
    let here = ended_once h (ended 0 h (omega arith)) in
    let later = faults_few hs (λ k d lt. ended (suc k) d (omega (arith, lt))) in
    let both = ap length (all_refusals h (all_of hs)) ∙ length-append (refusals h) (refusals (all_of hs)) in
    omega (arith, here, later, both)
