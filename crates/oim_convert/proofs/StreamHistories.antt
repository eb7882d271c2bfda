-- Histories that were not cut short, and the document of streams.
use Rattle.std.specs.Prelude.{◌≡◌, ℕ, ◌+◌, true, List, [], ◌∷◌, ◌++◌}
use Rattle.std.proofs.Common.{refl, sym, ap, ◌∙◌, subst, append_assoc, append-nil, inl, inr}
use Rattle.oim_json.specs.Document.{text_after}
use Rattle.oim_json.specs.JsonText.{head_text}
use Rattle.oim_json.specs.Sinks.{SinkView}
use Rattle.oim_json.specs.declared.layout.Layout.{Layout}
use Rattle.oim_merge.proofs.Writing.{all_refusals, blocks_refusals}
use Rattle.oim_merge.specs.Histories.{all_of, document, facts_before, refusals, tail_for}
use Rattle.oim_merge.specs.Merging.{EndsWith, Merges}
use Rattle.oim_merge.specs.declared.progress.MergeEnd.{MergeEnd}
use Rattle.oim_report.specs.ReportValue.{ReportValue}
use Rattle.oim_resolve.specs.FactParts.{FactParts as Fact}
use Rattle.oim_ring.specs.Items.{blocks_only}
use Rattle.oim_ring.specs.declared.item.Ending as Endings
use Rattle.oim_ring.specs.declared.item.Ending.TheVariants.{Closed, Refused}
use Rattle.oim_ring.specs.declared.item.Item.{Item}
use Rattle.oim_ring.specs.declared.item.Item.TheVariants.{Block, Ending}
use Rattle.oim_rows.specs.Streams.{Stream, facts_of}
use Rattle.oim_rows.specs.declared.fault.TableFault.{TableFault}
use Rattle.oim_convert.specs.Answer.{IsAnswer, answer_text, ending_of, histories_of, history_of}
use Rattle.oim_convert.specs.Histories.{AreDecoded, IsDecoded, IsGiven, IsHistory, IsStream, facts_in}
use Rattle.oim_convert.specs.Runs.{AreStreams}

-- One history.

pub blocks_facts : (before more : List Item) → blocks_only before ≡ true → facts_before (before ++ more) ≡ facts_in before ++ facts_before more
blocks_facts [] more only = refl
blocks_facts (Block fs ∷ rest) more only = ap (λ l. fs ++ l) (blocks_facts rest more only) ∙ sym (append_assoc fs (facts_in rest) (facts_before more))
blocks_facts (Ending e ∷ rest) more only = absurd (cc)

module _ (facts : List Fact) (e : Endings.Ending) (h rest : List Item) (is : IsHistory facts e h) where
  split : h ++ rest ≡ is.before ++ (Ending e ∷ rest)
  split = ap (λ l. l ++ rest) is.is ∙ append_assoc is.before (Ending e ∷ []) rest

  pub refusals_with : refusals (h ++ rest) ≡ refusals (Ending e ∷ []) ++ refusals rest
  refusals_with = ap refusals split ∙ (blocks_refusals is.before (Ending e ∷ rest) is.blocks ∙ all_refusals (Ending e ∷ []) rest)

  pub facts_with : facts_before (h ++ rest) ≡ facts ++ facts_before (Ending e ∷ rest)
  facts_with = ap facts_before split ∙ (blocks_facts is.before (Ending e ∷ rest) is.blocks ∙ ap (λ l. l ++ facts_before (Ending e ∷ rest)) is.holds)

behind : (e : Endings.Ending) (xs ys : List Item) → facts_before xs ≡ facts_before ys → facts_before (Ending e ∷ xs) ≡ facts_before (Ending e ∷ ys)
behind Closed xs ys same = same
behind (Refused f) xs ys same = refl

-- All histories.

pub streams_refusals : (ss : List Stream) (hs : List (List Item)) → AreStreams ss hs → refusals (all_of hs) ≡ refusals (all_of (histories_of ss))
streams_refusals [] [] all = refl
streams_refusals [] (h ∷ hs) all = absurd all
streams_refusals (s ∷ ss) [] all = absurd all
streams_refusals (s ∷ ss) (h ∷ hs) all =
    let last = Ending (ending_of s.fault) ∷ [] in
    refusals_with (facts_of s) (ending_of s.fault) h (all_of hs) all.0
    ∙ (ap (λ l. refusals last ++ l) (streams_refusals ss hs all.1) ∙ sym (all_refusals last (all_of (histories_of ss))))

pub streams_facts : (ss : List Stream) (hs : List (List Item)) → AreStreams ss hs → facts_before (all_of hs) ≡ facts_before (all_of (histories_of ss))
streams_facts [] [] all = refl
streams_facts [] (h ∷ hs) all = absurd all
streams_facts (s ∷ ss) [] all = absurd all
streams_facts (s ∷ ss) (h ∷ hs) all =
    facts_with (facts_of s) (ending_of s.fault) h (all_of hs) all.0
    ∙ ap (λ l. facts_of s ++ l) (behind (ending_of s.fault) (all_of hs) (all_of (histories_of ss)) (streams_facts ss hs all.1))

pub streams_text : (l : Layout) (report : ReportValue) (ss : List Stream) (hs : List (List Item)) → AreStreams ss hs → document l (head_text report) hs ≡ answer_text l report ss
streams_text l report ss hs all =
    ap (λ fs. text_after l (head_text report) fs ++ tail_for l (refusals (all_of hs))) (streams_facts ss hs all)
    ∙ ap (λ fs. text_after l (head_text report) (facts_before (all_of (histories_of ss))) ++ tail_for l fs) (streams_refusals ss hs all)

-- Merging the streams gives the answer.
pub streams_answer : (l : Layout) (report : ReportValue) (ss : List Stream) (hs : List (List Item)) (old new : SinkView) (faults : List TableFault) (e : MergeEnd) → AreStreams ss hs
    → Merges l old new (head_text report) hs faults e → IsAnswer l report ss old new faults e
streams_answer l report ss hs old new faults e all m =
    (m.0 ∙ streams_refusals ss hs all, subst (λ (t : List ℕ). EndsWith old new t faults e) (streams_text l report ss hs all) m.1)

-- Histories without a fault.

pub none_of_first : (xs ys : List TableFault) → xs ++ ys ≡ [] → xs ≡ []
none_of_first [] ys e = refl
none_of_first (x ∷ xs) ys e = absurd (cc)

none_of_second : (xs ys : List TableFault) → xs ++ ys ≡ [] → ys ≡ []
none_of_second [] ys e = e
none_of_second (x ∷ xs) ys e = absurd (cc)

not_refused : (e : Endings.Ending) (f : TableFault) → e ≡ Refused f → refusals (Ending e ∷ []) ≡ [] → ⊥
not_refused e f is none = let some : refusals (Ending (Refused f) ∷ []) ≡ [] = subst (λ (x : Endings.Ending). refusals (Ending x ∷ []) ≡ []) is none in cc

pub stream_of_whole : (s : Stream) (facts : List Fact) (ending : Endings.Ending) (h : List Item) → (facts ≡ facts_of s) × (ending ≡ ending_of s.fault) → IsHistory facts ending h → IsStream s h
stream_of_whole s facts ending h (e, f) is = subst (λ (x : Endings.Ending). IsHistory (facts_of s) x h) f (subst (λ (fs : List Fact). IsHistory fs ending h) e is)

open_given : (table : ℕ) (s : Stream) (facts : List Fact) (ending : Endings.Ending) (h : List Item) → IsGiven table s facts ending
    → IsHistory facts ending h → refusals (Ending ending ∷ []) ≡ [] → IsStream s h
open_given table s facts ending h (inl whole) is none = stream_of_whole s facts ending h whole is
open_given table s facts ending h (inr (inl unread)) is none = absurd (not_refused ending _ unread.refused none)
open_given table s facts ending h (inr (inr short)) is none = absurd (not_refused ending _ short.refused none)

-- Decoded tables without a refusal have their streams as histories.
pub open_streams : (i : ℕ) (ss : List Stream) (hs : List (List Item)) → AreDecoded i ss hs → refusals (all_of hs) ≡ [] → AreStreams ss hs
open_streams i [] [] all none = tt
open_streams i [] (h ∷ hs) all none = absurd all
open_streams i (s ∷ ss) [] all none = absurd all
open_streams i (s ∷ ss) (h ∷ hs) all none =
    let d = all.0 in
    let both = sym (refusals_with d.facts d.ending h (all_of hs) d.is) ∙ none in (
      open_given i s d.facts d.ending h d.given d.is (none_of_first (refusals (Ending d.ending ∷ [])) (refusals (all_of hs)) both),
      open_streams (i + 1) ss hs all.1 (none_of_second (refusals (Ending d.ending ∷ [])) (refusals (all_of hs)) both),
    )

-- Streams as histories.

-- A stream, read as a history, is that of a table that was decoded whole.
stream_decoded : (i : ℕ) (s : Stream) → IsDecoded i s (history_of s)
stream_decoded i s = record {
  facts = facts_of s;
  ending = ending_of s.fault;
  given = inl (refl, refl);
  is = record { before = Block (facts_of s) ∷ []; blocks = refl; holds = append-nil (facts_of s); is = refl };
}

pub streams_decoded : (i : ℕ) (ss : List Stream) → AreDecoded i ss (histories_of ss)
streams_decoded i [] = tt
streams_decoded i (s ∷ ss) = (stream_decoded i s, streams_decoded (i + 1) ss)
