-- What is kept for a reference when an answer is read, found or added.
use Rattle.std.proofs.Common.{◌≡◌, ◌<◌, ℕ, zero, suc, List, [], ◌∷◌, ◌++◌, length, get_or, set, Some, IfSome, false, true, sym, ap, ◌∙◌, subst, arith}
use Rattle.std.specs.List.{All, slice_get}
use Rattle.std.specs.String.{string_bytes}
use Rattle.std.proofs.Math.ListN.{length-set}
use Rattle.std.proofs.lemmas.List.{get_or-set_same, length-append}
use Rattle.std.proofs.lemmas.Option.{slice_get-get_or}
use Rattle.oim_cells.specs.Cells.{meaning_of}
use Rattle.oim_report.specs.ReportValue.{ReportValue}
use Rattle.oim_row.specs.Answers.{IsAnswer}
use Rattle.oim_row.specs.state.Kept.{AddsPlaces, IsCached, IsEmptyPlace, IsKept}
use Rattle.oim_row.specs.declared.cached_answer.CachedAnswer.{CachedAnswer}
use Rattle.oim_row.specs.declared.purpose.Purpose.{Purpose}
use Rattle.oim_row.proofs.AnswerLaws.{silent}
use Rattle.oim_row.proofs.Growth.{all_append}
use Rattle.oim_row.proofs.Refreshed.{set_all}

-- What holds for an item holds at its index.
pub at_place : {A : Type 0} (P : A → Type 0) (xs : List A) (i : ℕ) (x : A) → slice_get xs i ≡ Some x → P x → IfSome (slice_get xs i) P
at_place P xs i x e h = subst (λ o. IfSome o P) (sym e) h

there : {A : Type 0} (xs : List A) (i : ℕ) (x : A) → i < length xs → x ≡ get_or xs i x → slice_get xs i ≡ Some x
there xs i x lt is = slice_get-get_or xs i x lt ∙ sym (ap Some is)

pub set_there : {A : Type 0} (xs : List A) (i : ℕ) (x : A) → i < length xs → slice_get (set xs i x) i ≡ Some x
set_there xs i x lt = slice_get-get_or (set xs i x) i x (omega (arith, length-set xs i x)) ∙ ap Some (get_or-set_same xs i x x lt)

module _ (r : ReportValue) (p : Purpose) where
  abbrev answers : List ℕ → CachedAnswer → Type 0
  answers text k = IsAnswer r p (meaning_of text) k.answer

  -- An answer that was read.
  pub kept_set : (text : List ℕ) (i : ℕ) (xs : List CachedAnswer) (k : CachedAnswer) → i < length xs → All (IsCached r p) xs → IsCached r p k → answers text k → IsKept r p text i (set xs i k)
  kept_set text i xs k lt all cached answer = record {
    within = omega (arith, length-set xs i k);
    cached = set_all (IsCached r p) xs i k all cached;
    at_hand = at_place (answers text) (set xs i k) i k (set_there xs i k lt) answer;
  }

  -- An answer that was found.
  pub kept_there : (text : List ℕ) (i : ℕ) (xs : List CachedAnswer) (k : CachedAnswer) → i < length xs → All (IsCached r p) xs → k ≡ get_or xs i k
      → string_bytes k.text ≡ text → k.is_kept ≡ true → IsKept r p text i xs
  kept_there text i xs k lt all is same kept =
      let cached : IsCached r p k = subst (IsCached r p) (sym is) (all i k lt) in
      record {
        within = lt;
        cached = all;
        at_hand = at_place (answers text) xs i k (there xs i k lt is) (subst (λ (t : List ℕ). answers t k) same (cached kept));
      }

  -- Nothing is cached in an empty place.
  nothing_cached : (k : CachedAnswer) → IsEmptyPlace k → IsCached r p k
  nothing_cached k empty kept = absurd (cc (empty.kept, kept))

  -- Places were added.
  grown : (text : List ℕ) (i : ℕ) (xs more : List CachedAnswer) → i < length xs → IfSome (slice_get xs i) (answers text) → IfSome (slice_get (xs ++ more) i) (answers text)
  grown text i [] more lt h = absurd (omega arith)
  grown text zero (x ∷ xs) more lt h = h
  grown text (suc i) (x ∷ xs) more lt h = grown text i xs more (omega arith) h

  pub kept_more : (text : List ℕ) (i : ℕ) (xs ys : List CachedAnswer) → IsKept r p text i xs → AddsPlaces xs ys → IsKept r p text i ys
  kept_more text i xs ys kept adds =
      subst (IsKept r p text i) (sym adds.is) (record {
        within = omega (arith, kept.within, length-append xs adds.more);
        cached = all_append (IsCached r p) xs adds.more kept.cached (λ j d lt. nothing_cached (get_or adds.more j d) (adds.empty j d lt));
        at_hand = grown text i xs adds.more kept.within kept.at_hand;
      })

  -- All places are empty.
  pub kept_first : (ys : List CachedAnswer) → AddsPlaces [] ys → 0 < length ys → IsKept r p [] 0 ys
  kept_first [] adds some = absurd (omega arith)
  kept_first (k ∷ ks) adds some =
      let empty : All IsEmptyPlace (k ∷ ks) = subst (All IsEmptyPlace) (sym adds.is) adds.empty in
      record {
        within = some;
        cached = λ j d lt. nothing_cached (get_or (k ∷ ks) j d) (empty j d lt);
        at_hand = silent r p (meaning_of []) k.answer (empty 0 k some).answer;
      }

  -- The answer of a typed dimension, whose text is not cached.
  pub kept_typed : (text : List ℕ) (xs : List CachedAnswer) (k : CachedAnswer) → k.is_kept ≡ false → 0 < length xs → All (IsCached r p) xs → answers text k → IsKept r p text 0 (set xs 0 k)
  kept_typed text xs k other some all answer = kept_set text 0 xs k some all (λ kept. absurd (cc (other, kept))) answer
