-- What is written of a frame, run after run.
use Rattle.std.proofs.Common.{◌≡◌, ◌<◌, ◌≤◌, ◌+◌, ◌-◌, ◌*◌, ℕ, zero, suc, true, List, [], ◌∷◌, ◌++◌, length, take, drop, IfSome, refl, sym, ap, ◌∙◌, arith, take-add, take-append-drop, drop-drop}
use Rattle.std.specs.Prelude.{slice_range}
use Rattle.std.specs.List.{slice_get}
use Rattle.oim_row.specs.Answers.{IsAnswer}
use Rattle.oim_fast.specs.state.Pieces.{behind}
use Rattle.oim_row.specs.References.{ReferenceValue, meaning_at_hand}
use Rattle.oim_fast.specs.state.GivenTexts.{given_by, is_sound_by}
use Rattle.oim_row.specs.declared.answer.Answer.{Answer}
use Rattle.oim_fast.proofs.FrameTextLaws.{range_more}

-- What the answer of a reference gives.
pub record IsGiven (rs : List ReferenceValue) (i : ℕ) (a : Answer) : Type 0 where
  pub sound : is_sound_by rs i ≡ true
  pub json : a.json.items ≡ given_by rs i

pub answered : (rs : List ReferenceValue) (i : ℕ) (a : Answer) → i < length rs → IfSome (slice_get rs i) (λ r. IsAnswer r.report r.key.purpose (meaning_at_hand r) a) → a.is_sound ≡ true
    → IsGiven rs i a
answered [] i a lt h s = absurd (omega arith)
answered (r ∷ rs) zero a lt h s = record { sound = h.sound s; json = h.json s }
answered (r ∷ rs) (suc i) a lt h s = let more = answered rs i a (omega arith) h s in record { sound = more.sound; json = more.json }

pub range_split : (t : List ℕ) (i j k : ℕ) → i ≤ j → j ≤ k → slice_range t i k ≡ slice_range t i j ++ slice_range t j k
range_split t i j k ij jk =
    let all : k - i ≡ (j - i) + (k - j) = omega arith in
    let at : i + (j - i) ≡ j = omega arith in
    ap (λ n. take n (drop i t)) all ∙ take-add (j - i) (k - j) (drop i t) ∙ ap (λ xs. take (j - i) (drop i t) ++ take (k - j) xs) (drop-drop (j - i) i t ∙ ap (λ n. drop n t) at)

pub behind_some : (lead js : List ℕ) → 0 < length js → behind lead js ≡ lead ++ js
behind_some lead [] h = absurd (omega arith)
behind_some lead (b ∷ bs) h = refl

pub none_given : (js : List ℕ) → length js ≡ 0 → js ≡ []
none_given [] h = refl
none_given (b ∷ bs) h = absurd (omega arith)

-- A range of a buffer's prefix.
pub range_of_front : (memory text : List ℕ) (len from to : ℕ) → take len memory ≡ text → from ≤ to → to ≤ length text → take (to - from) (drop from memory) ≡ slice_range text from to
range_of_front memory text len from to is le within =
    ap (λ r. slice_range r from to) (sym (take-append-drop len memory) ∙ ap (λ t. t ++ drop len memory) is) ∙ range_more text (drop len memory) from to le within

times_more : (a m : ℕ) → (a + 1) * m ≡ a * m + m
times_more a m = omega arith

-- One run less is left.
pub one_less : (n i m : ℕ) → i < n → (n - i) * m ≡ (n - (i + 1)) * m + m
one_less n i m lt = let k : n - i ≡ (n - (i + 1)) + 1 = omega arith in ap (λ q. q * m) k ∙ times_more (n - (i + 1)) m
