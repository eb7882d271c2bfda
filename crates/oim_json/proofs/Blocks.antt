-- Texts of facts, each after a comma, and where each ends.
use Rattle.std.proofs.Common.{◌≡◌, ℕ, zero, suc, ◌+◌, ◌-◌, ◌≤◌, ◌<◌, List, [], ◌∷◌, ◌++◌, length, take, drop, get_or, slice_get}
use Rattle.std.proofs.Common.{Some, None, option_map, inl, inr, ◌⊎◌, refl, ap, sym, ◌∙◌, arith, append-nil, append_assoc, length-append}
use Rattle.std.specs.List.{slice_range}
use Rattle.std.proofs.Math.Seq.{drop-append-add}
use Rattle.std.proofs.lemmas.Grind.{flat_map-append}
use Rattle.std.proofs.lemmas.List.{length-drop, take_at, take_more, take-append-drop}
use Rattle.std.proofs.lemmas.Option.{get_or_from_slice_get, slice_get_cases, slice_get_within}
use Rattle.oim_resolve.specs.FactParts.{FactParts as Fact}
use Rattle.oim_json.specs.JsonText.{member_text}
use Rattle.oim_json.specs.Document.{facts_text}
use Rattle.oim_json.specs.Blocks.{behind_comma, behind_commas, ends_from}

pub texts_append : (fs gs : List Fact) → behind_commas (fs ++ gs) ≡ behind_commas fs ++ behind_commas gs
unfolding behind_commas
texts_append fs gs = flat_map-append behind_comma fs gs

pub texts_one : (f : Fact) → behind_commas (f ∷ []) ≡ behind_comma f
unfolding behind_commas
texts_one f = append-nil (behind_comma f)

-- The texts of a block: a comma, then all texts joined by commas.
pub texts_joined : (fs : List Fact) → 1 ≤ length fs → behind_commas fs ≡ 44 ∷ facts_text fs
unfolding behind_commas facts_text
texts_joined [] h = absurd (omega (arith, h))
texts_joined (f ∷ []) h = ap (λ t. 44 ∷ t) (append-nil (member_text f))
texts_joined (f ∷ g ∷ gs) h = ap (λ t. 44 ∷ (member_text f ++ t)) (texts_joined (g ∷ gs) (omega arith))

-- Each fact takes at least one byte.
pub facts_within : (fs : List Fact) → length fs ≤ length (behind_commas fs)
unfolding behind_commas
facts_within [] = omega arith
facts_within (f ∷ fs) = omega (arith, facts_within fs, length-append (member_text f) (behind_commas fs))

pub ends_append : (n : ℕ) (fs gs : List Fact) → ends_from n (fs ++ gs) ≡ ends_from n fs ++ ends_from (n + length (behind_commas fs)) gs
unfolding behind_commas ends_from
ends_append n [] gs = let here : n + 0 ≡ n = omega arith in ap (λ k. ends_from k gs) (sym here)
ends_append n (f ∷ fs) gs =
    let long = length (behind_comma f) in
    let there : (n + long) + length (behind_commas fs) ≡ n + length (behind_commas (f ∷ fs)) = omega (arith, length-append (member_text f) (behind_commas fs)) in
    ap (λ t. (n + long) ∷ t) (ends_append (n + long) fs gs ∙ ap (λ k. ends_from (n + long) fs ++ ends_from k gs) there)

pub ends_one : (n : ℕ) (f : Fact) → ends_from n (f ∷ []) ≡ (n + length (behind_comma f)) ∷ []
unfolding ends_from
ends_one n f = refl

pub ends_length : (n : ℕ) (fs : List Fact) → length (ends_from n fs) ≡ length fs
unfolding ends_from
ends_length n [] = refl
ends_length n (f ∷ fs) = ap suc (ends_length (n + length (behind_comma f)) fs)

-- Where the fact at an index ends.
pub ends_at : (n : ℕ) (fs : List Fact) (i d : ℕ) → i < length fs → get_or (ends_from n fs) i d ≡ n + length (behind_commas (take (i + 1) fs))
unfolding behind_commas ends_from
ends_at n [] i d h = absurd (omega (arith, h))
ends_at n (f ∷ fs) zero d h = omega (arith, length-append (member_text f) [])
ends_at n (f ∷ fs) (suc i) d h =
    let one : suc i + 1 ≡ suc (i + 1) = omega arith in
    let more = ends_at (n + length (behind_comma f)) fs i d (omega arith) in
    let rest = behind_commas (take (i + 1) fs) in
    let there : (n + length (behind_comma f)) + length rest ≡ n + length (behind_comma f ++ rest) = omega (arith, length-append (member_text f) rest) in
    rw one (more ∙ there)

-- One more fact.
pub texts_push : (fs : List Fact) (f : Fact) → behind_commas (fs ++ f ∷ []) ≡ behind_commas fs ++ (44 ∷ member_text f)
texts_push fs f = texts_append fs (f ∷ []) ∙ ap (λ t. behind_commas fs ++ t) (texts_one f)

pub ends_push : (n : ℕ) (fs : List Fact) (f : Fact) → ends_from n (fs ++ f ∷ []) ≡ ends_from n fs ++ (n + length (behind_commas (fs ++ f ∷ []))) ∷ []
ends_push n fs f =
    let there : (n + length (behind_commas fs)) + length (behind_comma f) ≡ n + length (behind_commas (fs ++ f ∷ [])) =
    omega (arith, length-append (behind_commas fs) (behind_comma f), ap length (texts_push fs f)) in
    ends_append n fs (f ∷ []) ∙ ap (λ t. ends_from n fs ++ t) (ends_one (n + length (behind_commas fs)) f ∙ ap (λ k. k ∷ []) there)

-- The texts before an index, and those from it on.
pub texts_cut : (n : ℕ) (fs : List Fact) → behind_commas fs ≡ behind_commas (take n fs) ++ behind_commas (drop n fs)
texts_cut n fs = ap behind_commas (sym (take-append-drop n fs)) ∙ texts_append (take n fs) (drop n fs)

-- The text of one fact, taken from those of all.
cut_out : (before text after : List ℕ) (a b : ℕ) → a ≡ length before + 1 → b ≡ a + length text → slice_range ((before ++ (44 ∷ text)) ++ after) a b ≡ text
cut_out before text after a b from to =
    let long : length text ≡ b - a = omega arith in
    let rest : drop a ((before ++ (44 ∷ text)) ++ after) ≡ text ++ after =
    ap (drop a) (append_assoc before (44 ∷ text) after) ∙ ap (λ k. drop k (before ++ (44 ∷ (text ++ after)))) from ∙ drop-append-add before (44 ∷ (text ++ after)) 1 in
    ap (take (b - a)) rest ∙ take_at text after (b - a) long

pub text_at : (fs : List Fact) (i : ℕ) (f : Fact) (a b : ℕ) → slice_get fs i ≡ Some f → a ≡ length (behind_commas (take i fs)) + 1 → b ≡ length (behind_commas (take (i + 1) fs))
    → slice_range (behind_commas fs) a b ≡ member_text f
text_at fs i f a b at from to =
    let before = behind_commas (take i fs) in
    let upto : behind_commas (take (i + 1) fs) ≡ before ++ (44 ∷ member_text f) =
    ap behind_commas (take_more fs i f (slice_get_within fs i f at) ∙ ap (λ g. take i fs ++ g ∷ []) (get_or_from_slice_get fs i f f at)) ∙ texts_push (take i fs) f in
    let all : behind_commas fs ≡ (before ++ (44 ∷ member_text f)) ++ behind_commas (drop (i + 1) fs) = texts_cut (i + 1) fs ∙ ap (λ t. t ++ behind_commas (drop (i + 1) fs)) upto in
    let end : b ≡ a + length (member_text f) = omega (arith, to, from, ap length upto, length-append before (44 ∷ member_text f)) in
    ap (λ t. slice_range t a b) all ∙ cut_out before (member_text f) (behind_commas (drop (i + 1) fs)) a b from end

-- The length of the texts before an index.
pub texts_within : (n : ℕ) (fs : List Fact) → length (behind_commas (take n fs)) ≤ length (behind_commas fs)
texts_within n fs = omega (arith, ap length (texts_cut n fs), length-append (behind_commas (take n fs)) (behind_commas (drop n fs)))

pub start_within : (i : ℕ) (fs : List Fact) → i < length fs → length (behind_commas (take i fs)) + 1 ≤ length (behind_commas fs)
start_within i fs h =
    omega (arith, h, ap length (texts_cut i fs), length-append (behind_commas (take i fs)) (behind_commas (drop i fs)), facts_within (drop i fs), length-drop i fs)

pub read_end : (fs : List Fact) (ends : List ℕ) (i v : ℕ) → ends ≡ ends_from 0 fs → i < length fs → v ≡ get_or ends i v → v ≡ length (behind_commas (take (i + 1) fs))
read_end fs ends i v is h got = got ∙ ap (λ t. get_or t i v) is ∙ ends_at 0 fs i v h ∙ omega arith

pub read_start : (fs : List Fact) (ends : List ℕ) (i v : ℕ) → ends ≡ ends_from 0 fs → i < length fs → 0 < i → v ≡ get_or ends (i - 1) v → v ≡ length (behind_commas (take i fs))
read_start fs ends i v is h some got =
    let one : (i - 1) + 1 ≡ i = omega arith in
    read_end fs ends (i - 1) v is (omega arith) got ∙ ap (λ k. length (behind_commas (take k fs))) one

-- One more fact is written after a comma, and its end recorded.
pub written_one : (fs : List Fact) (i : ℕ) (f : Fact) (bytes opened written : List ℕ) → i < length fs → f ≡ get_or fs i f → bytes ≡ behind_commas (take i fs) → opened ≡ bytes ++ 44 ∷ []
    → written ≡ opened ++ member_text f → written ≡ behind_commas (take (i + 1) fs)
written_one fs i f bytes opened written h is so first then =
    then ∙ ap (λ t. t ++ member_text f) (first ∙ ap (λ t. t ++ 44 ∷ []) so) ∙ append_assoc (behind_commas (take i fs)) (44 ∷ []) (member_text f)
    ∙ sym (texts_push (take i fs) f) ∙ ap (λ g. behind_commas (take i fs ++ g ∷ [])) is ∙ ap behind_commas (sym (take_more fs i f h))

pub noted_one : (fs : List Fact) (i n end : ℕ) (f : Fact) (ends noted : List ℕ) → i < length fs → ends ≡ ends_from n (take i fs)
    → end ≡ n + length (behind_commas (take (i + 1) fs)) → noted ≡ ends ++ end ∷ [] → noted ≡ ends_from n (take (i + 1) fs)
noted_one fs i n end f ends noted h so at then =
    let more = take_more fs i f h in
    then ∙ ap (λ t. t ++ end ∷ []) so ∙ ap (λ k. ends_from n (take i fs) ++ k ∷ []) (at ∙ ap (λ t. n + length (behind_commas t)) more)
    ∙ sym (ends_push n (take i fs) (get_or fs i f)) ∙ ap (ends_from n) (sym more)

pub no_texts : (fs : List Fact) (i : ℕ) → i ≡ 0 → length (behind_commas (take i fs)) ≡ 0
unfolding behind_commas
no_texts fs i none = ap (λ k. length (behind_commas (take k fs))) none

pub text_got : (fs : List Fact) (bytes got : List ℕ) (i a b : ℕ) → bytes ≡ behind_commas fs → i < length fs → a ≡ length (behind_commas (take i fs)) + 1 → b ≡ length (behind_commas (take (i + 1) fs))
    → got ≡ slice_range bytes a b → option_map member_text (slice_get fs i) ≡ Some got
text_got fs bytes got i a b is h from to cut = by (slice_get_cases fs i).1
  where
    by : ((f : Fact) × (i < length fs) × (slice_get fs i ≡ Some f) × (get_or fs i f ≡ f)) ⊎ ((length fs ≤ i) × (slice_get fs i ≡ None)) → option_map member_text (slice_get fs i) ≡ Some got
    by (inl (f, within, at, same)) =
        ap (option_map member_text) at ∙ ap (λ t. Some t) (sym (text_at fs i f a b at from to) ∙ ap (λ t. slice_range t a b) (sym is) ∙ sym cut)
    by (inr (past, none)) = absurd (omega arith)

-- A text ends after its start, and no later than all of them.
pub text_between : (fs : List Fact) (i a b : ℕ) → i < length fs → a ≡ length (behind_commas (take i fs)) + 1 → b ≡ length (behind_commas (take (i + 1) fs)) → (a ≤ b) × (b ≤ length (behind_commas fs))
text_between fs i a b h from to = by (slice_get_cases fs i).1
  where
    by : ((f : Fact) × (i < length fs) × (slice_get fs i ≡ Some f) × (get_or fs i f ≡ f)) ⊎ ((length fs ≤ i) × (slice_get fs i ≡ None)) → (a ≤ b) × (b ≤ length (behind_commas fs))
    by (inl (f, within, at, same)) =
        let upto : behind_commas (take (i + 1) fs) ≡ behind_commas (take i fs) ++ (44 ∷ member_text f) =
        ap behind_commas (take_more fs i f within ∙ ap (λ g. take i fs ++ g ∷ []) same) ∙ texts_push (take i fs) f in
        (omega (arith, from, to, ap length upto, length-append (behind_commas (take i fs)) (44 ∷ member_text f)), omega (arith, to, texts_within (i + 1) fs))
    by (inr (past, none)) = absurd (omega arith)

pub nothing_written : ([] ≡ behind_commas []) × ([] ≡ ends_from 0 [])
unfolding behind_commas ends_from
nothing_written = (refl, refl)
