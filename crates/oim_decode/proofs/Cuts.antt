-- Texts of facts that are written, cut and moved.
use Rattle.std.proofs.Common.{◌≡◌, ℕ, ◌+◌, ◌-◌, ◌≤◌, List, [], ◌∷◌, ◌++◌, Bool, true, false, Some, None, Result, Ok, Err, IfOk, length, take, drop, get_or, map, refl, ap, sym, ◌∙◌, arith, length-append}
use mathlib.Core.List.{IsPrefix}
use Rattle.std.specs.List.{position_from}
use Rattle.std.specs.Str.{is_utf8}
use Rattle.std.proofs.lemmas.List.{take_at, drop_at, length-take-le, take-append-drop}
use Rattle.std.proofs.lemmas.Str.{IsUtf8-from_is_utf8}
use Rattle.csv.specs.Records.{AllText}
use Rattle.oim_resolve.specs.FactParts.{FactParts as Fact}
use Rattle.oim_fast.specs.Facts.{WritesFacts}
use Rattle.oim_row.specs.Rows.{RowValue}
use Rattle.oim_rows.specs.RowFacts.{is_not_text}
use Rattle.oim_rows.specs.declared.fault.TableFault.{TableFault}
use Rattle.oim_json.specs.Blocks.{behind_comma, behind_commas, ends_from}
use Rattle.oim_json.proofs.Blocks.{texts_append, texts_cut, ends_append, ends_length, read_end}

-- PREFIXES

-- What was written after a prefix is cut off again.
pub taken_back : (old new : List ℕ) (n : ℕ) → n ≡ length old → IsPrefix old new → take n new ≡ old
taken_back old new n here front = ap (take n) (sym front.1) ∙ take_at old front.0 n (sym here)

pub front_of : (old cut new : List ℕ) → cut ≡ old → IsPrefix cut new → IsPrefix old new
front_of old cut new same front = (front.0, ap (λ t. t ++ front.0) (sym same) ∙ front.1)

-- A row is written after the old text.
pub written_behind : (x : RowValue) (old cut new noted cuts notes : List ℕ) → cut ≡ old → cuts ≡ noted → WritesFacts x cut new cuts notes → WritesFacts x old new noted notes
written_behind x old cut new noted cuts notes same kept w = record {
  facts = w.facts;
  are = w.are;
  text = w.text ∙ ap (λ t. t ++ behind_commas w.facts) same;
  ends = w.ends ∙ ap (λ t. t ++ ends_from (length cut) w.facts) kept ∙ ap (λ t. noted ++ ends_from (length t) w.facts) same;
}

pub written_ok : (x : RowValue) (r : Result (Unit {0}) TableFault) (old cut new noted cuts notes : List ℕ) → cut ≡ old → cuts ≡ noted
    → IfOk r (λ _. WritesFacts x cut new cuts notes) → IfOk r (λ _. WritesFacts x old new noted notes)
written_ok x (Ok u) old cut new noted cuts notes same kept w = written_behind x old cut new noted cuts notes same kept w
written_ok x (Err e) old cut new noted cuts notes same kept w = tt

-- RECORDS OF TEXT

pub all_text : (n : ℕ) (r : List (List ℕ)) → position_from is_not_text n r ≡ None → AllText r
unfolding AllText
all_text n [] none = tt
all_text n (f ∷ fs) none = by (is_utf8 f) refl none (all_text (n + 1) fs)
  where
    by : (b : Bool) → is_utf8 f ≡ b → position_from is_not_text n (f ∷ fs) ≡ None → (position_from is_not_text (n + 1) fs ≡ None → AllText fs) → AllText (f ∷ fs)
    by true e k more = (IsUtf8-from_is_utf8 f e, more (rw e at k))
    by false e k more = let some : Some n ≡ None = rw e at k in cc some

-- BATCHES

-- The texts and ends of the first facts.
pub first_texts : (n at : ℕ) (fs : List Fact) (bytes : List ℕ) → bytes ≡ behind_commas fs → at ≡ length (behind_commas (take n fs)) → take at bytes ≡ behind_commas (take n fs)
first_texts n at fs bytes is here = ap (take at) (is ∙ texts_cut n fs) ∙ take_at (behind_commas (take n fs)) (behind_commas (drop n fs)) at (sym here)

pub rest_texts : (n at : ℕ) (fs : List Fact) (bytes : List ℕ) → bytes ≡ behind_commas fs → at ≡ length (behind_commas (take n fs)) → drop at bytes ≡ behind_commas (drop n fs)
rest_texts n at fs bytes is here = ap (drop at) (is ∙ texts_cut n fs) ∙ drop_at (behind_commas (take n fs)) (behind_commas (drop n fs)) at (sym here)

ends_split : (n : ℕ) (fs : List Fact) → ends_from 0 fs ≡ ends_from 0 (take n fs) ++ ends_from (length (behind_commas (take n fs))) (drop n fs)
ends_split n fs =
    let here : 0 + length (behind_commas (take n fs)) ≡ length (behind_commas (take n fs)) = omega arith in
    ap (ends_from 0) (sym (take-append-drop n fs)) ∙ ends_append 0 (take n fs) (drop n fs) ∙ ap (λ k. ends_from 0 (take n fs) ++ ends_from k (drop n fs)) here

pub first_ends : (n : ℕ) (fs : List Fact) (ends : List ℕ) → n ≤ length fs → ends ≡ ends_from 0 fs → take n ends ≡ ends_from 0 (take n fs)
first_ends n fs ends h is =
    ap (take n) (is ∙ ends_split n fs) ∙ take_at (ends_from 0 (take n fs)) (ends_from (length (behind_commas (take n fs))) (drop n fs)) n (ends_length 0 (take n fs) ∙ length-take-le n fs h)

-- Ends are counted from another place.
moved : (n k : ℕ) (fs : List Fact) → map (λ e. e - k) (ends_from (k + n) fs) ≡ ends_from n fs
unfolding ends_from
moved n k [] = refl
moved n k (f ∷ fs) =
    let long = length (behind_comma f) in
    let less : ((k + n) + long) - k ≡ n + long = omega arith in
    let there : (k + n) + long ≡ k + (n + long) = omega arith in
    ap (λ e. e ∷ map (λ x. x - k) (ends_from ((k + n) + long) fs)) less ∙ ap (λ t. (n + long) ∷ t) (ap (λ m. map (λ x. x - k) (ends_from m fs)) there ∙ moved (n + long) k fs)

pub rest_ends : (n at : ℕ) (fs : List Fact) (ends : List ℕ) → n ≤ length fs → ends ≡ ends_from 0 fs → at ≡ length (behind_commas (take n fs))
    → map (λ e. e - at) (drop n ends) ≡ ends_from 0 (drop n fs)
rest_ends n at fs ends h is here =
    let none : at + 0 ≡ length (behind_commas (take n fs)) = omega arith in
    let back : drop n ends ≡ ends_from (at + 0) (drop n fs) =
    ap (drop n) (is ∙ ends_split n fs) ∙ drop_at (ends_from 0 (take n fs)) (ends_from (length (behind_commas (take n fs))) (drop n fs)) n
    (ends_length 0 (take n fs) ∙ length-take-le n fs h) ∙ ap (λ k. ends_from k (drop n fs)) (sym none) in
    ap (map (λ e. e - at)) back ∙ moved 0 at (drop n fs)

-- Where the first n facts end.
pub end_of_first : (n : ℕ) (fs : List Fact) (ends : List ℕ) (at : ℕ) → ends ≡ ends_from 0 fs → 1 ≤ n → n ≤ length fs → at ≡ get_or ends (n - 1) at → at ≡ length (behind_commas (take n fs))
end_of_first n fs ends at is some h got =
    let one : (n - 1) + 1 ≡ n = omega arith in
    read_end fs ends (n - 1) at is (omega arith) got ∙ ap (λ k. length (behind_commas (take k fs))) one

pub drop_before : (n : ℕ) (fs : List Fact) → length (behind_commas (take n fs)) ≤ length (behind_commas fs)
drop_before n fs = omega (arith, ap length (texts_cut n fs), length-append (behind_commas (take n fs)) (behind_commas (drop n fs)))

-- What is held of more facts.
pub held_more : (out out' ends ends' : List ℕ) (fs gs hs : List Fact) → out ≡ behind_commas fs → ends ≡ ends_from 0 fs
    → out' ≡ out ++ behind_commas gs → ends' ≡ ends ++ ends_from (length out) gs → hs ≡ fs ++ gs
    → (out' ≡ behind_commas hs) × (ends' ≡ ends_from 0 hs)
held_more out out' ends ends' fs gs hs is marks more noted all =
    let here : length out ≡ 0 + length (behind_commas fs) = omega (arith, ap length is) in (
      more ∙ ap (λ t. t ++ behind_commas gs) is ∙ sym (texts_append fs gs) ∙ ap behind_commas (sym all),
      noted ∙ ap (λ t. t ++ ends_from (length out) gs) marks ∙ ap (λ k. ends_from 0 fs ++ ends_from k gs) here ∙ sym (ends_append 0 fs gs) ∙ ap (ends_from 0) (sym all),
    )
