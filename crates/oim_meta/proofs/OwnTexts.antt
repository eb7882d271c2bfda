-- One text under two names: a search through the earlier texts finds it exactly if some name has
-- the text of another.
use Rattle.std.proofs.Common.{◌≡◌, ◌∙◌, ◌++◌, ℕ, List, [], ◌∷◌, Bool, true, false, not, ◌||◌, ◌&&◌, Less, refl, sym, ap, bytes_eq, nat_cmp, if◌then◌else◌}
use Rattle.std.specs.Prelude.{⊤, is_some, Some, None}
use Rattle.std.specs.Bool.{Decides}
use Rattle.std.specs.List.{AllByRecursion}
use Rattle.std.specs.List.Sorted.{IsStrictlySortedBy}
use Rattle.std.specs.Ordering.{is_eq}
use Rattle.std.specs.Cmp.Lexicographic.{slice_cmp}
use Rattle.std.proofs.lemmas.Slice.Eq.{bytes_eq-Decides}
use Rattle.std.proofs.lemmas.Map.Text.{is_eq-slice_cmp}
use Rattle.serde_json.specs.Data.{Data, Members, no_members, member}
use Rattle.oim_names.specs.Lookup.{value_at}
use Rattle.oim_meta.specs.Members.{text_of, any_member}
use Rattle.oim_meta.specs.Order.{names_of, has_other, repeats_text}
use Rattle.oim_meta.specs.state.Order.{repeats_seen}
use Rattle.oim_report.specs.Rising.{IsRising}

-- EQUAL TEXTS

back : (t u : List ℕ) → bytes_eq t u ≡ bytes_eq u t
back t u = at (bytes_eq t u) (bytes_eq u t) (bytes_eq-Decides t u) (bytes_eq-Decides u t)
  where
    at : (a b : Bool) → Decides a (t ≡ u) → Decides b (u ≡ t) → a ≡ b
    at true true d e = refl
    at false false d e = refl
    at true false d e = let wrong = e.1 (sym (d.0 refl)) in absurd cc
    at false true d e = let wrong = d.1 (sym (e.0 refl)) in absurd cc

itself : (t : List ℕ) → bytes_eq t t ≡ true
itself t = (bytes_eq-Decides t t).1 refl

-- TESTS OF MEMBERS

same_test : (p q : List ℕ → Data → Bool) → ((k : List ℕ) (d : Data) → p k d ≡ q k d) → (ms : Members) → any_member p ms ≡ any_member q ms
same_test p q h no_members = refl
same_test p q h (member k d ms) = let one = h k d in let rest = same_test p q h ms in or-same (p k d) (any_member p ms) (q k d) (any_member q ms) one rest
  where
    or-same : (a b c d : Bool) → a ≡ c → b ≡ d → (a || b) ≡ (c || d)
    or-same a b c d e f = rw (e, f) refl

-- (a || b) || (c || d) in another order.
mixed : (a b c d : Bool) → ((a || b) || (c || d)) ≡ ((a || c) || (b || d))
mixed true b c d = refl
mixed false true true d = refl
mixed false true false d = refl
mixed false false true d = refl
mixed false false false d = refl

either_test : (p q : List ℕ → Data → Bool) (ms : Members) → any_member (λ k d. p k d || q k d) ms ≡ (any_member p ms || any_member q ms)
either_test p q no_members = refl
either_test p q (member k d ms) =
    ap (λ b. (p k d || q k d) || b) (either_test p q ms) ∙ mixed (p k d) (q k d) (any_member p ms) (any_member q ms)

no_test : (ms : Members) → any_member (λ _ _. false) ms ≡ false
no_test no_members = refl
no_test (member k d ms) = no_test ms

-- PAIRS OF MEMBERS WITH ONE TEXT

abbrev pairs : Members → Bool
pairs no_members = false
pairs (member k d ms) = any_member (λ _ e. bytes_eq (text_of d) (text_of e)) ms || pairs ms

abbrev unit : ⊤
unit = tt

seen_more : (t u : List ℕ) (seen : List (List ℕ × ⊤)) → is_some (value_at t (seen ++ (u, tt) ∷ [])) ≡ (is_some (value_at t seen) || bytes_eq u t)
seen_more t u [] = at (bytes_eq u t)
  where
    at : (b : Bool) → is_some (if b then Some unit else None) ≡ (false || b)
    at true = refl
    at false = refl
seen_more t u (e ∷ es) = at (bytes_eq e.0 t) (seen_more t u es)
  where
    at : (b : Bool) → is_some (value_at t (es ++ (u, tt) ∷ [])) ≡ (is_some (value_at t es) || bytes_eq u t)
        → is_some (if b then Some e.1 else value_at t (es ++ (u, tt) ∷ [])) ≡ (is_some (if b then Some e.1 else value_at t es) || bytes_eq u t)
    at true h = refl
    at false h = h

regroup : (s a e p : Bool) → (s || ((a || e) || p)) ≡ ((s || a) || (e || p))
regroup true a e p = refl
regroup false true e p = refl
regroup false false e p = refl

seen_is : (seen : List (List ℕ × ⊤)) (ms : Members) → repeats_seen seen ms ≡ (any_member (λ _ e. is_some (value_at (text_of e) seen)) ms || pairs ms)
seen_is seen no_members = refl
seen_is seen (member k d ms) =
    let t = text_of d in
    let more = seen ++ (t, tt) ∷ [] in
    let split = same_test (λ _ e. is_some (value_at (text_of e) more)) (λ _ e. is_some (value_at (text_of e) seen) || bytes_eq t (text_of e))
    (λ _ e. seen_more (text_of e) t seen) ms ∙ either_test (λ _ e. is_some (value_at (text_of e) seen)) (λ _ e. bytes_eq t (text_of e)) ms in
    ap (λ b. is_some (value_at t seen) || b) (seen_is more ms ∙ ap (λ b. b || pairs ms) split)
    ∙ regroup (is_some (value_at t seen)) (any_member (λ _ e. is_some (value_at (text_of e) seen)) ms) (any_member (λ _ e. bytes_eq t (text_of e)) ms) (pairs ms)

-- NAMES IN ORDER

below-differs : (k l : List ℕ) → slice_cmp nat_cmp k l ≡ Less → bytes_eq k l ≡ false
below-differs k l h = sym (is_eq-slice_cmp k l) ∙ ap is_eq h

abbrev IsUnder : List ℕ → Members → Type 0
IsUnder k ms = AllByRecursion (λ l. slice_cmp nat_cmp k l ≡ Less) (names_of ms)

-- A name below the others differs from each of them.
after : (k t : List ℕ) (ms : Members) → IsUnder k ms → has_other k t ms ≡ any_member (λ _ e. bytes_eq t (text_of e)) ms
after k t no_members h = refl
after k t (member l e ms) h = rw (below-differs k l h.0, after k t ms h.1) refl

-- Each of the names after a name has it as another name.
before : (k t : List ℕ) (rest : Members) (ms : Members) → IsUnder k ms
    → any_member (λ n e. (not (bytes_eq n k) && bytes_eq (text_of e) t) || has_other n (text_of e) rest) ms
    ≡ any_member (λ n e. bytes_eq t (text_of e) || has_other n (text_of e) rest) ms
before k t rest no_members h = refl
before k t rest (member l e ms) h = rw (back l k, below-differs k l h.0, back (text_of e) t, before k t rest ms h.1) refl

twice : (a b : Bool) → (a || (a || b)) ≡ (a || b)
twice true b = refl
twice false b = refl

text_is : (ms : Members) → IsRising (names_of ms) → repeats_text ms ≡ pairs ms
unfolding IsStrictlySortedBy
text_is no_members h = refl
text_is (member k d ms) h =
    let t = text_of d in
    let head : has_other k t (member k d ms) ≡ any_member (λ _ e. bytes_eq t (text_of e)) ms = rw (itself k) (after k t ms h.0) in
    let tail : any_member (λ n e. has_other n (text_of e) (member k d ms)) ms ≡ (any_member (λ _ e. bytes_eq t (text_of e)) ms || pairs ms) =
    before k t ms ms h.0 ∙ either_test (λ _ e. bytes_eq t (text_of e)) (λ n e. has_other n (text_of e) ms) ms
    ∙ ap (λ b. any_member (λ _ e. bytes_eq t (text_of e)) ms || b) (text_is ms h.1) in
    ap (λ b. b || any_member (λ n e. has_other n (text_of e) (member k d ms)) ms) head
    ∙ ap (λ b. any_member (λ _ e. bytes_eq t (text_of e)) ms || b) tail
    ∙ twice (any_member (λ _ e. bytes_eq t (text_of e)) ms) (pairs ms)

pub seen_is_repeated : (ms : Members) → IsRising (names_of ms) → repeats_seen [] ms ≡ repeats_text ms
seen_is_repeated ms h = seen_is [] ms ∙ ap (λ b. b || pairs ms) (no_test ms) ∙ sym (text_is ms h)
