-- The grammar of languages, and its function.
use Rattle.std.proofs.Common.{◌≡◌, ℕ, ◌<◌, List, [], ◌∷◌, refl, sym, ap, subst, ◌∙◌, arith, length, Bool, true, false, ◌==◌, ◌&&◌}
use Rattle.std.specs.Int.{is_in_range}
use Rattle.std.specs.List.{list_all, slice_split, join_with_byte, position_or_len, before_first, after_first}
use Rattle.std.proofs.lemmas.List.Elements.{All-from_recursion}
use Rattle.std.proofs.lemmas.List.Splits.{slice_split_none, slice_split_at, slice_split_first, join_with_byte-slice_split}
use Rattle.std.proofs.lemmas.List.Sums.{fails_before_first}
use Rattle.oim_names.specs.Names.{begins_and_goes_on}
use Rattle.oim_names.specs.QName.{Lacks}
use Rattle.oim_names.specs.Language.{is_letter, is_letter_or_digit, is_part, IsLanguage, parts, is_language}
use Rattle.oim_names.proofs.Cut.{eqb_of}
use Rattle.oim_names.proofs.Truth.{and_true, two_true}

-- The code's two cases: a text that is cut at its first `-`, and a text without one.
pub tag_cut : (t f o : List ℕ) → position_or_len (λ c. c == 45) t < length t → f ≡ before_first (λ c. c == 45) t → o ≡ after_first (λ c. c == 45) t
    → (is_part is_letter f && list_all (is_part is_letter_or_digit) (slice_split (λ c. c == 45) o)) ≡ is_language t
tag_cut t f o l e g =
    let s = slice_split_first (λ c. c == 45) t 0 l in
    rw (e, g) (sym (ap (begins_and_goes_on (is_part is_letter) (is_part is_letter_or_digit)) s))

pub tag_uncut : (t : List ℕ) → position_or_len (λ c. c == 45) t ≡ length t → is_part is_letter t ≡ is_language t
tag_uncut t e =
    let s = slice_split_none (λ c. c == 45) t (λ k d l. fails_before_first (λ c. c == 45) t k d (omega (arith, e, l))) in
    sym (ap (begins_and_goes_on (is_part is_letter) (is_part is_letter_or_digit)) s ∙ and_true (is_part is_letter t))

-- A part has no `-`.
all_lack : (kind : ℕ → Bool) → kind 45 ≡ false → (t : List ℕ) → list_all kind t ≡ true → Lacks 45 t
all_lack kind n [] h = tt
all_lack kind n (c ∷ cs) h =
    let d = two_true (kind c) (list_all kind cs) h in
    (eqb_of c 45 (λ e. let k : kind 45 ≡ true = ap kind (sym e) ∙ d.0 in absurd (cc)), all_lack kind n cs d.1)

part_lacks : (kind : ℕ → Bool) → kind 45 ≡ false → (t : List ℕ) → is_part kind t ≡ true → Lacks 45 t
part_lacks kind n t h = all_lack kind n t (two_true (is_in_range 1 8 (length t)) (list_all kind t) h).1

split_joined : (f : List ℕ) (os : List (List ℕ)) → Lacks 45 f → list_all (is_part is_letter_or_digit) os ≡ true → slice_split (λ c. c == 45) (join_with_byte 45 (f ∷ os)) ≡ f ∷ os
split_joined f [] l h = slice_split_none (λ c. c == 45) f (All-from_recursion (λ c. (c == 45) ≡ false) f l)
split_joined f (o ∷ os) l h =
    let d = two_true (is_part is_letter_or_digit o) (list_all (is_part is_letter_or_digit) os) h in
    slice_split_at (λ c. c == 45) f 45 (join_with_byte 45 (o ∷ os)) (All-from_recursion (λ c. (c == 45) ≡ false) f l) refl
    ∙ ap (λ r. f ∷ r) (split_joined o os (part_lacks is_letter_or_digit refl o d.0) d.1)

pub tag_complete : {t : List ℕ} → IsLanguage t → is_language t ≡ true
tag_complete (parts f os p q) =
    ap (begins_and_goes_on (is_part is_letter) (is_part is_letter_or_digit)) (split_joined f os (part_lacks is_letter refl f p) q)
    ∙ rw (p, q) refl

of_parts : (ps : List (List ℕ)) → begins_and_goes_on (is_part is_letter) (is_part is_letter_or_digit) ps ≡ true → IsLanguage (join_with_byte 45 ps)
of_parts [] h = absurd (cc)
of_parts (f ∷ os) h = let d = two_true (is_part is_letter f) (list_all (is_part is_letter_or_digit) os) h in parts f os d.0 d.1

pub tag_sound : (t : List ℕ) → is_language t ≡ true → IsLanguage t
tag_sound t h = subst IsLanguage (join_with_byte-slice_split 45 t) (of_parts (slice_split (λ c. c == 45) t) h)
