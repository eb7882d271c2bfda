-- A field as a text, and its beginning.
use Rattle.std.proofs.Common.{◌≡◌, ◌∙◌, ◌<◌, ◌≤◌, ◌++◌, ℕ, List, Result, Ok, Err, IfOk, Bool, true, false, ap, length, refl, sym, take}
use Rattle.std.specs.Prelude.{IsUtf8, codes, flat_map, if◌then◌else◌}
use Rattle.std.specs.Str.{is_utf8}
use Rattle.std.proofs.lemmas.Bool.{le-ltb, lt-ltb}
use Rattle.std.proofs.lemmas.Str.{IsUtf8-from_is_utf8, is_utf8-from_IsUtf8}
use Rattle.oim_places.specs.Cells.{as_text, byte_shown, bytes_excerpt, field_excerpt}
use Rattle.oim_places.specs.Shown.{excerpt_of}

utf8_by : (field : List ℕ) (b : Bool) → is_utf8 field ≡ b → IsUtf8 field → as_text field ≡ field
utf8_by field true e is = rw e refl
utf8_by field false e is = cc (sym e ∙ is_utf8-from_IsUtf8 field is)

pub as_itself : {E : Type 0} (field text : List ℕ) (r : Result (List ℕ) E) → IfOk r (λ t. t ≡ text) → text ≡ field → IsUtf8 field → IfOk r (λ t. t ≡ as_text field)
as_itself field text (Ok t) copied same is = copied ∙ same ∙ sym (utf8_by field (is_utf8 field) refl is)
as_itself field text (Err e) copied same is = tt

bytes_by : (field : List ℕ) (b : Bool) → is_utf8 field ≡ b → (IsUtf8 field → ⊥) → as_text field ≡ flat_map byte_shown field
bytes_by field true e not = absurd (not (IsUtf8-from_is_utf8 field e))
bytes_by field false e not = rw e refl

pub as_bytes : (field text : List ℕ) → text ≡ flat_map byte_shown field → (IsUtf8 field → ⊥) → text ≡ as_text field
as_bytes field text shown not = shown ∙ sym (bytes_by field (is_utf8 field) refl not)

-- ---- the beginning of a field

pub cut_bytes : (out field : List ℕ) → 80 < length field → out ≡ flat_map byte_shown (take 80 field) → out ++ codes ".." ≡ bytes_excerpt field
cut_bytes out field long is =
    ap (λ o. o ++ codes "..") is
    ∙ sym (ap (λ b. if b then flat_map byte_shown (take 80 field) ++ codes ".." else flat_map byte_shown field) (lt-ltb 80 (length field) long))

pub whole_bytes : (out field : List ℕ) → length field ≤ 80 → out ≡ flat_map byte_shown field → out ≡ bytes_excerpt field
whole_bytes out field short is =
    is ∙ sym (ap (λ b. if b then flat_map byte_shown (take 80 field) ++ codes ".." else flat_map byte_shown field) (le-ltb 80 (length field) short))

utf8_excerpt : (field : List ℕ) (b : Bool) → is_utf8 field ≡ b → IsUtf8 field → field_excerpt field ≡ excerpt_of field
utf8_excerpt field true e is = rw e refl
utf8_excerpt field false e is = cc (sym e ∙ is_utf8-from_IsUtf8 field is)

bytes_by_excerpt : (field : List ℕ) (b : Bool) → is_utf8 field ≡ b → (IsUtf8 field → ⊥) → field_excerpt field ≡ bytes_excerpt field
bytes_by_excerpt field true e not = absurd (not (IsUtf8-from_is_utf8 field e))
bytes_by_excerpt field false e not = rw e refl

pub excerpt_of_text : (out field text : List ℕ) → out ≡ excerpt_of text → text ≡ field → IsUtf8 field → out ≡ field_excerpt field
excerpt_of_text out field text is same utf8 = is ∙ ap excerpt_of same ∙ sym (utf8_excerpt field (is_utf8 field) refl utf8)

pub excerpt_of_bytes : (out field : List ℕ) → out ≡ bytes_excerpt field → (IsUtf8 field → ⊥) → out ≡ field_excerpt field
excerpt_of_bytes out field is not = is ∙ sym (bytes_by_excerpt field (is_utf8 field) refl not)
