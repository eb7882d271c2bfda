-- The first character, and all others.
use Rattle.std.proofs.Common.{◌≡◌, ℕ, List, [], ◌∷◌, ◌++◌, sym, ap, ◌∙◌, Bool, true, false, ◌&&◌, length}
use Rattle.std.specs.List.{list_all}
use Rattle.std.specs.Str.{chars, IsUtf8, is_utf8}
use Rattle.std.proofs.lemmas.Str.{chars_past_char, chars-nil, is_utf8-from_IsUtf8}
use Rattle.oim_names.specs.Names.{begins_and_goes_on}
use lib.Utf8.{encode}

pub goes_on : (first other : ℕ → Bool) (text rest : List ℕ) (c : ℕ) (b r : Bool) → IsUtf8 text → text ≡ encode c ++ rest → b ≡ first c → b ≡ true
    → r ≡ list_all other (chars rest) → r ≡ begins_and_goes_on first other (chars text)
goes_on first other text rest c b r u e f t h =
    let k : begins_and_goes_on first other (chars text) ≡ begins_and_goes_on first other (c ∷ chars rest) = ap (begins_and_goes_on first other) (chars_past_char text rest c u e) in
    h ∙ ap (λ d. d && list_all other (chars rest)) (sym (sym f ∙ t)) ∙ sym k

pub not_begun : (first other : ℕ → Bool) (text rest : List ℕ) (c : ℕ) (b : Bool) → IsUtf8 text → text ≡ encode c ++ rest → b ≡ first c → b ≡ false → b ≡ begins_and_goes_on first other (chars text)
not_begun first other text rest c b u e f t =
    let k : begins_and_goes_on first other (chars text) ≡ begins_and_goes_on first other (c ∷ chars rest) = ap (begins_and_goes_on first other) (chars_past_char text rest c u e) in
    t ∙ ap (λ d. d && list_all other (chars rest)) (sym (sym f ∙ t)) ∙ sym k

pub no_name : (first other : ℕ → Bool) (text : List ℕ) → length text ≡ 0 → false ≡ begins_and_goes_on first other (chars text)
no_name first other [] e = sym (ap (begins_and_goes_on first other) chars-nil)
no_name first other (b ∷ bs) e = absurd (cc)

-- A test of a text's characters is a test of the text.
pub in_text : (text : List ℕ) (r x : Bool) → IsUtf8 text → r ≡ x → r ≡ (is_utf8 text && x)
in_text text r x u e = e ∙ ap (λ b. b && x) (sym (is_utf8-from_IsUtf8 text u))
