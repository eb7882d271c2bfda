-- Language tags by their form (BCP 47, as xBRL-JSON 1.0 restricts it): letters and digits in parts
-- joined by `-`, written in lower case.
use Rattle.std.specs.Prelude.{◌≡◌, ℕ, List, ◌∷◌, Option, Some, None, Bool, true, ◌&&◌, ◌||◌, ◌==◌, if◌then◌else◌, length}
use Rattle.std.specs.Int.{is_in_range}
use Rattle.std.specs.List.{list_all, slice_split, join_with_byte}
use Rattle.std.specs.Str.{str_to_ascii_lowercase}
use Rattle.oim_names.specs.Names.{begins_and_goes_on}

-- `A` to `Z`, or `a` to `z`.
abbrev pub is_letter : ℕ → Bool
is_letter c = is_in_range 65 90 c || is_in_range 97 122 c

-- A letter, or `0` to `9`.
abbrev pub is_letter_or_digit : ℕ → Bool
is_letter_or_digit c = is_letter c || is_in_range 48 57 c

-- A part: 1 to 8 characters of a kind.
abbrev pub is_part : (ℕ → Bool) → List ℕ → Bool
is_part kind text = is_in_range 1 8 (length text) && list_all kind text

-- 1 to 8 letters, then any number of groups of `-` and 1 to 8 letters or digits.
pub data IsLanguage : List ℕ → Type 0 where
  parts : (first : List ℕ) (others : List (List ℕ)) → is_part is_letter first ≡ true → list_all (is_part is_letter_or_digit) others ≡ true
      → IsLanguage (join_with_byte 45 (first ∷ others))

-- The same as a function of the parts between the `-`.
abbrev pub is_language : List ℕ → Bool
is_language text = begins_and_goes_on (is_part is_letter) (is_part is_letter_or_digit) (slice_split (λ c. c == 45) text)

-- A language as documents write it, in lower case. `None` if the text is not a tag.
unfoldable pub language_of : List ℕ → Option (List ℕ)
language_of text = if is_language text then Some (str_to_ascii_lowercase text) else None
