-- Names by their characters: the sets of XML 1.0 fifth edition, section 2.3 (NameStartChar and
-- NameChar), without the colon.
use Rattle.std.specs.Prelude.{ℕ, List, [], ◌∷◌, Bool, false, not, ◌&&◌, ◌||◌, ◌==◌, chars}
use Rattle.std.specs.Int.{is_in_range}
use Rattle.std.specs.List.{list_all}
use Rattle.std.specs.Str.{is_utf8}

-- The characters that may begin a name: letters, `_`, and the letters and signs of other scripts.
unfoldable pub is_name_start : ℕ → Bool
is_name_start c =
    is_in_range 65 90 c || (c == 95) || is_in_range 97 122 c
    || is_in_range 0xC0 0xD6 c || is_in_range 0xD8 0xF6 c || is_in_range 0xF8 0x2FF c
    || is_in_range 0x370 0x37D c || is_in_range 0x37F 0x1FFF c || is_in_range 0x200C 0x200D c
    || is_in_range 0x2070 0x218F c || is_in_range 0x2C00 0x2FEF c || is_in_range 0x3001 0xD7FF c
    || is_in_range 0xF900 0xFDCF c || is_in_range 0xFDF0 0xFFFD c || is_in_range 0x10000 0xEFFFF c

-- The characters that a name may contain: those that may begin it, `-`, `.`, digits, the middle
-- dot, combining marks and ties.
unfoldable pub is_name_char : ℕ → Bool
is_name_char c =
    is_name_start c || (c == 45) || (c == 46) || is_in_range 48 57 c
    || (c == 0xB7) || is_in_range 0x300 0x36F c || is_in_range 0x203F 0x2040 c

-- The characters that an identifier may contain: those of a name but `.`.
unfoldable pub is_plain_char : ℕ → Bool
is_plain_char c = is_name_char c && not (c == 46)

-- The first item passes one test, and the others pass another.
abbrev pub begins_and_goes_on : {X : Type 0} → (X → Bool) → (X → Bool) → List X → Bool
begins_and_goes_on first other [] = false
begins_and_goes_on first other (x ∷ xs) = first x && list_all other xs

-- A name without a colon (Namespaces in XML 1.0, NCName). Bytes that are not UTF-8 are not a text.
unfoldable pub is_ncname : List ℕ → Bool
is_ncname t = is_utf8 t && begins_and_goes_on is_name_start is_name_char (chars t)

-- An identifier (xBRL-CSV 1.0, identifiers): a name without a colon and without `.`.
unfoldable pub is_identifier : List ℕ → Bool
is_identifier t = is_utf8 t && begins_and_goes_on is_name_start is_plain_char (chars t)

-- A row identifier (xBRL-CSV 1.0, row identifiers): one or more characters that a name may contain,
-- without `.`.
unfoldable pub is_row_identifier : List ℕ → Bool
is_row_identifier t = is_utf8 t && begins_and_goes_on is_plain_char is_plain_char (chars t)
