-- A text as a terminal shows it: the whole, or its beginning.
use Rattle.std.specs.Prelude.{ℕ, Bool, ◌+◌, ◌/◌, ◌%◌, ◌==◌, ◌&&◌, ◌||◌, nat_le, nat_lt, if◌then◌else◌, List, [], ◌∷◌, ◌++◌, chars, codes, encode_utf8, flat_map, length, take}
use Rattle.std.specs.Char.{is_control}

-- The hexadecimal digit of a number below 16.
abbrev pub hex_digit : ℕ → ℕ
hex_digit n = if nat_lt n 10 then 48 + n else 87 + n

-- \x and the two hexadecimal digits of a character's code
abbrev pub escape_of : ℕ → List ℕ
escape_of c = 92 ∷ 120 ∷ hex_digit (c / 16) ∷ hex_digit (c % 16) ∷ []

-- \u and the four hexadecimal digits of a character's code
abbrev pub long_escape_of : ℕ → List ℕ
long_escape_of c = 92 ∷ 117 ∷ hex_digit (c / 4096 % 16) ∷ hex_digit (c / 256 % 16) ∷ hex_digit (c / 16 % 16) ∷ hex_digit (c % 16) ∷ []

-- A code from one on up to another.
abbrev pub is_from : ℕ → ℕ → ℕ → Bool
is_from first last c = nat_le first c && nat_le c last

-- A character below U+10000 that resembles a blank (Unicode's Zs, Zl and Zp without U+0020), or
-- that is invisible because it has no width or sets the direction of others: the soft hyphen,
-- U+061C, U+180E, U+200B to U+200F, U+202A to U+202E, U+2060 to U+206F, U+FEFF.
abbrev pub is_unseen : ℕ → Bool
is_unseen c =
    (c == 160) || (c == 173) || (c == 1564) || (c == 5760) || (c == 6158) || is_from 8192 8207 c || is_from 8232 8239 c || is_from 8287 8303 c || (c == 12288) || (c == 65279)

-- A control character (U+0000 to U+001F, U+007F to U+009F) and an invisible one by its code, any
-- other as itself.
abbrev pub shown_char : ℕ → List ℕ
shown_char c = if is_control c then escape_of c else if is_unseen c then long_escape_of c else encode_utf8 c

-- A text as a terminal shows it, with each invisible character by its code.
abbrev pub shown : List ℕ → List ℕ
shown text = flat_map shown_char (chars text)

-- How many characters of a text are shown.
abbrev pub most_characters : ℕ
most_characters = 80

-- The beginning of a text, shown in the same way; two dots replace the rest.
abbrev pub excerpt_of : List ℕ → List ℕ
excerpt_of text =
    if nat_lt most_characters (length (chars text)) then flat_map shown_char (take most_characters (chars text)) ++ codes ".." else shown text

-- A text between quotes.
abbrev pub in_quotes : List ℕ → List ℕ
in_quotes text = codes "\"" ++ (text ++ codes "\"")
