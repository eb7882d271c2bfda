-- Numbers, dates and times in a fixed count of decimal digits (ISO 8601, extended format), and the
-- numbers at given places of a text.
use Rattle.std.specs.Prelude.{ℕ, ◌+◌, ◌-◌, ◌*◌, ◌/◌, ◌%◌, List, [], ◌∷◌, ◌++◌, codes, get_or}

-- The character of a digit.
abbrev pub digit : ℕ → ℕ
digit n = 48 + n

abbrev pub one : ℕ → List ℕ
one n = digit n ∷ []

abbrev pub two : ℕ → List ℕ
two n = digit (n / 10) ∷ digit (n % 10) ∷ []

abbrev pub four : ℕ → List ℕ
four n = two (n / 100) ++ two (n % 100)

-- A written date: `yyyy-mm-dd`.
abbrev pub date_text : ℕ → ℕ → ℕ → List ℕ
date_text y m d = four y ++ codes "-" ++ two m ++ codes "-" ++ two d

-- A written time: `hh:mm:ss`.
abbrev pub clock_text : ℕ → ℕ → ℕ → List ℕ
clock_text hour minute second = two hour ++ codes ":" ++ two minute ++ codes ":" ++ two second

-- The number of one, two or four digits that begins at a place in a text.
unfoldable pub one_at : ℕ → List ℕ → ℕ
one_at n text = get_or text n 0 - 48

unfoldable pub two_at : ℕ → List ℕ → ℕ
two_at n text = 10 * (get_or text n 0 - 48) + (get_or text (n + 1) 0 - 48)

unfoldable pub four_at : ℕ → List ℕ → ℕ
four_at n text = 100 * two_at n text + two_at (n + 2) text
