-- Durations (XML Schema Part 2, second edition, section 3.2.6): `P`, then numbers of years, months
-- and days, then `T` and numbers of hours, minutes and seconds. The form is given as a relation and
-- as a test.
use Rattle.std.specs.Prelude.{ℕ, ◌<◌, ◌==◌, ◌&&◌, nat_lt, if◌then◌else◌, Bool, true, false, List, [], ◌∷◌, ◌++◌, codes, length}
use Rattle.std.specs.Int.{IsInRange, is_in_range}
use Rattle.std.specs.List.{AllByRecursion}
use Rattle.std.specs.Str.{bytes_eq}
use Rattle.oim_schema.specs.Digits.{after_digits}

abbrev pub IsDigit : ℕ → Type 0
IsDigit c = IsInRange 48 57 c

-- One or more digits and a letter, or nothing.
pub data IsPart : ℕ → List ℕ → Type 0 where
  absent : (letter : ℕ) → IsPart letter []
  present : (letter digit : ℕ) (digits : List ℕ) → IsDigit digit → AllByRecursion IsDigit digits → IsPart letter (digit ∷ (digits ++ letter ∷ []))

-- Seconds, which may have a point and one or more digits after it, or nothing.
pub data IsSeconds : List ℕ → Type 0 where
  whole : (part : List ℕ) → IsPart 83 part → IsSeconds part
  fraction : (digit digit₂ : ℕ) (digits digits₂ : List ℕ) → IsDigit digit → AllByRecursion IsDigit digits → IsDigit digit₂ → AllByRecursion IsDigit digits₂
      → IsSeconds (digit ∷ (digits ++ 46 ∷ digit₂ ∷ (digits₂ ++ codes "S")))

-- `T`, and hours, minutes and seconds, at least one of them, or nothing.
pub data IsClockPart : List ℕ → Type 0 where
  no_clock : IsClockPart []
  clock : (hours minutes seconds : List ℕ) → IsPart 72 hours → IsPart 77 minutes → IsSeconds seconds → 0 < length (hours ++ (minutes ++ seconds))
      → IsClockPart (codes "T" ++ (hours ++ (minutes ++ seconds)))

-- `P`, and years, months, days and the part after `T`, at least one of them.
pub data IsUnsignedDuration : List ℕ → Type 0 where
  parts : (years months days time : List ℕ) → IsPart 89 years → IsPart 77 months → IsPart 68 days → IsClockPart time → 0 < length (years ++ (months ++ (days ++ time)))
      → IsUnsignedDuration (codes "P" ++ (years ++ (months ++ (days ++ time))))

-- A `-` may come first.
pub data IsDuration : List ℕ → Type 0 where
  forward : (text : List ℕ) → IsUnsignedDuration text → IsDuration text
  backward : (text : List ℕ) → IsUnsignedDuration text → IsDuration (codes "-" ++ text)

-- The same as a test. The text after a letter that begins the second text, else the first text.
abbrev pub after_letter : ℕ → List ℕ → List ℕ → List ℕ
after_letter letter text [] = text
after_letter letter text (c ∷ cs) = if c == letter then cs else text

-- The text without its first part if that is digits and the letter.
abbrev pub after_part : ℕ → List ℕ → List ℕ
after_part letter [] = []
after_part letter (c ∷ cs) = if is_in_range 48 57 c then after_letter letter (c ∷ cs) (after_digits 57 cs) else c ∷ cs

-- What follows the first digits of seconds: `S`, or a point, digits and `S`.
abbrev pub ends_seconds : List ℕ → Bool
ends_seconds [] = false
ends_seconds (c ∷ []) = c == 83
ends_seconds (c ∷ d ∷ cs) = (c == 46) && is_in_range 48 57 d && bytes_eq (after_digits 57 cs) (codes "S")

abbrev pub is_seconds : List ℕ → Bool
is_seconds [] = true
is_seconds (c ∷ cs) = is_in_range 48 57 c && ends_seconds (after_digits 57 cs)

-- Hours, minutes and seconds, at least one of them.
abbrev pub is_clock_part : List ℕ → Bool
is_clock_part text = nat_lt 0 (length text) && is_seconds (after_part 77 (after_part 72 text))

-- The end of a text of parts, or its part after `T`.
abbrev pub ends_parts : List ℕ → List ℕ → Bool
ends_parts text [] = nat_lt 0 (length text)
ends_parts text (c ∷ cs) = (c == 84) && is_clock_part cs

abbrev pub are_parts : List ℕ → Bool
are_parts text = ends_parts text (after_part 68 (after_part 77 (after_part 89 text)))

abbrev pub is_unsigned_duration : List ℕ → Bool
is_unsigned_duration [] = false
is_unsigned_duration (c ∷ cs) = (c == 80) && are_parts cs

abbrev pub is_signed_duration : List ℕ → Bool
is_signed_duration [] = false
is_signed_duration (c ∷ cs) = if c == 45 then is_unsigned_duration cs else is_unsigned_duration (c ∷ cs)

unfoldable pub is_duration : List ℕ → Bool
is_duration text = is_signed_duration text
