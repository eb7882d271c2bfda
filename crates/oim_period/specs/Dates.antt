-- Written dates as a table and as a test (ISO 8601, extended format, in the Gregorian calendar; XML
-- Schema Part 2, second edition: date without a time zone).
use Rattle.std.specs.Prelude.{ℕ, Bool, ◌&&◌, List}
use Rattle.std.specs.Str.{bytes_eq}
use Rattle.oim_period.specs.Calendar.{IsDate, is_date}
use Rattle.oim_period.specs.Digits.{date_text, four_at, two_at}

-- `yyyy-mm-dd`, of a day that the calendar has.
pub data IsDateText : List ℕ → Type 0 where
  written : (y m d : ℕ) → IsDate y m d → IsDateText (date_text y m d)

-- The numbers at the places of year, month and day give the text again when written as a date, and
-- the calendar has the day.
abbrev pub is_written_date : List ℕ → ℕ → ℕ → ℕ → Bool
is_written_date text y m d = bytes_eq text (date_text y m d) && is_date y m d

unfoldable pub is_date_text : List ℕ → Bool
is_date_text text = is_written_date text (four_at 0 text) (two_at 5 text) (two_at 8 text)
