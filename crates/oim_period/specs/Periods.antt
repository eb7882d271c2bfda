-- The period that a text means, and the text of a period (Open Information Model 1.0; xBRL-CSV 1.0,
-- the short forms of periods). A period is given by its moments, and a moment by its seconds since
-- the year 1 began. To test a form, the numbers at its places are read and written in the form
-- again. The result must be the text itself.
use Rattle.std.specs.Prelude.{ℕ, zero, suc, ◌+◌, ◌-◌, ◌*◌, ◌/◌, ◌%◌, Bool, true, ◌&&◌, nat_le, nat_lt, if◌then◌else◌, List, [], ◌∷◌, ◌++◌, length, take, drop, codes}
use Rattle.std.specs.Prelude.{Option, None, Some, option_map, option_and_then, bytes_eq}
use Rattle.std.specs.Int.{is_in_range}
use Rattle.oim_period.specs.Calendar.{days_of_years, days_of_months, is_year, is_date, is_week, is_clock, day_number, day_limit, month_start, week_start, midnight, seconds_at}
use Rattle.oim_period.specs.Digits.{one, two, four, date_text, clock_text, one_at, two_at, four_at}

-- A period, by its moments.
pub data Reading : Type 0 where
  instant : ℕ → Reading
  duration : ℕ → ℕ → Reading

-- The value, if the text is the written one and the numbers are right.
unfoldable pub found : {A : Type 0} → List ℕ → List ℕ → Bool → A → Option A
found text written right value = if bytes_eq text written && right then Some value else None

-- The first value that exists.
unfoldable pub first_some : {A : Type 0} → List (Option A) → Option A
first_some [] = None
first_some (None ∷ rest) = first_some rest
first_some (Some value ∷ rest) = Some value

-- The moment of a date and a time, in seconds.
unfoldable pub moment_by : List ℕ → ℕ → ℕ → ℕ → ℕ → ℕ → ℕ → Option ℕ
moment_by text y m d hour minute second =
    let at = seconds_at (day_number y m d) (3600 * hour + 60 * minute + second) in
    found text (date_text y m d ++ codes "T" ++ clock_text hour minute second) (is_date y m d && is_clock hour minute second && nat_lt at (midnight day_limit)) at

unfoldable pub moment_of : List ℕ → Option ℕ
moment_of text = moment_by text (four_at 0 text) (two_at 5 text) (two_at 8 text) (two_at 11 text) (two_at 14 text) (two_at 17 text)

-- The first of the days that a text names and the day after the last, from its numbers. These are
-- the year, a number of one digit and one of two after the year and a mark, and the day of the
-- month. The last three are a second date.
unfoldable pub days_by : List ℕ → ℕ → ℕ → ℕ → ℕ → ℕ → ℕ → ℕ → Option (ℕ × ℕ)
days_by text y n m d y₂ m₂ d₂ =
    first_some (
    found text (four y) (is_year y) (month_start y 1, month_start y 13)
    ∷ found text (four y ++ codes "-" ++ two m) (is_year y && is_in_range 1 12 m) (month_start y m, month_start y (m + 1))
    ∷ found text (four y ++ codes "Q" ++ one n) (is_year y && is_in_range 1 4 n) (month_start y (3 * n - 2), month_start y (3 * n + 1))
    ∷ found text (four y ++ codes "H" ++ one n) (is_year y && is_in_range 1 2 n) (month_start y (6 * n - 5), month_start y (6 * n + 1))
    ∷ found text (four y ++ codes "W" ++ one n) (nat_le n 9 && is_week y n) (week_start y n, week_start y n + 7)
    ∷ found text (four y ++ codes "W" ++ two m) (nat_le m 99 && is_week y m) (week_start y m, week_start y m + 7)
    ∷ found text (date_text y m d) (is_date y m d) (day_number y m d, day_number y m d + 1)
    ∷ found text (date_text y m d ++ codes ".." ++ date_text y₂ m₂ d₂) (is_date y m d && is_date y₂ m₂ d₂ && nat_le (day_number y m d) (day_number y₂ m₂ d₂))
    (day_number y m d, day_number y₂ m₂ d₂ + 1)
    ∷ [])

unfoldable pub days_of : List ℕ → Option (ℕ × ℕ)
days_of text = days_by text (four_at 0 text) (one_at 5 text) (two_at 5 text) (two_at 8 text) (four_at 12 text) (two_at 17 text) (two_at 20 text)

-- Whole days, from midnight to midnight, if the last midnight is in the years that a text may name.
unfoldable pub whole_days : Option (ℕ × ℕ) → Option (ℕ × ℕ)
whole_days None = None
whole_days (Some e) = if nat_lt e.1 day_limit then Some (midnight e.0, midnight e.1) else None

-- Two moments, the first before the second.
unfoldable pub in_order : Option ℕ → Option ℕ → Option (ℕ × ℕ)
in_order None end = None
in_order (Some start) None = None
in_order (Some start) (Some end) = if nat_lt start end then Some (start, end) else None

-- The two halves of a text with `/` between them.
unfoldable pub pair_of : List ℕ → Option (ℕ × ℕ)
pair_of text =
    option_and_then (λ halves. in_order (moment_of (take 19 text)) (moment_of (drop 20 text)))
    (found text (take 19 text ++ codes "/" ++ drop 20 text) true text)

-- The start and the end of the duration that a text names.
unfoldable pub duration_of : List ℕ → Option (ℕ × ℕ)
duration_of text = first_some (whole_days (days_of text) ∷ pair_of text ∷ [])

-- A text without a mark at its end, or `None` if it does not end with the mark.
unfoldable pub without : List ℕ → List ℕ → Option (List ℕ)
without mark text = let front = take (length text - length mark) text in found text (front ++ mark) true front

-- The period that a text means, or `None` if it means none.
unfoldable pub period_of : List ℕ → Option Reading
period_of text =
    first_some (
    option_map instant (moment_of text)
    ∷ option_map (λ e. duration e.0 e.1) (duration_of text)
    ∷ option_map (λ e. instant e.0) (option_and_then duration_of (without (codes "@start") text))
    ∷ option_map (λ e. instant e.1) (option_and_then duration_of (without (codes "@end") text))
    ∷ [])

-- The start and the end of a duration. An instant has neither.
unfoldable pub start_of : Reading → Option Reading
start_of (instant at) = None
start_of (duration start end) = Some (instant start)

unfoldable pub end_of : Reading → Option Reading
end_of (instant at) = None
end_of (duration start end) = Some (instant end)

-- The first of n numbers, from the lowest up, that passes.
unfoldable pub first_number : (ℕ → Bool) → ℕ → ℕ → ℕ
first_number test zero low = low
first_number test (suc n) low = if test low then low else first_number test n (low + 1)

-- The year of a day: the first that ends after the day. A year has at most 366 days.
unfoldable pub year_of : ℕ → ℕ
year_of day = first_number (λ y. nat_lt day (days_of_years y)) 30 (day / 366 + 1)

-- The month of a day of a year. Day 0 is 1 January.
unfoldable pub month_of : ℕ → ℕ → ℕ
month_of y day = first_number (λ m. nat_lt day (days_of_months y m)) 12 1

-- The written date of a day of a year.
unfoldable pub date_in_year : ℕ → ℕ → List ℕ
date_in_year y day = let m = month_of y day in date_text y m (day - days_of_months y (m - 1) + 1)

-- The written date of a day.
unfoldable pub day_text : ℕ → List ℕ
day_text day = let y = year_of day in date_in_year y (day - days_of_years (y - 1))

-- The written form of a moment: `yyyy-mm-ddThh:mm:ss`.
unfoldable pub moment_text : ℕ → List ℕ
moment_text at =
    let second = at % 86_400 in
    day_text (at / 86_400) ++ codes "T" ++ clock_text (second / 3600) (second / 60 % 60) (second % 60)

-- The written form of a period: its moment, or its two moments with `/` between them.
unfoldable pub period_text : Reading → List ℕ
period_text (instant at) = moment_text at
period_text (duration start end) = moment_text start ++ codes "/" ++ moment_text end
