-- The Gregorian calendar from the year 1 on, and the weeks of a year (ISO 8601). Day 0 is 1 January
-- of the year 1, a Monday. A day's number is the sum of the lengths of the years and months before
-- it. Each statement is next to its test.
use Rattle.std.specs.Prelude.{◌≡◌, ℕ, zero, suc, ◌+◌, ◌-◌, ◌*◌, ◌%◌, ◌<◌, ◌≤◌, Bool, not, ◌&&◌, ◌||◌, ◌==◌, if◌then◌else◌, ◌⊎◌, nat_le, nat_lt}
use Rattle.std.specs.Int.{IsInRange, is_in_range}

-- Leap years: every fourth year, but of the centuries only every fourth.
abbrev pub is_leap_year : ℕ → Bool
is_leap_year y = (y % 4 == 0) && (not (y % 100 == 0) || (y % 400 == 0))

abbrev pub days_in_year : ℕ → ℕ
days_in_year y = if is_leap_year y then 366 else 365

-- April, June, September and November have 30 days.
abbrev pub days_in_month : ℕ → ℕ → ℕ
days_in_month y m =
    if m == 2 then (if is_leap_year y then 29 else 28)
    else (if (m == 4) || (m == 6) || (m == 9) || (m == 11) then 30 else 31)

-- The count of days in the years 1 to n.
unfoldable pub days_of_years : ℕ → ℕ
days_of_years zero = 0
days_of_years (suc n) = days_of_years n + days_in_year (suc n)

-- The count of days in the first n months of a year.
unfoldable pub days_of_months : ℕ → ℕ → ℕ
days_of_months y zero = 0
days_of_months y (suc n) = days_of_months y n + days_in_month y (suc n)

-- The number of a day: the count of days before it since 1 January of the year 1.
unfoldable pub day_number : ℕ → ℕ → ℕ → ℕ
day_number y m d = days_of_years (y - 1) + days_of_months y (m - 1) + (d - 1)

-- The first day of a month. Month 13 is the next January.
abbrev pub month_start : ℕ → ℕ → ℕ
month_start y m = day_number y m 1

-- The count of days in the years 1 to 9999.
abbrev pub day_limit : ℕ
day_limit = 3_652_059

-- A year that a text may name.
abbrev pub IsYear : ℕ → Type 0
IsYear y = IsInRange 1 9999 y

abbrev pub is_year : ℕ → Bool
is_year y = is_in_range 1 9999 y

-- The calendar has this day.
abbrev pub IsDate : ℕ → ℕ → ℕ → Type 0
IsDate y m d = IsYear y × IsInRange 1 12 m × IsInRange 1 (days_in_month y m) d

unfoldable pub is_date : ℕ → ℕ → ℕ → Bool
is_date y m d = is_year y && is_in_range 1 12 m && is_in_range 1 (days_in_month y m) d

-- The Monday on or before a day.
abbrev pub monday_of : ℕ → ℕ
monday_of day = day - day % 7

-- The Monday of a week. Week 1 has 4 January.
abbrev pub week_start : ℕ → ℕ → ℕ
week_start y n = monday_of (day_number y 1 4) + 7 * (n - 1)

-- The Thursday of week n is in the year.
abbrev pub IsWeek : ℕ → ℕ → Type 0
IsWeek y n = IsYear y × (1 ≤ n) × (day_number y 1 1 ≤ week_start y n + 3) × (week_start y n + 3 < day_number (y + 1) 1 1)

unfoldable pub is_week : ℕ → ℕ → Bool
is_week y n = is_year y && nat_le 1 n && nat_le (day_number y 1 1) (week_start y n + 3) && nat_lt (week_start y n + 3) (day_number (y + 1) 1 1)

-- A time that a clock shows, or the midnight that ends the day.
abbrev pub IsClock : ℕ → ℕ → ℕ → Type 0
IsClock hour minute second =
    ((hour ≤ 23) × (minute ≤ 59) × (second ≤ 59)) ⊎ ((hour ≡ 24) × (minute ≡ 0) × (second ≡ 0))

unfoldable pub is_clock : ℕ → ℕ → ℕ → Bool
is_clock hour minute second =
    (nat_le hour 23 && nat_le minute 59 && nat_le second 59) || ((hour == 24) && (minute == 0) && (second == 0))

-- The midnight at which a day begins, in seconds since the year 1 began.
abbrev pub midnight : ℕ → ℕ
midnight day = 86_400 * day

-- A moment in seconds since the year 1 began, from its day and the second of that day.
abbrev pub seconds_at : ℕ → ℕ → ℕ
seconds_at day second = midnight day + second
