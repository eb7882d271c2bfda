-- Dates and times (XML Schema Part 2, second edition, sections 3.2.7 to 3.2.14), in the years 0001
-- to 9999. Each form is given as a relation and as a test.
use Rattle.std.specs.Prelude.{◌≡◌, ◌⊎◌, ℕ, ◌+◌, ◌-◌, ◌*◌, ◌≤◌, ◌==◌, ◌&&◌, ◌||◌, nat_le, if◌then◌else◌, Bool, true, false, List, [], ◌∷◌, ◌++◌, codes}
use Rattle.std.specs.Int.{IsInRange, is_in_range}
use Rattle.std.specs.List.{AllByRecursion}
use Rattle.oim_period.specs.Calendar.{IsYear, is_year, IsDate, is_date}
use Rattle.oim_period.specs.Dates.{IsDateText}
use Rattle.oim_period.specs.Digits.{two, four, clock_text}
use Rattle.oim_schema.specs.Digits.{after_digits}
use Rattle.oim_schema.specs.declared.dates.DateForm.{DateForm}
use Rattle.oim_schema.specs.declared.dates.DateForm.TheVariants.{DateTime, Time, Date, GYear, GYearMonth, GMonth, GMonthDay, GDay}

-- The hours and minutes of a time zone: from 00:00 to 14:00.
abbrev pub IsOffset : ℕ → ℕ → Type 0
IsOffset hour minute = ((hour ≤ 13) × (minute ≤ 59)) ⊎ ((hour ≡ 14) × (minute ≡ 0))

-- A time zone: none, `Z`, or `+` or `-` and `hh:mm` (section 3.2.7.3).
pub data IsZone : List ℕ → Type 0 where
  none : IsZone []
  utc : IsZone (codes "Z")
  later : (hour minute : ℕ) → IsOffset hour minute → IsZone (codes "+" ++ two hour ++ codes ":" ++ two minute)
  earlier : (hour minute : ℕ) → IsOffset hour minute → IsZone (codes "-" ++ two hour ++ codes ":" ++ two minute)

-- A fraction of a second: none, or a point and one or more digits up to a greatest digit.
pub data IsFraction : ℕ → List ℕ → Type 0 where
  whole : (most : ℕ) → IsFraction most []
  point : (most digit : ℕ) (digits : List ℕ) → IsInRange 48 most digit → AllByRecursion (IsInRange 48 most) digits → IsFraction most (codes "." ++ digit ∷ digits)

-- `hh:mm:ss` and a fraction (section 3.2.8): a time that a clock shows, or the midnight that ends
-- the day, whose fraction is zeros.
pub data IsTimeText : List ℕ → Type 0 where
  clock : (hour minute second : ℕ) (fraction : List ℕ) → hour ≤ 23 → minute ≤ 59 → second ≤ 59 → IsFraction 57 fraction → IsTimeText (clock_text hour minute second ++ fraction)
  midnight : (fraction : List ℕ) → IsFraction 48 fraction → IsTimeText (codes "24:00:00" ++ fraction)

-- The eight forms, each with its time zone.
pub data IsDateForm : DateForm → List ℕ → Type 0 where
  date_time : (day time zone : List ℕ) → IsDateText day → IsTimeText time → IsZone zone → IsDateForm DateTime (day ++ codes "T" ++ time ++ zone)
  time : (time zone : List ℕ) → IsTimeText time → IsZone zone → IsDateForm Time (time ++ zone)
  date : (day zone : List ℕ) → IsDateText day → IsZone zone → IsDateForm Date (day ++ zone)
  year : (y : ℕ) (zone : List ℕ) → IsYear y → IsZone zone → IsDateForm GYear (four y ++ zone)
  year_month : (y m : ℕ) (zone : List ℕ) → IsYear y → IsInRange 1 12 m → IsZone zone → IsDateForm GYearMonth (four y ++ codes "-" ++ two m ++ zone)
  month : (m : ℕ) (zone : List ℕ) → IsInRange 1 12 m → IsZone zone → IsDateForm GMonth (codes "--" ++ two m ++ zone)
  -- The year 4 is a leap year, so it has every day that some year has.
  month_day : (m d : ℕ) (zone : List ℕ) → IsDate 4 m d → IsZone zone → IsDateForm GMonthDay (codes "--" ++ two m ++ codes "-" ++ two d ++ zone)
  day : (d : ℕ) (zone : List ℕ) → IsInRange 1 31 d → IsZone zone → IsDateForm GDay (codes "---" ++ two d ++ zone)

-- The same as tests. The number of two digits, or 10,000 for other characters: no part of a date or
-- a time is as great.
abbrev pub number : ℕ → ℕ → ℕ
number tens units = if is_in_range 48 57 tens && is_in_range 48 57 units then 10 * (tens - 48) + (units - 48) else 10_000

abbrev pub is_offset : ℕ → ℕ → Bool
is_offset hour minute = (nat_le hour 13 && nat_le minute 59) || ((hour == 14) && (minute == 0))

abbrev pub is_zone : List ℕ → Bool
is_zone [] = true
is_zone (c ∷ []) = c == 90
is_zone (sign ∷ a ∷ b ∷ mark ∷ c ∷ d ∷ []) = ((sign == 43) || (sign == 45)) && (mark == 58) && is_offset (number a b) (number c d)
is_zone _ = false

-- A fraction and a time zone.
abbrev pub is_fraction_zone : ℕ → List ℕ → Bool
is_fraction_zone most (c ∷ d ∷ cs) = if c == 46 then is_in_range 48 most d && is_zone (after_digits most cs) else is_zone (c ∷ d ∷ cs)
is_fraction_zone most cs = is_zone cs

abbrev pub is_clock_zone : ℕ → ℕ → ℕ → List ℕ → Bool
is_clock_zone hour minute second rest =
    if hour == 24 then (minute == 0) && (second == 0) && is_fraction_zone 48 rest
    else nat_le hour 23 && nat_le minute 59 && nat_le second 59 && is_fraction_zone 57 rest

abbrev pub is_time_zone : List ℕ → Bool
is_time_zone (a ∷ b ∷ mark ∷ c ∷ d ∷ mark₂ ∷ e ∷ f ∷ rest) = (mark == 58) && (mark₂ == 58) && is_clock_zone (number a b) (number c d) (number e f) rest
is_time_zone _ = false

-- The number of four digits.
abbrev pub year_number : (thousands hundreds tens units : ℕ) → ℕ
year_number thousands hundreds tens units = 100 * number thousands hundreds + number tens units

abbrev pub is_date_time_zone : List ℕ → Bool
is_date_time_zone (a ∷ b ∷ c ∷ d ∷ mark ∷ m ∷ n ∷ mark₂ ∷ t ∷ u ∷ mark₃ ∷ rest) =
    (mark == 45) && (mark₂ == 45) && (mark₃ == 84) && is_date (year_number a b c d) (number m n) (number t u) && is_time_zone rest
is_date_time_zone _ = false

abbrev pub is_date_zone : List ℕ → Bool
is_date_zone (a ∷ b ∷ c ∷ d ∷ mark ∷ m ∷ n ∷ mark₂ ∷ t ∷ u ∷ zone) =
    (mark == 45) && (mark₂ == 45) && is_date (year_number a b c d) (number m n) (number t u) && is_zone zone
is_date_zone _ = false

abbrev pub is_year_zone : List ℕ → Bool
is_year_zone (a ∷ b ∷ c ∷ d ∷ zone) = is_year (year_number a b c d) && is_zone zone
is_year_zone _ = false

abbrev pub is_year_month_zone : List ℕ → Bool
is_year_month_zone (a ∷ b ∷ c ∷ d ∷ mark ∷ m ∷ n ∷ zone) =
    (mark == 45) && is_year (year_number a b c d) && is_in_range 1 12 (number m n) && is_zone zone
is_year_month_zone _ = false

abbrev pub is_month_zone : List ℕ → Bool
is_month_zone (mark ∷ mark₂ ∷ m ∷ n ∷ zone) = (mark == 45) && (mark₂ == 45) && is_in_range 1 12 (number m n) && is_zone zone
is_month_zone _ = false

abbrev pub is_month_day_zone : List ℕ → Bool
is_month_day_zone (mark ∷ mark₂ ∷ m ∷ n ∷ mark₃ ∷ t ∷ u ∷ zone) =
    (mark == 45) && (mark₂ == 45) && (mark₃ == 45) && is_date 4 (number m n) (number t u) && is_zone zone
is_month_day_zone _ = false

abbrev pub is_day_zone : List ℕ → Bool
is_day_zone (mark ∷ mark₂ ∷ mark₃ ∷ t ∷ u ∷ zone) = (mark == 45) && (mark₂ == 45) && (mark₃ == 45) && is_in_range 1 31 (number t u) && is_zone zone
is_day_zone _ = false

unfoldable pub is_date_form : DateForm → List ℕ → Bool
is_date_form DateTime = is_date_time_zone
is_date_form Time = is_time_zone
is_date_form Date = is_date_zone
is_date_form GYear = is_year_zone
is_date_form GYearMonth = is_year_month_zone
is_date_form GMonth = is_month_zone
is_date_form GMonthDay = is_month_day_zone
is_date_form GDay = is_day_zone
