-- The forms of a period and what each means, one constructor for each form (Open Information Model
-- 1.0; xBRL-CSV 1.0, the short forms of periods; ISO 8601 for dates, times and weeks). A moment is
-- given by its seconds since the year 1 began.
use Rattle.std.specs.Prelude.{ℕ, ◌+◌, ◌-◌, ◌*◌, ◌<◌, ◌≤◌, List, [], ◌++◌, codes}
use Rattle.std.specs.Int.{IsInRange}
use Rattle.oim_period.specs.Calendar.{IsYear, IsDate, IsWeek, IsClock, day_number, month_start, week_start, day_limit, midnight, seconds_at}
use Rattle.oim_period.specs.Digits.{one, two, four, date_text, clock_text}
use Rattle.oim_period.specs.Periods.{Reading, instant, duration}

-- The text after the year, the first day that the whole text names, and the day after the last.
pub data InYear : ℕ → List ℕ → ℕ → ℕ → Type 0 where
  year : (y : ℕ) → InYear y [] (month_start y 1) (month_start y 13)
  month : (y m : ℕ) → IsInRange 1 12 m → InYear y (codes "-" ++ two m) (month_start y m) (month_start y (m + 1))
  quarter : (y q : ℕ) → IsInRange 1 4 q → InYear y (codes "Q" ++ one q) (month_start y (3 * q - 2)) (month_start y (3 * q + 1))
  half : (y h : ℕ) → IsInRange 1 2 h → InYear y (codes "H" ++ one h) (month_start y (6 * h - 5)) (month_start y (6 * h + 1))
  week_of_one_digit : (y n : ℕ) → n ≤ 9 → IsWeek y n → InYear y (codes "W" ++ one n) (week_start y n) (week_start y n + 7)
  week : (y n : ℕ) → n ≤ 99 → IsWeek y n → InYear y (codes "W" ++ two n) (week_start y n) (week_start y n + 7)
  day : (y m d : ℕ) → IsDate y m d → InYear y (codes "-" ++ two m ++ codes "-" ++ two d) (day_number y m d) (day_number y m d + 1)

-- A written date, and the number of its day.
pub data IsDay : List ℕ → ℕ → Type 0 where
  date : (y m d : ℕ) → IsDate y m d → IsDay (date_text y m d) (day_number y m d)

-- A written time, and its second of the day.
pub data IsTime : List ℕ → ℕ → Type 0 where
  clock : (hour minute second : ℕ) → IsClock hour minute second → IsTime (clock_text hour minute second) (3600 * hour + 60 * minute + second)

-- A date and a time.
pub data IsMoment : List ℕ → ℕ → Type 0 where
  date_time : (text text₂ : List ℕ) (day second : ℕ) → IsDay text day → IsTime text₂ second → seconds_at day second < midnight day_limit
      → IsMoment (text ++ codes "T" ++ text₂) (seconds_at day second)

-- The text names the days from `first` to `after`, without `after`.
pub data IsDays : List ℕ → ℕ → ℕ → Type 0 where
  in_year : (y : ℕ) (tail : List ℕ) (first after : ℕ) → IsYear y → InYear y tail first after → IsDays (four y ++ tail) first after
  range : (text text₂ : List ℕ) (first last : ℕ) → IsDay text first → IsDay text₂ last → first ≤ last → IsDays (text ++ codes ".." ++ text₂) first (last + 1)

-- The text names the duration from one moment to a later one.
pub data IsDuration : List ℕ → ℕ → ℕ → Type 0 where
  days : (text : List ℕ) (first after : ℕ) → IsDays text first after → after < day_limit → IsDuration text (midnight first) (midnight after)
  moments : (text text₂ : List ℕ) (start end : ℕ) → IsMoment text start → IsMoment text₂ end → start < end → IsDuration (text ++ codes "/" ++ text₂) start end

-- The text means the period.
pub data Means : List ℕ → Reading → Type 0 where
  moment : (text : List ℕ) (at : ℕ) → IsMoment text at → Means text (instant at)
  span : (text : List ℕ) (start end : ℕ) → IsDuration text start end → Means text (duration start end)
  at_start : (text : List ℕ) (start end : ℕ) → IsDuration text start end → Means (text ++ codes "@start") (instant start)
  at_end : (text : List ℕ) (start end : ℕ) → IsDuration text start end → Means (text ++ codes "@end") (instant end)

-- The written form of a moment.
pub data IsWrittenMoment : List ℕ → ℕ → Type 0 where
  written : (y m d hour minute second : ℕ) → IsDate y m d → hour ≤ 23 → minute ≤ 59 → second ≤ 59
      → IsWrittenMoment (date_text y m d ++ codes "T" ++ clock_text hour minute second) (seconds_at (day_number y m d) (3600 * hour + 60 * minute + second))

-- The written form of a period.
pub data IsWritten : List ℕ → Reading → Type 0 where
  one_moment : (text : List ℕ) (at : ℕ) → IsWrittenMoment text at → IsWritten text (instant at)
  two_moments : (text text₂ : List ℕ) (start end : ℕ) → IsWrittenMoment text start → IsWrittenMoment text₂ end → IsWritten (text ++ codes "/" ++ text₂) (duration start end)
