-- What the readers of a period's parts return, where a duration starts and ends, and the date of a
-- day.
use Rattle.std.specs.Prelude.{◌≡◌, ℕ, ◌/◌, ◌%◌, ◌≤◌, Option, None, Some, ℤ, pos}
use Rattle.oim_period.specs.Calendar.{day_limit, IsDate, day_number}
use Rattle.oim_period.specs.Digits.{digit}
use Rattle.oim_period.specs.declared.days.Days.{Days}
use Rattle.oim_period.specs.declared.period.Span.{Span}
use Rattle.oim_period.specs.Reads.{seconds_of}

-- These four characters are the digits of a number.
abbrev pub AreDigits : ℕ → (thousands hundreds tens units : ℕ) → Type 0
AreDigits n thousands hundreds tens units =
    (thousands ≡ digit (n / 100 / 10)) × (hundreds ≡ digit (n / 100 % 10)) × (tens ≡ digit (n % 100 / 10)) × (units ≡ digit (n % 100 % 10))

-- The option is the relation's only pair of days, or `None` if the day after them is not in the
-- years that a text may name.
abbrev pub IsRead : (ℕ → ℕ → Type 0) → Option Days → Type 0
IsRead P None = (first after : ℕ) → P first after → day_limit ≤ after
IsRead P (Some d) = P d.first d.after × ((first after : ℕ) → P first after → (first ≡ d.first) × (after ≡ d.after))

-- A duration, by the seconds at which it starts and ends.
abbrev pub ends_of : Span → ℕ × ℕ
ends_of s = (seconds_of s.start, seconds_of s.end)

-- The date of a day.
abbrev pub IsDateOf : ℕ → ℤ → ℕ → ℕ → Type 0
IsDateOf day year m d = (y : ℕ) × (year ≡ pos y) × IsDate y m d × (day_number y m d ≡ day)
