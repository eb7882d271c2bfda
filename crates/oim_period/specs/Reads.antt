-- A period of the program as its moments in seconds (Open Information Model 1.0, the period core
-- dimension). And what it means that a reader returns a relation's only value.
use Rattle.std.specs.Prelude.{◌≡◌, ℕ, Option, None, Some}
use Rattle.oim_period.specs.Calendar.{seconds_at}
use Rattle.oim_period.specs.Periods.{Reading, instant, duration}
use Rattle.oim_period.specs.declared.period.Moment.{Moment}
use Rattle.oim_period.specs.declared.period.Period.{Period}
use Rattle.oim_period.specs.declared.period.Period.TheVariants.{Instant, Duration}

-- The option is the only value of the relation, or `None` if it has no value.
abbrev pub IsOnly : {A : Type 0} → (A → Type 0) → Option A → Type 0
IsOnly {A} P None = (x : A) → P x → ⊥
IsOnly {A} P (Some y) = P y × ((x : A) → P x → x ≡ y)

-- A moment in seconds.
abbrev pub seconds_of : Moment → ℕ
seconds_of m = seconds_at m.day m.second

-- A period, by its moments in seconds.
abbrev pub reading_of : Period → Reading
reading_of (Instant m) = instant (seconds_of m)
reading_of (Duration s) = duration (seconds_of s.start) (seconds_of s.end)
