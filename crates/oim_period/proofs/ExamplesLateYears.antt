-- Texts of periods with the years of today's reports, and with the last ones. The results are from
-- the Gregorian calendar and ISO 8601. They are in their own file, because the days of late years
-- are counted slowly.
use Rattle.std.proofs.Common.{◌≡◌, ℕ, Bool, true, false, refl, List, [], ◌∷◌, Option, Some, None, is_some, option_map, codes}
use Rattle.std.specs.List.{list_any}
use Rattle.oim_period.specs.Calendar.{days_of_years, days_of_months, day_number, is_date, is_week, is_clock, day_limit}
use Rattle.oim_period.specs.Digits.{one_at, two_at, four_at}
use Rattle.oim_period.specs.Periods.{found, first_some, moment_by, moment_of, days_by, days_of, whole_days, in_order, pair_of, duration_of, without}
use Rattle.oim_period.specs.Periods.{period_of, first_number, year_of, month_of, date_in_year, day_text, moment_text, period_text}

-- The written form of the period that a text means.
unfoldable written : List ℕ → Option (List ℕ)
written text = option_map period_text (period_of text)

unfoldable means_something : List ℕ → Bool
means_something text = is_some (period_of text)

-- The days of 9,999 years.
limit : days_of_years 9999 ≡ day_limit
unfolding days_of_years
limit = refl

late_years :
    (written (codes "2020W53") ≡ Some (codes "2020-12-28T00:00:00/2021-01-04T00:00:00"))
    × (written (codes "2021-01-01..2021-12-31") ≡ Some (codes "2021-01-01T00:00:00/2022-01-01T00:00:00"))
unfolding written days_of_years days_of_months day_number is_date is_week is_clock one_at two_at four_at found first_some moment_by moment_of days_by days_of
    whole_days in_order pair_of duration_of without period_of first_number year_of month_of date_in_year day_text moment_text period_text
late_years = (refl, refl)

no_late_week : means_something (codes "2021W53") ≡ false
unfolding means_something days_of_years days_of_months day_number is_date is_week is_clock one_at two_at four_at found first_some moment_by moment_of days_by
    days_of whole_days in_order pair_of duration_of without period_of
no_late_week = refl

-- The last moments that a text may name.
last_times :
    (written (codes "9998") ≡ Some (codes "9998-01-01T00:00:00/9999-01-01T00:00:00"))
    × (written (codes "9999-12-30") ≡ Some (codes "9999-12-30T00:00:00/9999-12-31T00:00:00"))
    × (written (codes "9999-12-31T23:59:59") ≡ Some (codes "9999-12-31T23:59:59"))
unfolding written days_of_years days_of_months day_number is_date is_week is_clock one_at two_at four_at found first_some moment_by moment_of days_by days_of
    whole_days in_order pair_of duration_of without period_of first_number year_of month_of date_in_year day_text moment_text period_text
last_times = (refl, refl, refl)

-- An end after the last moment that a text may name.
after_the_last_time : list_any means_something (codes "9999" ∷ codes "9999-12" ∷ codes "9999-12-31" ∷ codes "9999W52" ∷ codes "9999-12-31T24:00:00" ∷ []) ≡ false
unfolding means_something days_of_years days_of_months day_number is_date is_week is_clock one_at two_at four_at found first_some moment_by moment_of days_by
    days_of whole_days in_order pair_of duration_of without period_of
after_the_last_time = refl
