-- Texts of periods and what each means, in the written form. The results are from the Gregorian
-- calendar and ISO 8601. The years are early ones, because their days are counted fast;
-- `ExamplesLateYears` has the others.
use Rattle.std.proofs.Common.{◌≡◌, ℕ, Bool, true, false, refl, List, [], ◌∷◌, Option, Some, None, is_some, option_map, codes, map}
use Rattle.std.specs.List.{list_all, list_any}
use Rattle.oim_period.specs.Calendar.{days_of_years, days_of_months, day_number, is_date, is_week, is_clock, days_in_year, days_in_month}
use Rattle.oim_period.specs.Dates.{is_date_text}
use Rattle.oim_period.specs.Digits.{one_at, two_at, four_at}
use Rattle.oim_period.specs.Periods.{instant, duration, found, first_some, moment_by, moment_of, days_by, days_of, whole_days, in_order, pair_of, duration_of, without}
use Rattle.oim_period.specs.state.Reads.{AreDigits}
use Rattle.oim_period.specs.Periods.{period_of, start_of, end_of, first_number, year_of, month_of, date_in_year, day_text, moment_text, period_text}

-- The written form of the period that a text means.
unfoldable written : List ℕ → Option (List ℕ)
written text = option_map period_text (period_of text)

unfoldable means_something : List ℕ → Bool
means_something text = is_some (period_of text)

-- THE CALENDAR: each month, leap years, and the day limit.
years : map days_in_year (4 ∷ 5 ∷ 100 ∷ 400 ∷ 2000 ∷ 2100 ∷ []) ≡ 366 ∷ 365 ∷ 365 ∷ 366 ∷ 366 ∷ 365 ∷ []
years = refl

months :
    (map (days_in_month 5) (1 ∷ 2 ∷ 3 ∷ 4 ∷ 5 ∷ 6 ∷ 7 ∷ 8 ∷ 9 ∷ 10 ∷ 11 ∷ 12 ∷ []) ≡ 31 ∷ 28 ∷ 31 ∷ 30 ∷ 31 ∷ 30 ∷ 31 ∷ 31 ∷ 30 ∷ 31 ∷ 30 ∷ 31 ∷ [])
    × (days_in_month 4 2 ≡ 29)
months = (refl, refl)

dates : list_all (is_date 9999 12) (1 ∷ 31 ∷ []) ≡ true
unfolding is_date
dates = refl

no_dates : (list_any (is_date 5 4) (0 ∷ 31 ∷ []) ≡ false) × (list_any (λ m. is_date 5 m 1) (0 ∷ 13 ∷ []) ≡ false) × (list_any (λ y. is_date y 1 1) (0 ∷ 10_000 ∷ []) ≡ false)
unfolding is_date
no_dates = (refl, refl, refl)

clocks : (is_clock 0 0 0 ≡ true) × (is_clock 23 59 59 ≡ true) × (is_clock 24 0 0 ≡ true)
unfolding is_clock
clocks = (refl, refl, refl)

no_clocks : (is_clock 24 0 1 ≡ false) × (is_clock 24 1 0 ≡ false) × (is_clock 25 0 0 ≡ false) × (is_clock 0 60 0 ≡ false) × (is_clock 0 0 60 ≡ false)
unfolding is_clock
no_clocks = (refl, refl, refl, refl, refl)

-- THE DIGITS of a year, with leading zeros in a low one.
digits_of_years : AreDigits 2007 50 48 48 55 × AreDigits 45 48 48 52 53
digits_of_years = ((refl, refl, refl, refl), (refl, refl, refl, refl))

-- WRITTEN DATES (ISO 8601), up to the last day of the year 9999.
written_dates : list_all is_date_text (codes "2024-02-29" ∷ codes "0001-01-01" ∷ codes "9999-12-31" ∷ codes "2000-02-29" ∷ []) ≡ true
unfolding is_date is_date_text two_at four_at
written_dates = refl

-- Days that the calendar does not have, a time zone, too few or too many digits, blanks, other
-- marks, and a form of a period.
no_written_dates :
    list_any is_date_text
    ([] ∷ codes "2023-02-29" ∷ codes "1900-02-29" ∷ codes "2024-13-01" ∷ codes "2024-00-01" ∷ codes "2024-04-31" ∷ codes "0000-01-01" ∷ codes "2024-02-29Z"
    ∷ codes "24-2-29" ∷ codes "-2024-02-29" ∷ codes "12024-02-29" ∷ codes " 2024-02-29" ∷ codes "2024/02/29" ∷ codes "2024-02" ∷ codes "2024-02-29T00:00:00"
    ∷ codes "202:-02-29" ∷ [])
    ≡ false
unfolding is_date is_date_text two_at four_at
no_written_dates = refl

-- THE SIDES of a duration (xBRL-CSV 1.0). An instant has neither.
starts : (start_of (duration 1 2) ≡ Some (instant 1)) × (start_of (instant 1) ≡ None)
unfolding start_of
starts = (refl, refl)

ends : (end_of (duration 1 2) ≡ Some (instant 2)) × (end_of (instant 1) ≡ None)
unfolding end_of
ends = (refl, refl)

-- TEXTS AND THEIR PERIODS (xBRL-CSV 1.0, the short forms of periods). Years, months, quarters and
-- half years, each at its limits.
years_to_half_years :
    (written (codes "0001") ≡ Some (codes "0001-01-01T00:00:00/0002-01-01T00:00:00"))
    × (written (codes "0005-01") ≡ Some (codes "0005-01-01T00:00:00/0005-02-01T00:00:00"))
    × (written (codes "0004-02") ≡ Some (codes "0004-02-01T00:00:00/0004-03-01T00:00:00"))
    × (written (codes "0005-12") ≡ Some (codes "0005-12-01T00:00:00/0006-01-01T00:00:00"))
    × (written (codes "0005Q1") ≡ Some (codes "0005-01-01T00:00:00/0005-04-01T00:00:00"))
    × (written (codes "0005Q2") ≡ Some (codes "0005-04-01T00:00:00/0005-07-01T00:00:00"))
    × (written (codes "0005Q4") ≡ Some (codes "0005-10-01T00:00:00/0006-01-01T00:00:00"))
    × (written (codes "0005H1") ≡ Some (codes "0005-01-01T00:00:00/0005-07-01T00:00:00"))
    × (written (codes "0005H2") ≡ Some (codes "0005-07-01T00:00:00/0006-01-01T00:00:00"))
unfolding written days_of_years days_of_months day_number is_date is_week is_clock one_at two_at four_at found first_some moment_by moment_of days_by days_of
    whole_days in_order pair_of duration_of without period_of first_number year_of month_of date_in_year day_text moment_text period_text
years_to_half_years = (refl, refl, refl, refl, refl, refl, refl, refl, refl)

-- Weeks (ISO 8601): 4 January is in the first, and a long year has 53. The year 4 begins with a
-- Thursday.
weeks :
    (written (codes "0001W1") ≡ Some (codes "0001-01-01T00:00:00/0001-01-08T00:00:00"))
    × (written (codes "0002W1") ≡ Some (codes "0001-12-31T00:00:00/0002-01-07T00:00:00"))
    × (written (codes "0004W1") ≡ Some (codes "0003-12-29T00:00:00/0004-01-05T00:00:00"))
    × (written (codes "0005W1") ≡ Some (codes "0005-01-03T00:00:00/0005-01-10T00:00:00"))
    × (written (codes "0005W9") ≡ Some (codes "0005-02-28T00:00:00/0005-03-07T00:00:00"))
    × (written (codes "0005W09") ≡ Some (codes "0005-02-28T00:00:00/0005-03-07T00:00:00"))
    × (written (codes "0005W10") ≡ Some (codes "0005-03-07T00:00:00/0005-03-14T00:00:00"))
    × (written (codes "0005W52") ≡ Some (codes "0005-12-26T00:00:00/0006-01-02T00:00:00"))
    × (written (codes "0004W53") ≡ Some (codes "0004-12-27T00:00:00/0005-01-03T00:00:00"))
    × (written (codes "0009W53") ≡ Some (codes "0009-12-28T00:00:00/0010-01-04T00:00:00"))
    × (written (codes "0010W1") ≡ Some (codes "0010-01-04T00:00:00/0010-01-11T00:00:00"))
unfolding written days_of_years days_of_months day_number is_date is_week is_clock one_at two_at four_at found first_some moment_by moment_of days_by days_of
    whole_days in_order pair_of duration_of without period_of first_number year_of month_of date_in_year day_text moment_text period_text
weeks = (refl, refl, refl, refl, refl, refl, refl, refl, refl, refl, refl)

-- Days and ranges of days. The shortest range is one day.
days :
    (written (codes "0004-02-29") ≡ Some (codes "0004-02-29T00:00:00/0004-03-01T00:00:00"))
    × (written (codes "0005-12-31") ≡ Some (codes "0005-12-31T00:00:00/0006-01-01T00:00:00"))
    × (written (codes "0005-06-30..0005-06-30") ≡ Some (codes "0005-06-30T00:00:00/0005-07-01T00:00:00"))
    × (written (codes "0004-12-31..0005-01-01") ≡ Some (codes "0004-12-31T00:00:00/0005-01-02T00:00:00"))
unfolding written days_of_years days_of_months day_number is_date is_week is_clock one_at two_at four_at found first_some moment_by moment_of days_by days_of
    whole_days in_order pair_of duration_of without period_of first_number year_of month_of date_in_year day_text moment_text period_text
days = (refl, refl, refl, refl)

-- Moments, and durations between two.
moments :
    (written (codes "0001-01-01T00:00:00") ≡ Some (codes "0001-01-01T00:00:00"))
    × (written (codes "0001-01-01T01:00:00") ≡ Some (codes "0001-01-01T01:00:00"))
    × (written (codes "0001-01-01T23:01:00") ≡ Some (codes "0001-01-01T23:01:00"))
    × (written (codes "0004-02-29T23:59:59") ≡ Some (codes "0004-02-29T23:59:59"))
    × (written (codes "0005-12-31T24:00:00") ≡ Some (codes "0006-01-01T00:00:00"))
    × (written (codes "0005-03-31T12:30:05/0005-03-31T12:30:06") ≡ Some (codes "0005-03-31T12:30:05/0005-03-31T12:30:06"))
    × (written (codes "0005-03-31T12:30:05/0005-12-31T24:00:00") ≡ Some (codes "0005-03-31T12:30:05/0006-01-01T00:00:00"))
unfolding written days_of_years days_of_months day_number is_date is_week is_clock one_at two_at four_at found first_some moment_by moment_of days_by days_of
    whole_days in_order pair_of duration_of without period_of first_number year_of month_of date_in_year day_text moment_text period_text
moments = (refl, refl, refl, refl, refl, refl, refl)

-- The sides of a duration.
sides :
    (written (codes "0005@start") ≡ Some (codes "0005-01-01T00:00:00"))
    × (written (codes "0005-12@end") ≡ Some (codes "0006-01-01T00:00:00"))
    × (written (codes "0005Q4@start") ≡ Some (codes "0005-10-01T00:00:00"))
    × (written (codes "0005H1@end") ≡ Some (codes "0005-07-01T00:00:00"))
    × (written (codes "0005W1@start") ≡ Some (codes "0005-01-03T00:00:00"))
    × (written (codes "0005-06-30@end") ≡ Some (codes "0005-07-01T00:00:00"))
    × (written (codes "0005-06-30..0005-07-01@end") ≡ Some (codes "0005-07-02T00:00:00"))
    × (written (codes "0005-03-31T12:30:05/0005-03-31T12:30:06@start") ≡ Some (codes "0005-03-31T12:30:05"))
    × (written (codes "0005-03-31T12:30:05/0005-03-31T12:30:06@end") ≡ Some (codes "0005-03-31T12:30:06"))
unfolding written days_of_years days_of_months day_number is_date is_week is_clock one_at two_at four_at found first_some moment_by moment_of days_by days_of
    whole_days in_order pair_of duration_of without period_of first_number year_of month_of date_in_year day_text moment_text period_text
sides = (refl, refl, refl, refl, refl, refl, refl, refl, refl)

-- Numbers that are too large or too small.
no_whole_days :
    list_any means_something
    (codes "0000" ∷ codes "0005-00" ∷ codes "0005-13" ∷ codes "0005Q0" ∷ codes "0005Q5" ∷ codes "0005H0" ∷ codes "0005H3" ∷ codes "0005W0" ∷ codes "0005W00"
    ∷ codes "0003W53" ∷ codes "0005W53" ∷ codes "0003-02-29" ∷ codes "0005-06-00" ∷ codes "0005-04-31" ∷ [])
    ≡ false
unfolding means_something days_of_years days_of_months day_number is_date is_week is_clock one_at two_at four_at found first_some moment_by moment_of days_by
    days_of whole_days in_order pair_of duration_of without period_of
no_whole_days = refl

-- Ranges and pairs in the wrong order, and times that clocks do not show.
no_ranges_and_moments :
    list_any means_something
    (codes "0005-06-30..0005-06-29" ∷ codes "0003-02-29..0003-03-01" ∷ codes "0003-02-28..0003-02-29" ∷ codes "0005-12-31T23:59:60" ∷ codes "0005-12-31T23:60:00"
    ∷ codes "0005-12-31T24:00:01" ∷ codes "0005-12-31T25:00:00" ∷ codes "0003-02-29T00:00:00" ∷ codes "0005-01-01T00:00:00/0005-01-01T00:00:00"
    ∷ codes "0005-01-01T00:00:01/0005-01-01T00:00:00" ∷ [])
    ≡ false
unfolding means_something days_of_years days_of_months day_number is_date is_week is_clock one_at two_at four_at found first_some moment_by moment_of days_by
    days_of whole_days in_order pair_of duration_of without period_of
no_ranges_and_moments = refl

-- A side of an instant, of a side or of nothing.
no_sides :
    list_any means_something
    (codes "0005-12-31T00:00:00@end" ∷ codes "0005-12-31T00:00:00@start" ∷ codes "0005@start@end" ∷ codes "@start" ∷ codes "@end" ∷ codes "0005@"
    ∷ codes "0005@Start" ∷ codes "0000@end" ∷ [])
    ≡ false
unfolding means_something days_of_years days_of_months day_number is_date is_week is_clock one_at two_at four_at found first_some moment_by moment_of days_by
    days_of whole_days in_order pair_of duration_of without period_of
no_sides = refl

-- Other forms: small letters, blanks, too few or too many digits, other marks.
no_forms :
    list_any means_something
    ([] ∷ codes "5" ∷ codes "005" ∷ codes "00005" ∷ codes "0005-1" ∷ codes "0005-1-1" ∷ codes "0005Q" ∷ codes "0005Q01" ∷ codes "0005q1" ∷ codes "0005h1"
    ∷ codes "0005w1" ∷ codes "0005W" ∷ codes "0005W001" ∷ codes "0005-01-01t00:00:00" ∷ codes "0005-01-01 00:00:00" ∷ codes "0005-01-01T00:00"
    ∷ codes "0005-01-01T00:00:00Z" ∷ codes " 0005" ∷ codes "0005 " ∷ codes "0005/01" ∷ codes "0005-01-01.0005-01-02" ∷ codes "0005-01-01/0005-01-02"
    ∷ codes "0005-01-01T00:00:00-0005-01-02T00:00:00" ∷ codes "00:5" ∷ codes "000/" ∷ codes "0005W:" ∷ [])
    ≡ false
unfolding means_something days_of_years days_of_months day_number is_date is_week is_clock one_at two_at four_at found first_some moment_by moment_of days_by
    days_of whole_days in_order pair_of duration_of without period_of
no_forms = refl
