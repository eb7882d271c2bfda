-- `period_text` is the written form, and the only one.
use Rattle.std.proofs.Common.{◌≡◌, ℕ, zero, suc, ◌+◌, ◌-◌, ◌*◌, ◌/◌, ◌%◌, ◌<◌, ◌≤◌, Bool, true, false, nat_lt, List, Some, refl, arith}
use Rattle.std.proofs.lemmas.Bool.Decides.{nat_tests}
use Rattle.oim_period.specs.Calendar.{days_of_years, days_of_months, days_in_year, days_in_month, day_number, day_limit, midnight, IsDate, seconds_at}
use Rattle.oim_period.specs.Digits.{date_text}
use Rattle.oim_period.specs.Periods.{Reading, instant, duration, first_number, year_of, month_of, date_in_year, day_text, moment_text, period_of, period_text}
use Rattle.oim_period.specs.Table.{IsWrittenMoment, written, IsWritten, one_moment, two_moments, moment, span, moments}
use Rattle.oim_period.proofs.Ends.{moment_of_written}
use Rattle.oim_period.proofs.FoundPeriods.{period_found}

first_number_is : (test : ℕ → Bool) (n low y : ℕ) → low ≤ y → y ≤ low + n → test y ≡ true → ((k : ℕ) → k < y → test k ≡ false) → first_number test n low ≡ y
unfolding first_number
first_number_is test zero low y h k e f = omega arith
first_number_is test (suc n) low y h k e f =
    by (nat_lt low y) refl (λ l. first_number_is test n (low + 1) y (omega arith) (omega arith) e f)
  where
    by : (b : Bool) → nat_lt low y ≡ b → (low < y → first_number test n (low + 1) ≡ y) → first_number test (suc n) low ≡ y
    by true g next =
        let less : low < y = grind (arith, nat_tests) in
        let no = f low less in
        rw no (next less)
    by false g next =
        let same : low ≡ y = grind (arith, nat_tests) in
        rw (same, e) refl

grows : (f : ℕ → ℕ) → ((n : ℕ) → f n ≤ f (suc n)) → (a k : ℕ) → f a ≤ f (k + a)
grows f h a zero = let e : zero + a ≡ a = omega arith in rw e (omega arith)
grows f h a (suc k) = let e : suc k + a ≡ suc (k + a) = omega arith in rw e (omega (arith, grows f h a k, h (k + a)))

up_to : (f : ℕ → ℕ) → ((n : ℕ) → f n ≤ f (suc n)) → (a b : ℕ) → a ≤ b → f a ≤ f b
up_to f h a b l = let e : b - a + a ≡ b = omega arith in rw e at (grows f h a (b - a))

year_length : (y : ℕ) → (365 ≤ days_in_year y) × (days_in_year y ≤ 366)
year_length y = grind arith

years_grow : (n : ℕ) → days_of_years n ≤ days_of_years (suc n)
unfolding days_of_years
years_grow n = omega arith

months_grow : (y n : ℕ) → days_of_months y n ≤ days_of_months y (suc n)
unfolding days_of_months
months_grow y n = omega arith

years_bound : (n : ℕ) → (365 * n ≤ days_of_years n) × (days_of_years n ≤ 366 * n)
unfolding days_of_years
years_bound zero = (omega arith, omega arith)
years_bound (suc n) = (omega (arith, years_bound n, year_length (suc n)), omega (arith, years_bound n, year_length (suc n)))

twelve_months : (y : ℕ) → days_of_months y 12 ≡ days_in_year y
unfolding days_of_months
twelve_months y = grind arith

year_is : (y day : ℕ) → 1 ≤ y → y ≤ 9999 → days_of_years (y - 1) ≤ day → day < days_of_years y → year_of day ≡ y
unfolding year_of
year_is y day low high h k =
    first_number_is (λ n. nat_lt day (days_of_years n)) 30 (day / 366 + 1) y (omega (arith, years_bound y)) (omega (arith, years_bound (y - 1))) (grind (arith, nat_tests))
    (λ n l. let b : days_of_years n ≤ days_of_years (y - 1) = up_to days_of_years years_grow n (y - 1) (omega arith) in grind (arith, nat_tests))

month_is : (y m day : ℕ) → 1 ≤ m → m ≤ 12 → days_of_months y (m - 1) ≤ day → day < days_of_months y m → month_of y day ≡ m
unfolding month_of
month_is y m day low high h k =
    first_number_is (λ n. nat_lt day (days_of_months y n)) 12 1 m low (omega arith) (grind (arith, nat_tests))
    (λ n l. let b : days_of_months y n ≤ days_of_months y (m - 1) = up_to (days_of_months y) (months_grow y) n (m - 1) (omega arith) in grind (arith, nat_tests))

month_end : (y m : ℕ) → 1 ≤ m → days_of_months y m ≡ days_of_months y (m - 1) + days_in_month y m
unfolding days_of_months
month_end y zero h = absurd (omega arith)
month_end y (suc m) h = let e : suc m - 1 ≡ m = omega arith in rw e refl

year_end : (y : ℕ) → 1 ≤ y → days_of_years y ≡ days_of_years (y - 1) + days_in_year y
unfolding days_of_years
year_end zero h = absurd (omega arith)
year_end (suc y) h = let e : suc y - 1 ≡ y = omega arith in rw e refl

in_year_is : (y m d : ℕ) → IsDate y m d → date_in_year y (days_of_months y (m - 1) + (d - 1)) ≡ date_text y m d
unfolding date_in_year
in_year_is y m d h =
    let rest = days_of_months y (m - 1) + (d - 1) in
    let e : month_of y rest ≡ m = month_is y m rest (omega arith) (omega arith) (omega arith) (omega (arith, month_end y m (omega arith))) in
    let f : rest - days_of_months y (m - 1) + 1 ≡ d = omega arith in
    rw (e, f) refl

day_is : (y m d : ℕ) → IsDate y m d → day_text (day_number y m d) ≡ date_text y m d
unfolding day_text day_number
day_is y m d h =
    let rest = days_of_months y (m - 1) + (d - 1) in
    let day = days_of_years (y - 1) + days_of_months y (m - 1) + (d - 1) in
    let in_time : rest < days_in_year y = omega (arith, month_end y m (omega arith), up_to (days_of_months y) (months_grow y) m 12 (omega arith), twelve_months y) in
    let e : year_of day ≡ y = year_is y day (omega arith) (omega arith) (omega arith) (omega (arith, year_end y (omega arith))) in
    let f : day - days_of_years (y - 1) ≡ rest = omega arith in
    rw (e, f) (in_year_is y m d h)

pub moment_text_is : {t : List ℕ} {k : ℕ} → IsWrittenMoment t k → moment_text k ≡ t
unfolding moment_text
moment_text_is (written y m d hour minute second r h n s) =
    let day = day_number y m d in
    let rest = 3600 * hour + 60 * minute + second in
    let at = seconds_at day rest in
    let e : at / 86_400 ≡ day = omega arith in
    let f : at % 86_400 ≡ rest = omega arith in
    let g : rest / 3600 ≡ hour = omega arith in
    let i : rest / 60 % 60 ≡ minute = omega arith in
    let j : rest % 60 ≡ second = omega arith in
    rw (e, f, g, i, j, day_is y m d r) refl

-- The written form of a period is its text.
pub period_text_is : {t : List ℕ} {r : Reading} → IsWritten t r → period_text r ≡ t
unfolding period_text
period_text_is (one_moment t k h) = moment_text_is h
period_text_is (two_moments t u s e h k) = rw (moment_text_is h, moment_text_is k) refl

-- Each day of the calendar has a date.
in_years : (n day : ℕ) → day < days_of_years n → (y : ℕ) × (1 ≤ y) × (y ≤ n) × (days_of_years (y - 1) ≤ day) × (day < days_of_years y)
unfolding days_of_years
in_years zero day h = absurd (omega arith)
in_years (suc n) day h = by (nat_lt day (days_of_years n)) refl (in_years n day)
  where
    by : (b : Bool) → nat_lt day (days_of_years n) ≡ b → (day < days_of_years n → (y : ℕ) × (1 ≤ y) × (y ≤ n) × (days_of_years (y - 1) ≤ day) × (day < days_of_years y))
        → (y : ℕ) × (1 ≤ y) × (y ≤ suc n) × (days_of_years (y - 1) ≤ day) × (day < days_of_years y)
    by true e next =
        let less : day < days_of_years n = grind (arith, nat_tests) in
        let r = next less in
        (r.0, r.1, omega (arith, r.2), r.3, r.4)
    by false e next =
        let more : days_of_years n ≤ day = grind (arith, nat_tests) in
        let s : suc n - 1 ≡ n = omega arith in
        (suc n, omega arith, omega arith, rw s more, h)

in_months : (z n day : ℕ) → day < days_of_months z n → (m : ℕ) × (1 ≤ m) × (m ≤ n) × (days_of_months z (m - 1) ≤ day) × (day < days_of_months z m)
unfolding days_of_months
in_months z zero day h = absurd (omega arith)
in_months z (suc n) day h = by (nat_lt day (days_of_months z n)) refl (in_months z n day)
  where
    by : (b : Bool) → nat_lt day (days_of_months z n) ≡ b
        → (day < days_of_months z n → (m : ℕ) × (1 ≤ m) × (m ≤ n) × (days_of_months z (m - 1) ≤ day) × (day < days_of_months z m))
        → (m : ℕ) × (1 ≤ m) × (m ≤ suc n) × (days_of_months z (m - 1) ≤ day) × (day < days_of_months z m)
    by true e next =
        let less : day < days_of_months z n = grind (arith, nat_tests) in
        let r = next less in
        (r.0, r.1, omega (arith, r.2), r.3, r.4)
    by false e next =
        let more : days_of_months z n ≤ day = grind (arith, nat_tests) in
        let s : suc n - 1 ≡ n = omega arith in
        (suc n, omega arith, omega arith, rw s more, h)

all_years : days_of_years 9999 ≡ 3_652_059
unfolding days_of_years
all_years = refl

pub date_of_day : (day : ℕ) → day < day_limit → (y : ℕ) × (m : ℕ) × (d : ℕ) × IsDate y m d × (day_number y m d ≡ day)
unfolding day_number
date_of_day day h =
    let a = in_years 9999 day (omega (arith, all_years)) in
    let rest = day - days_of_years (a.0 - 1) in
    let b = in_months a.0 12 rest (omega (arith, a.1, a.3, a.4, year_end a.0 a.1, twelve_months a.0)) in
    let d = rest - days_of_months a.0 (b.0 - 1) + 1 in
    (a.0, b.0, d, ((a.1, a.2), (b.1, b.2), (omega arith, omega (arith, b.3, b.4, month_end a.0 b.0 b.1))), omega (arith, a.3, b.3))

pub moment_text_written : (k : ℕ) → k < midnight day_limit → IsWrittenMoment (moment_text k) k
moment_text_written k h =
    let r = date_of_day (k / 86_400) (omega arith) in
    let s = k % 86_400 in
    let w = written r.0 r.1 r.2 (s / 3600) (s / 60 % 60) (s % 60) r.3 (omega arith) (omega arith) (omega arith) in
    let parts : 3600 * (s / 3600) + 60 * (s / 60 % 60) + s % 60 ≡ s = omega arith in
    let same : seconds_at (day_number r.0 r.1 r.2) (3600 * (s / 3600) + 60 * (s / 60 % 60) + s % 60) ≡ k = omega (arith, r.4) in
    let v = rw same at w in
    rw (moment_text_is v) v

-- The moments of a period are in the years that a text may name.
abbrev pub IsInTime : Reading → Type 0
IsInTime (instant at) = at < midnight day_limit
IsInTime (duration start end) = (start < midnight day_limit) × (end < midnight day_limit)

-- A duration starts before it ends.
abbrev pub IsForward : Reading → Type 0
IsForward (instant at) = Unit
IsForward (duration start end) = start < end

-- The text of a period is its written form.
pub period_text_written : (r : Reading) → IsInTime r → IsWritten (period_text r) r
unfolding period_text
period_text_written (instant k) h = one_moment _ k (moment_text_written k h)
period_text_written (duration s e) h = two_moments _ _ s e (moment_text_written s h.0) (moment_text_written e h.1)

-- The text of a period means the period.
pub period_text_means : (r : Reading) → IsInTime r → IsForward r → period_of (period_text r) ≡ Some r
unfolding period_text
period_text_means (instant k) h o = period_found (moment _ k (moment_of_written (moment_text_written k h)))
period_text_means (duration s e) h o = period_found (span _ s e (moments _ _ s e (moment_of_written (moment_text_written s h.0)) (moment_of_written (moment_text_written e h.1)) o))
