-- The meaning of a row of the table for a text that is written out.
use Rattle.std.proofs.Common.{◌≡◌, ℕ, ◌+◌, ◌-◌, ◌*◌, ◌/◌, ◌%◌, ◌≤◌, List, [], ◌∷◌, refl, ap, arith, length, get_or}
use Rattle.std.specs.Int.{IsInRange}
use Rattle.oim_period.specs.Calendar.{day_number, week_start, IsWeek, IsDate, month_start}
use Rattle.oim_period.specs.Table.{InYear, year, month, quarter, half, week_of_one_digit, week, day}

-- Properties that two equal texts share.
clash : {s t : List ℕ} → s ≡ t → (length s ≡ length t) × (get_or s 0 0 ≡ get_or t 0 0)
clash e = (ap length e, ap (λ s. get_or s 0 0) e)

pub of_year : {y : ℕ} {x : List ℕ} {f a : ℕ} → InYear y x f a → x ≡ [] → (f ≡ month_start y 1) × (a ≡ month_start y 13)
of_year (year y) e = (refl, refl)
of_year (month y m r) e = absurd (omega (arith, clash e))
of_year (quarter y q r) e = absurd (omega (arith, clash e))
of_year (half y h r) e = absurd (omega (arith, clash e))
of_year (week_of_one_digit y n r w) e = absurd (omega (arith, clash e))
of_year (week y n r w) e = absurd (omega (arith, clash e))
of_year (day y m d r) e = absurd (omega (arith, clash e))

pub of_month : {y : ℕ} {x : List ℕ} {f a : ℕ} → InYear y x f a → (u v : ℕ) → x ≡ 45 ∷ u ∷ v ∷ []
    → (m : ℕ) × IsInRange 1 12 m × (u ≡ 48 + m / 10) × (v ≡ 48 + m % 10) × (f ≡ month_start y m) × (a ≡ month_start y (m + 1))
of_month (year y) u v e = absurd (omega (arith, clash e))
of_month (month y m r) u v e = (m, r, cc, cc, refl, refl)
of_month (quarter y q r) u v e = absurd (omega (arith, clash e))
of_month (half y h r) u v e = absurd (omega (arith, clash e))
of_month (week_of_one_digit y n r w) u v e = absurd (omega (arith, clash e))
of_month (week y n r w) u v e = absurd (omega (arith, clash e))
of_month (day y m d r) u v e = absurd (omega (arith, clash e))

pub of_quarter : {y : ℕ} {x : List ℕ} {f a : ℕ} → InYear y x f a → (u : ℕ) → x ≡ 81 ∷ u ∷ []
    → (q : ℕ) × IsInRange 1 4 q × (u ≡ 48 + q) × (f ≡ month_start y (3 * q - 2)) × (a ≡ month_start y (3 * q + 1))
of_quarter (year y) u e = absurd (omega (arith, clash e))
of_quarter (month y m r) u e = absurd (omega (arith, clash e))
of_quarter (quarter y q r) u e = (q, r, cc, refl, refl)
of_quarter (half y h r) u e = absurd (omega (arith, clash e))
of_quarter (week_of_one_digit y n r w) u e = absurd (omega (arith, clash e))
of_quarter (week y n r w) u e = absurd (omega (arith, clash e))
of_quarter (day y m d r) u e = absurd (omega (arith, clash e))

pub of_half : {y : ℕ} {x : List ℕ} {f a : ℕ} → InYear y x f a → (u : ℕ) → x ≡ 72 ∷ u ∷ [] → (h : ℕ) × IsInRange 1 2 h × (u ≡ 48 + h) × (f ≡ month_start y (6 * h - 5)) × (a ≡ month_start y (6 * h + 1))
of_half (year y) u e = absurd (omega (arith, clash e))
of_half (month y m r) u e = absurd (omega (arith, clash e))
of_half (quarter y q r) u e = absurd (omega (arith, clash e))
of_half (half y h r) u e = (h, r, cc, refl, refl)
of_half (week_of_one_digit y n r w) u e = absurd (omega (arith, clash e))
of_half (week y n r w) u e = absurd (omega (arith, clash e))
of_half (day y m d r) u e = absurd (omega (arith, clash e))

pub of_week_digit : {y : ℕ} {x : List ℕ} {f a : ℕ} → InYear y x f a → (u : ℕ) → x ≡ 87 ∷ u ∷ [] → (n : ℕ) × (n ≤ 9) × IsWeek y n × (u ≡ 48 + n) × (f ≡ week_start y n) × (a ≡ week_start y n + 7)
of_week_digit (year y) u e = absurd (omega (arith, clash e))
of_week_digit (month y m r) u e = absurd (omega (arith, clash e))
of_week_digit (quarter y q r) u e = absurd (omega (arith, clash e))
of_week_digit (half y h r) u e = absurd (omega (arith, clash e))
of_week_digit (week_of_one_digit y n r w) u e = (n, r, w, cc, refl, refl)
of_week_digit (week y n r w) u e = absurd (omega (arith, clash e))
of_week_digit (day y m d r) u e = absurd (omega (arith, clash e))

pub of_week : {y : ℕ} {x : List ℕ} {f a : ℕ} → InYear y x f a → (u v : ℕ) → x ≡ 87 ∷ u ∷ v ∷ []
    → (n : ℕ) × (n ≤ 99) × IsWeek y n × (u ≡ 48 + n / 10) × (v ≡ 48 + n % 10) × (f ≡ week_start y n) × (a ≡ week_start y n + 7)
of_week (year y) u v e = absurd (omega (arith, clash e))
of_week (month y m r) u v e = absurd (omega (arith, clash e))
of_week (quarter y q r) u v e = absurd (omega (arith, clash e))
of_week (half y h r) u v e = absurd (omega (arith, clash e))
of_week (week_of_one_digit y n r w) u v e = absurd (omega (arith, clash e))
of_week (week y n r w) u v e = (n, r, w, cc, cc, refl, refl)
of_week (day y m d r) u v e = absurd (omega (arith, clash e))

pub of_day : {y : ℕ} {x : List ℕ} {f a : ℕ} → InYear y x f a → (u v s t : ℕ) → x ≡ 45 ∷ u ∷ v ∷ 45 ∷ s ∷ t ∷ []
    → (m : ℕ) × (d : ℕ) × IsDate y m d × (u ≡ 48 + m / 10) × (v ≡ 48 + m % 10) × (s ≡ 48 + d / 10) × (t ≡ 48 + d % 10) × (f ≡ day_number y m d) × (a ≡ day_number y m d + 1)
of_day (year y) u v s t e = absurd (omega (arith, clash e))
of_day (month y m r) u v s t e = absurd (omega (arith, clash e))
of_day (quarter y q r) u v s t e = absurd (omega (arith, clash e))
of_day (half y h r) u v s t e = absurd (omega (arith, clash e))
of_day (week_of_one_digit y n r w) u v s t e = absurd (omega (arith, clash e))
of_day (week y n r w) u v s t e = absurd (omega (arith, clash e))
of_day (day y m d r) u v s t e = (m, d, r, cc, cc, cc, cc, refl, refl)
