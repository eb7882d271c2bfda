-- Later months begin later.
use Rattle.std.proofs.Common.{◌≡◌, ℕ, zero, suc, ◌+◌, ◌-◌, ◌<◌, ◌≤◌, arith}
use Rattle.oim_period.specs.Calendar.{days_of_months, days_in_month, day_number, month_start}

month_length : (y m : ℕ) → 28 ≤ days_in_month y m
month_length y m = grind arith

later : (y m k : ℕ) → days_of_months y m < days_of_months y (suc (k + m))
unfolding days_of_months
later y m zero = let e : zero + m ≡ m = omega arith in rw e (omega (arith, month_length y (suc m)))
later y m (suc k) =
    let e : suc k + m ≡ suc (k + m) = omega arith in
    rw e (omega (arith, later y m k, month_length y (suc (suc (k + m)))))

pub month_order : (y m n : ℕ) → 1 ≤ m → m < n → month_start y m < month_start y n
unfolding day_number
month_order y m n h k =
    let e : suc (n - m - 1 + (m - 1)) ≡ n - 1 = omega arith in
    omega (arith, rw e at (later y (m - 1) (n - m - 1)))

pub month_length-most : (y m : ℕ) → days_in_month y m ≤ 31
month_length-most y m = grind arith
