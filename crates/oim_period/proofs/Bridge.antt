-- The day number of this crate and the day count of `jiff`.
use Rattle.std.proofs.Common.{add-one, ◌≡◌, ℕ, zero, suc, ◌+◌, ◌-◌, ◌<◌, ◌≤◌, refl, ap, ◌∙◌, arith, ℤ, pos, negsuc, ◌+ℤ◌, to_z, of_z, w8, w16, unsigned_abs}
use Rattle.std.proofs.lemmas.Int.{ints}
use Rattle.jiff_core.specs.Calendar.{day_count, days_from_civil, IsDate as HasDate, IsCivilDate}
use Rattle.jiff_core.proofs.SignedLemmas.{signed_arith, back_small}
use Rattle.jiff_core.proofs.CalendarLemmas.{day_count-next_year, day_count-next_month, day_count-day, days_from_civil-day_count, day_count_bounds, day_count-lt_year}
use Rattle.jiff_core.proofs.MarchLemmas.{day_count-early}
use Rattle.oim_period.specs.Calendar.{days_of_years, days_of_months, day_number, days_in_month, IsDate}
use Rattle.oim_period.specs.state.Reads.{IsDateOf}

pub day_count-year_one : day_count (pos 1) 1 1 ≡ 3_652_791
day_count-year_one = day_count-early (pos 1) 10000 1 1 refl (omega arith) (omega arith) (omega arith)

pub years_before : (n : ℕ) → day_count (pos (suc n)) 1 1 ≡ 3_652_791 + days_of_years n
unfolding days_of_years
years_before zero = day_count-year_one
years_before (suc n) =
    let e = day_count-next_year (pos (suc n)) (pos (suc (suc n))) (omega (arith, signed_arith)) (omega (arith, signed_arith)) in
    omega (arith, e, years_before n)

pub months_before : (y m : ℕ) → day_count (pos y) (suc m) 1 ≡ day_count (pos y) 1 1 + days_of_months y m
unfolding days_of_months
months_before y zero = omega arith
months_before y (suc m) =
    let e : day_count (pos y) (suc m + 1) 1 ≡ day_count (pos y) (suc m) 1 + days_in_month y (suc m) = day_count-next_month (pos y) (suc m) (omega arith) in
    omega (arith, rw add-one at e, months_before y m)

-- The two counts differ by a constant.
pub day_count-day_number : (y m d : ℕ) → 1 ≤ y → 1 ≤ m → 1 ≤ d → day_count (pos y) m d ≡ 3_652_791 + day_number y m d
unfolding day_number
day_count-day_number zero m d hy hm hd = absurd (omega arith)
day_count-day_number (suc y) zero d hy hm hd = absurd (omega arith)
day_count-day_number (suc y) (suc m) d hy hm hd =
    let back : suc y - 1 ≡ y = omega arith in
    let back_month : suc m - 1 ≡ m = omega arith in
    rw (back, back_month) (omega (arith, years_before y, months_before (suc y) m, day_count-day (pos (suc y)) (suc m) d 1 hd (omega arith)))

-- The days from -9999-01-01, where `jiff` begins.
pub since_min : (y m d r : ℕ) → 1 ≤ y → 1 ≤ m → 1 ≤ d → days_from_civil (pos y) m d +ℤ pos 4_371_587 ≡ pos r → r ≡ 3_652_425 + day_number y m d
since_min y m d r hy hm hd e = omega (arith, signed_arith, e, days_from_civil-day_count (pos y) m d, day_count-day_number y m d hy hm hd)

pub widened16 : (n : ℕ) → n < 32768 → to_z w16 n ≡ pos n
widened16 n h = omega (arith, ints)

pub widened8 : (n : ℕ) → n < 128 → to_z w8 n ≡ pos n
widened8 n h = omega (arith, ints)

-- The calendar of `jiff` has the same days.
pub date_exists : (y m d : ℕ) → 1 ≤ y → y ≤ 9999 → m ≤ 99 → d ≤ 99 → (HasDate (to_z w16 y) (to_z w8 m) (to_z w8 d) → IsDate y m d) × (IsDate y m d → HasDate (to_z w16 y) (to_z w8 m) (to_z w8 d))
date_exists y m d low hy hm hd =
    let ey : to_z w16 y ≡ pos y = widened16 y (omega arith) in
    let em : to_z w8 m ≡ pos m = widened8 m (omega arith) in
    let ed : to_z w8 d ≡ pos d = widened8 d (omega arith) in
    rw (ey, em, ed) (
      λ h. ((low, hy), (omega (arith, ints), omega (arith, ints)), (omega (arith, ints), omega (arith, ints))),
      λ h. ((omega (arith, ints), omega (arith, ints)), (omega (arith, ints), omega (arith, ints)), (omega (arith, ints), omega (arith, ints))),
    )

pub since_min_at : (y m d : ℕ) (year : ℤ) (month day r : ℕ) → IsDate y m d → m ≤ 99 → d ≤ 99 → year ≡ to_z w16 y → pos month ≡ to_z w8 m → pos day ≡ to_z w8 d
    → days_from_civil year month day +ℤ pos 4_371_587 ≡ pos r → r ≡ 3_652_425 + day_number y m d
since_min_at y m d year month day r h hm hd ey em ed e =
    let y_is : year ≡ pos y = ey ∙ widened16 y (omega arith) in
    let m_is : pos month ≡ pos m = em ∙ widened8 m (omega arith) in
    let d_is : pos day ≡ pos d = ed ∙ widened8 d (omega arith) in
    let m_same : month ≡ m = cc in
    let d_same : day ≡ d = cc in
    since_min y m d r (omega arith) (omega arith) (omega arith) (rw (y_is, m_same, d_same) at e)

pub day_number-bound : (y m d : ℕ) → IsDate y m d → day_number y m d < 3_652_059
day_number-bound y m d h =
    let b = day_count_bounds (pos y) m d ((omega (arith, ints), omega (arith, ints)), h.1, h.2) in
    omega (arith, b.1, day_count-day_number y m d (omega arith) (omega arith) (omega arith))

-- The date that `jiff` has for a day.
pub date_of_is : (year : ℤ) (m d day : ℕ) → IsCivilDate year m d → days_from_civil year m d +ℤ pos 4_371_587 ≡ pos (day + 3_652_425) → IsDateOf day year m d
date_of_is (negsuc n) m d day r e =
    absurd (omega (arith, signed_arith, e, days_from_civil-day_count (negsuc n) m d, day_count-year_one, day_count-lt_year (negsuc n) m d (pos 1) 1 1 r (omega arith) (omega (arith, signed_arith))))
date_of_is (pos zero) m d day r e =
    absurd (omega (arith, signed_arith, e, days_from_civil-day_count (pos 0) m d, day_count-year_one, day_count-lt_year (pos 0) m d (pos 1) 1 1 r (omega arith) (omega (arith, signed_arith))))
date_of_is (pos (suc y)) m d day r e = (
  suc y,
  refl,
  ((omega arith, omega (arith, signed_arith, r.0)), r.1, r.2),
  omega (
    arith,
    signed_arith,
    e,
    r.1,
    r.2,
    days_from_civil-day_count (pos (suc y)) m d,
    day_count-day_number (suc y) m d (omega arith) (omega (arith, r.1)) (omega (arith, r.2)),
  ),
)

-- A small number that was cast from a signed type.
pub cast16 : (z : ℤ) (n : ℕ) → z ≡ pos n → n < 32768 → unsigned_abs (to_z w16 (of_z w16 z)) ≡ n
cast16 z n e h = rw e (ap unsigned_abs (back_small w16 (pos n) (omega arith)))

pub cast8 : (z : ℤ) (n : ℕ) → z ≡ pos n → n < 128 → unsigned_abs (to_z w8 (of_z w8 z)) ≡ n
cast8 z n e h = rw e (ap unsigned_abs (back_small w8 (pos n) (omega arith)))
