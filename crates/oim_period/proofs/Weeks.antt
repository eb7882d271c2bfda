-- Months and ISO weeks of this crate and of `jiff`.
use Rattle.std.proofs.Common.{◌≡◌, ℕ, ◌+◌, ◌≤◌, ◌∙◌, arith, ℤ, pos, ◌+ℤ◌, to_z, w8, w16}
use Rattle.std.proofs.lemmas.Int.{ints}
use Rattle.jiff_core.specs.declared.civil.weekday.Weekday.TheVariants.{Monday}
use Rattle.jiff_core.specs.Calendar.{iso_year_start}
use Rattle.jiff_core.specs.IsoWeek.{days_from_iso, IsIsoWeekDate}
use Rattle.jiff_core.proofs.SignedLemmas.{signed_arith}
use Rattle.jiff_core.proofs.CalendarLemmas.{day_count-next_year, day_count-next_month, day_count-day, day_count-last_of_year, day_count-end, day_count-year_bounds}
use Rattle.jiff_core.proofs.IsoWeekLemmas.{iso_year_start-day_count, weeks_in_year-next}
use Rattle.oim_period.specs.Calendar.{day_number, monday_of, week_start, IsWeek}
use Rattle.oim_period.proofs.Bridge.{day_count-day_number, widened8, widened16}
use borrow.Author.Differences.{up, down}

pub next_january : (y : ℕ) → 1 ≤ y → day_number y 13 1 ≡ day_number (y + 1) 1 1
next_january y h =
    omega (
      arith,
      day_count-day_number y 13 1 h (omega arith) (omega arith),
      day_count-day_number (y + 1) 1 1 (omega arith) (omega arith) (omega arith),
      day_count-next_year (pos y) (pos (y + 1)) (omega (arith, signed_arith)) (omega (arith, signed_arith)),
      day_count-last_of_year (pos y),
      day_count-next_month (pos y) 12 (omega arith),
      day_count-day (pos y) 12 31 1 (omega arith) (omega arith),
    )

pub last_year_end : day_number 9999 13 1 ≡ 3_652_059
last_year_end =
    omega (arith, next_january 9999 (omega arith), day_count-day_number 10000 1 1 (omega arith) (omega arith) (omega arith), day_count-end)

pub fourth_of_january : (y : ℕ) → day_number y 1 4 ≡ day_number y 1 1 + 3
unfolding day_number
fourth_of_january y = omega arith

-- The Monday of week 1, by both counts.
pub year_start : (y : ℕ) → 1 ≤ y → y ≤ 10000 → up (iso_year_start (pos y)) + 719_162 ≡ down (iso_year_start (pos y)) + monday_of (day_number y 1 4)
year_start y low high =
    let e = iso_year_start-day_count (pos y) (omega (arith, ints), omega (arith, ints)) in
    let d : _ = day_count-day_number y 1 4 low (omega arith) (omega arith) in
    omega (arith, rw d at e)

pub new_year_bound : (y : ℕ) → 1 ≤ y → y ≤ 9999 → day_number (y + 1) 1 1 ≤ 3_652_059
new_year_bound y low high =
    let b = day_count-year_bounds (pos y) (omega (arith, ints), omega (arith, ints)) in
    omega (
      arith,
      b.1,
      day_count-next_year (pos y) (pos (y + 1)) (omega (arith, signed_arith)) (omega (arith, signed_arith)),
      day_count-day_number (y + 1) 1 1 (omega arith) (omega arith) (omega arith),
    )

-- The ISO year has a week exactly if the week's Thursday is in the year.
pub week_exists : (y n : ℕ) → 1 ≤ y → y ≤ 9999 → n ≤ 99 → (IsIsoWeekDate (to_z w16 y) (to_z w8 n) Monday → IsWeek y n) × (IsWeek y n → IsIsoWeekDate (to_z w16 y) (to_z w8 n) Monday)
unfolding days_from_iso
week_exists y n low high hn =
    let ey : to_z w16 y ≡ pos y = widened16 y (omega arith) in
    let en : to_z w8 n ≡ pos n = widened8 n (omega arith) in
    let s = year_start y low (omega arith) in
    let t = year_start (y + 1) (omega arith) (omega arith) in
    let w = weeks_in_year-next (pos y) (pos (y + 1)) (omega (arith, ints), omega (arith, ints)) (omega (arith, signed_arith)) in
    let f = fourth_of_january y in
    let g = fourth_of_january (y + 1) in
    let z = new_year_bound y low high in
    rw (ey, en) (
      λ h. ((low, high), omega (arith, signed_arith), omega (arith, signed_arith), omega (arith, signed_arith)),
      λ h. ((omega (arith, ints), omega (arith, ints)), (omega (arith, ints), omega (arith, signed_arith)), (omega (arith, signed_arith), omega (arith, signed_arith))),
    )

pub week_number : (y n : ℕ) (year : ℤ) (week r : ℕ) → 1 ≤ y → y ≤ 9999 → n ≤ 99 → 1 ≤ n → year ≡ to_z w16 y → pos week ≡ to_z w8 n
    → days_from_iso year week Monday +ℤ pos 4_371_587 ≡ pos r → r ≡ 3_652_425 + week_start y n
unfolding days_from_iso
week_number y n year week r low high hn pn ey en e =
    let y_is : year ≡ pos y = ey ∙ widened16 y (omega arith) in
    let n_is : pos week ≡ pos n = en ∙ widened8 n (omega arith) in
    let n_same : week ≡ n = cc in
    omega (arith, signed_arith, rw (y_is, n_same) at e, year_start y low (omega arith))
