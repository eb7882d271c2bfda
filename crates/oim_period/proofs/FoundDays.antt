-- `days_of` has exactly the days that the table gives.
use Rattle.std.proofs.Common.{◌≡◌, ℕ, ◌+◌, ◌-◌, ◌*◌, ◌≤◌, true, ◌&&◌, nat_le, List, [], ◌++◌, codes, Some, IfSome, refl, ap, arith, length, get_or}
use Rattle.std.specs.Int.{IsInRange, is_in_range}
use Rattle.oim_period.specs.Calendar.{IsYear, is_year, IsDate, is_date, IsWeek, is_week, day_number, month_start, week_start}
use Rattle.oim_period.specs.Digits.{one, two, four, date_text, one_at, two_at, four_at}
use Rattle.oim_period.specs.Periods.{days_by, days_of}
use Rattle.oim_period.specs.Table.{year, month, quarter, half, week_of_one_digit, week, day, date, IsDays, in_year, range}
use Rattle.oim_period.specs.Reads.{IsOnly}
use Rattle.oim_period.proofs.Found.{found_tells, first_tells, none_tells, hit, skip, only_from, one_back, two_back, four_back, le_decides, range_decides, year_decides}
use Rattle.oim_period.proofs.Found.{both, both_yes, date_decides, week_decides}

-- The days of a text, as a pair.
abbrev pub Named : List ℕ → ℕ × ℕ → Type 0
Named t e = IsDays t e.0 e.1

of_year : (t : List ℕ) (y : ℕ) → t ≡ four y → is_year y ≡ true → Named t (month_start y 1, month_start y 13)
of_year t y e v = rw e (in_year y [] _ _ ((year_decides y).0 v) (year y))

of_month : (t : List ℕ) (y m : ℕ) → t ≡ four y ++ codes "-" ++ two m → (is_year y && is_in_range 1 12 m) ≡ true → Named t (month_start y m, month_start y (m + 1))
of_month t y m e v =
    let h = both (is_year y) _ v in
    rw e (in_year y _ _ _ ((year_decides y).0 h.0) (month y m ((range_decides 1 12 m).0 h.1)))

of_quarter : (t : List ℕ) (y q : ℕ) → t ≡ four y ++ codes "Q" ++ one q → (is_year y && is_in_range 1 4 q) ≡ true → Named t (month_start y (3 * q - 2), month_start y (3 * q + 1))
of_quarter t y q e v =
    let h = both (is_year y) _ v in
    rw e (in_year y _ _ _ ((year_decides y).0 h.0) (quarter y q ((range_decides 1 4 q).0 h.1)))

of_half : (t : List ℕ) (y n : ℕ) → t ≡ four y ++ codes "H" ++ one n → (is_year y && is_in_range 1 2 n) ≡ true → Named t (month_start y (6 * n - 5), month_start y (6 * n + 1))
of_half t y n e v =
    let h = both (is_year y) _ v in
    rw e (in_year y _ _ _ ((year_decides y).0 h.0) (half y n ((range_decides 1 2 n).0 h.1)))

of_week_digit : (t : List ℕ) (y n : ℕ) → t ≡ four y ++ codes "W" ++ one n → (nat_le n 9 && is_week y n) ≡ true → Named t (week_start y n, week_start y n + 7)
of_week_digit t y n e v =
    let h = both (nat_le n 9) _ v in
    let k = (week_decides y n).0 h.1 in
    rw e (in_year y _ _ _ k.0 (week_of_one_digit y n ((le_decides n 9).0 h.0) k))

of_week : (t : List ℕ) (y n : ℕ) → t ≡ four y ++ codes "W" ++ two n → (nat_le n 99 && is_week y n) ≡ true → Named t (week_start y n, week_start y n + 7)
of_week t y n e v =
    let h = both (nat_le n 99) _ v in
    let k = (week_decides y n).0 h.1 in
    rw e (in_year y _ _ _ k.0 (week y n ((le_decides n 99).0 h.0) k))

of_day : (t : List ℕ) (y m d : ℕ) → t ≡ date_text y m d → is_date y m d ≡ true → Named t (day_number y m d, day_number y m d + 1)
of_day t y m d e v =
    let h = (date_decides y m d).0 v in
    rw e (in_year y _ _ _ h.0 (day y m d h))

of_range : (t : List ℕ) (y m d y₂ m₂ d₂ : ℕ) → t ≡ date_text y m d ++ codes ".." ++ date_text y₂ m₂ d₂
    → (is_date y m d && is_date y₂ m₂ d₂ && nat_le (day_number y m d) (day_number y₂ m₂ d₂)) ≡ true → Named t (day_number y m d, day_number y₂ m₂ d₂ + 1)
of_range t y m d y₂ m₂ d₂ e v =
    let h = both (is_date y m d && is_date y₂ m₂ d₂) _ v in
    let k = both (is_date y m d) _ h.0 in
    rw e (range _ _ _ _ (date y m d ((date_decides y m d).0 k.0)) (date y₂ m₂ d₂ ((date_decides y₂ m₂ d₂).0 k.1)) ((le_decides (day_number y m d) (day_number y₂ m₂ d₂)).0 h.1))

days_by_tells : (t : List ℕ) (y n m d y₂ m₂ d₂ : ℕ) → IfSome (days_by t y n m d y₂ m₂ d₂) (Named t)
unfolding days_by
days_by_tells t y n m d y₂ m₂ d₂ =
    first_tells (Named t) _ _ (found_tells (Named t) t _ _ _ (of_year t y))
    (first_tells (Named t) _ _ (found_tells (Named t) t _ _ _ (of_month t y m))
    (first_tells (Named t) _ _ (found_tells (Named t) t _ _ _ (of_quarter t y n))
    (first_tells (Named t) _ _ (found_tells (Named t) t _ _ _ (of_half t y n))
    (first_tells (Named t) _ _ (found_tells (Named t) t _ _ _ (of_week_digit t y n))
    (first_tells (Named t) _ _ (found_tells (Named t) t _ _ _ (of_week t y m))
    (first_tells (Named t) _ _ (found_tells (Named t) t _ _ _ (of_day t y m d))
    (first_tells (Named t) _ _ (found_tells (Named t) t _ _ _ (of_range t y m d y₂ m₂ d₂))
    (none_tells (Named t)))))))))

-- A value that is found is in the table.
pub days_tell : (t : List ℕ) → IfSome (days_of t) (Named t)
unfolding days_of
days_tell t = days_by_tells t (four_at 0 t) (one_at 5 t) (two_at 5 t) (two_at 8 t) (four_at 12 t) (two_at 17 t) (two_at 20 t)

-- Properties that two equal texts share.
clash : {s t : List ℕ} → s ≡ t → (length s ≡ length t) × (get_or s 4 0 ≡ get_or t 4 0)
clash e = (ap length e, ap (λ s. get_or s 4 0) e)

by_year : (n m d y₂ m₂ d₂ y : ℕ) → IsYear y → days_by (four y) y n m d y₂ m₂ d₂ ≡ Some (month_start y 1, month_start y 13)
unfolding days_by
by_year n m d y₂ m₂ d₂ y r = hit (four y) _ _ _ _ refl ((year_decides y).1 r)

by_month : (n d y₂ m₂ d₂ y m : ℕ) → IsYear y → IsInRange 1 12 m → days_by (four y ++ codes "-" ++ two m) y n m d y₂ m₂ d₂ ≡ Some (month_start y m, month_start y (m + 1))
unfolding days_by
by_month n d y₂ m₂ d₂ y m r h =
    let t = four y ++ codes "-" ++ two m in
    skip t _ _ _ _ _ (λ e. absurd (omega (arith, clash e)))
    (hit t _ _ _ _ refl (both_yes _ _ ((year_decides y).1 r) ((range_decides 1 12 m).1 h)))

by_quarter : (m d y₂ m₂ d₂ y n : ℕ) → IsYear y → IsInRange 1 4 n → days_by (four y ++ codes "Q" ++ one n) y n m d y₂ m₂ d₂ ≡ Some (month_start y (3 * n - 2), month_start y (3 * n + 1))
unfolding days_by
by_quarter m d y₂ m₂ d₂ y n r h =
    let t = four y ++ codes "Q" ++ one n in
    skip t _ _ _ _ _ (λ e. absurd (omega (arith, clash e)))
    (skip t _ _ _ _ _ (λ e. absurd (omega (arith, clash e)))
    (hit t _ _ _ _ refl (both_yes _ _ ((year_decides y).1 r) ((range_decides 1 4 n).1 h))))

by_half : (m d y₂ m₂ d₂ y n : ℕ) → IsYear y → IsInRange 1 2 n → days_by (four y ++ codes "H" ++ one n) y n m d y₂ m₂ d₂ ≡ Some (month_start y (6 * n - 5), month_start y (6 * n + 1))
unfolding days_by
by_half m d y₂ m₂ d₂ y n r h =
    let t = four y ++ codes "H" ++ one n in
    skip t _ _ _ _ _ (λ e. absurd (omega (arith, clash e)))
    (skip t _ _ _ _ _ (λ e. absurd (omega (arith, clash e)))
    (skip t _ _ _ _ _ (λ e. absurd (omega (arith, clash e)))
    (hit t _ _ _ _ refl (both_yes _ _ ((year_decides y).1 r) ((range_decides 1 2 n).1 h)))))

by_week_digit : (m d y₂ m₂ d₂ y n : ℕ) → n ≤ 9 → IsWeek y n → days_by (four y ++ codes "W" ++ one n) y n m d y₂ m₂ d₂ ≡ Some (week_start y n, week_start y n + 7)
unfolding days_by
by_week_digit m d y₂ m₂ d₂ y n r h =
    let t = four y ++ codes "W" ++ one n in
    skip t _ _ _ _ _ (λ e. absurd (omega (arith, clash e)))
    (skip t _ _ _ _ _ (λ e. absurd (omega (arith, clash e)))
    (skip t _ _ _ _ _ (λ e. absurd (omega (arith, clash e)))
    (skip t _ _ _ _ _ (λ e. absurd (omega (arith, clash e)))
    (hit t _ _ _ _ refl (both_yes _ _ ((le_decides n 9).1 r) ((week_decides y n).1 h))))))

by_week : (n d y₂ m₂ d₂ y m : ℕ) → m ≤ 99 → IsWeek y m → days_by (four y ++ codes "W" ++ two m) y n m d y₂ m₂ d₂ ≡ Some (week_start y m, week_start y m + 7)
unfolding days_by
by_week n d y₂ m₂ d₂ y m r h =
    let t = four y ++ codes "W" ++ two m in
    skip t _ _ _ _ _ (λ e. absurd (omega (arith, clash e)))
    (skip t _ _ _ _ _ (λ e. absurd (omega (arith, clash e)))
    (skip t _ _ _ _ _ (λ e. absurd (omega (arith, clash e)))
    (skip t _ _ _ _ _ (λ e. absurd (omega (arith, clash e)))
    (skip t _ _ _ _ _ (λ e. absurd (omega (arith, clash e)))
    (hit t _ _ _ _ refl (both_yes _ _ ((le_decides m 99).1 r) ((week_decides y m).1 h)))))))

by_day : (n y₂ m₂ d₂ y m d : ℕ) → IsDate y m d → days_by (date_text y m d) y n m d y₂ m₂ d₂ ≡ Some (day_number y m d, day_number y m d + 1)
unfolding days_by
by_day n y₂ m₂ d₂ y m d h =
    let t = date_text y m d in
    skip t _ _ _ _ _ (λ e. absurd (omega (arith, clash e)))
    (skip t _ _ _ _ _ (λ e. absurd (omega (arith, clash e)))
    (skip t _ _ _ _ _ (λ e. absurd (omega (arith, clash e)))
    (skip t _ _ _ _ _ (λ e. absurd (omega (arith, clash e)))
    (skip t _ _ _ _ _ (λ e. absurd (omega (arith, clash e)))
    (skip t _ _ _ _ _ (λ e. absurd (omega (arith, clash e)))
    (hit t _ _ _ _ refl ((date_decides y m d).1 h)))))))

by_range : (n y₂ m₂ d₂ y m d : ℕ) → IsDate y m d → IsDate y₂ m₂ d₂ → day_number y m d ≤ day_number y₂ m₂ d₂
    → days_by (date_text y m d ++ codes ".." ++ date_text y₂ m₂ d₂) y n m d y₂ m₂ d₂ ≡ Some (day_number y m d, day_number y₂ m₂ d₂ + 1)
unfolding days_by
by_range n y₂ m₂ d₂ y m d h k o =
    let t = date_text y m d ++ codes ".." ++ date_text y₂ m₂ d₂ in
    skip t _ _ _ _ _ (λ e. absurd (omega (arith, clash e)))
    (skip t _ _ _ _ _ (λ e. absurd (omega (arith, clash e)))
    (skip t _ _ _ _ _ (λ e. absurd (omega (arith, clash e)))
    (skip t _ _ _ _ _ (λ e. absurd (omega (arith, clash e)))
    (skip t _ _ _ _ _ (λ e. absurd (omega (arith, clash e)))
    (skip t _ _ _ _ _ (λ e. absurd (omega (arith, clash e)))
    (skip t _ _ _ _ _ (λ e. absurd (omega (arith, clash e)))
    (hit t _ _ _ _ refl (both_yes _ _ (both_yes _ _ ((date_decides y m d).1 h) ((date_decides y₂ m₂ d₂).1 k)) ((le_decides (day_number y m d) (day_number y₂ m₂ d₂)).1 o)))))))))

-- Each value of the table is found.
pub days_found : {t : List ℕ} {f a : ℕ} → IsDays t f a → days_of t ≡ Some (f, a)
unfolding days_of
days_found (in_year y tail f a r (year z)) =
    let t = four y in
    rw (four_back t 0 y refl refl refl refl) (by_year _ _ _ _ _ _ y r)
days_found (in_year y tail f a r (month z m h)) =
    let t = four y ++ codes "-" ++ two m in
    rw (four_back t 0 y refl refl refl refl, two_back t 5 m refl refl) (by_month _ _ _ _ _ y m r h)
days_found (in_year y tail f a r (quarter z q h)) =
    let t = four y ++ codes "Q" ++ one q in
    rw (four_back t 0 y refl refl refl refl, one_back t 5 q refl) (by_quarter _ _ _ _ _ y q r h)
days_found (in_year y tail f a r (half z n h)) =
    let t = four y ++ codes "H" ++ one n in
    rw (four_back t 0 y refl refl refl refl, one_back t 5 n refl) (by_half _ _ _ _ _ y n r h)
days_found (in_year y tail f a r (week_of_one_digit z n h w)) =
    let t = four y ++ codes "W" ++ one n in
    rw (four_back t 0 y refl refl refl refl, one_back t 5 n refl) (by_week_digit _ _ _ _ _ y n h w)
days_found (in_year y tail f a r (week z n h w)) =
    let t = four y ++ codes "W" ++ two n in
    rw (four_back t 0 y refl refl refl refl, two_back t 5 n refl refl) (by_week _ _ _ _ _ y n h w)
days_found (in_year y tail f a r (day z m d h)) =
    let t = date_text y m d in
    rw (four_back t 0 y refl refl refl refl, two_back t 5 m refl refl, two_back t 8 d refl refl) (by_day _ _ _ _ y m d h)
days_found (range t t₂ f l (date y m d h) (date y₂ m₂ d₂ k) o) =
    let t = date_text y m d ++ codes ".." ++ date_text y₂ m₂ d₂ in
    rw (four_back t 0 y refl refl refl refl, two_back t 5 m refl refl, two_back t 8 d refl refl, four_back t 12 y₂ refl refl refl refl, two_back t 17 m₂ refl refl, two_back t 20 d₂ refl refl)
    (by_range _ _ _ _ y m d h k o)

-- `days_of` has exactly the days of the table.
pub days_exact : (t : List ℕ) → IsOnly (Named t) (days_of t)
days_exact t = only_from (Named t) (days_of t) (days_tell t) (λ e h. days_found h)
