-- The parts of a text of days.
use Rattle.std.proofs.Common.{◌≡◌, ℕ, ◌+◌, ◌≤◌, List, [], ◌∷◌, ◌++◌, take, drop, refl, arith, length, get_or, length-append, codes}
use Rattle.oim_period.specs.Calendar.{IsYear}
use Rattle.oim_period.specs.Digits.{four}
use Rattle.oim_period.specs.Table.{IsDay, IsDays, in_year, range, InYear, year, month, quarter, half, week_of_one_digit, week, day}
use Rattle.oim_period.proofs.Split.{parts_of}
use Rattle.oim_period.specs.state.Reads.{AreDigits}
use Rattle.oim_period.proofs.Written.{length-date}

pub length-in_year : {y : ℕ} {t : List ℕ} {f a : ℕ} → InYear y t f a → length t ≤ 6
length-in_year (year y) = omega arith
length-in_year (month y m r) = omega arith
length-in_year (quarter y q r) = omega arith
length-in_year (half y h r) = omega arith
length-in_year (week_of_one_digit y n r w) = omega arith
length-in_year (week y n r w) = omega arith
length-in_year (day y m d r) = omega arith

pub of_range : {x : List ℕ} {f a : ℕ} → IsDays x f a → length x ≡ 22 → (last : ℕ) × IsDay (take 10 x) f × IsDay (drop 12 x) last × (f ≤ last) × (a ≡ last + 1)
of_range (in_year y tail f a r p) e = absurd (omega (arith, length-in_year p, e))
of_range (range t t₂ f l d d₂ o) e =
    let s = parts_of t (codes "..") t₂ _ 10 refl (length-date d) in
    (l, rw (s.0) at d, rw (s.1) at d₂, o, refl)

pub of_short : {x : List ℕ} {f a : ℕ} → IsDays x f a → (length x ≡ 22 → ⊥) → (y : ℕ) × IsYear y × AreDigits y (get_or x 0 0) (get_or x 1 0) (get_or x 2 0) (get_or x 3 0) × InYear y (drop 4 x) f a
of_short (in_year y tail f a r p) e = (y, r, (refl, refl, refl, refl), p)
of_short (range t t₂ f l d d₂ o) e =
    absurd (e (simp length-append (omega (arith, length-date d, length-date d₂))))

pub four_first : (s : List ℕ) (y : ℕ) → 4 ≤ length s → AreDigits y (get_or s 0 0) (get_or s 1 0) (get_or s 2 0) (get_or s 3 0) → s ≡ four y ++ drop 4 s
four_first [] y l r = absurd (omega arith)
four_first (a ∷ []) y l r = absurd (omega arith)
four_first (a ∷ b ∷ []) y l r = absurd (omega arith)
four_first (a ∷ b ∷ c ∷ []) y l r = absurd (omega arith)
four_first (a ∷ b ∷ c ∷ d ∷ s) y l r = rw (r.0, r.1, r.2, r.3) refl
