-- The numbers of a written date or time, and the places of its parts in a text.
use Rattle.std.proofs.Common.{◌≡◌, ℕ, ◌+◌, ◌*◌, ◌/◌, ◌%◌, List, [], ◌∷◌, refl, length}
use Rattle.oim_period.specs.Calendar.{day_number, IsDate, IsClock}
use Rattle.oim_period.specs.Digits.{digit}
use Rattle.oim_period.specs.Table.{IsDay, date, IsTime, clock}
use Rattle.oim_period.specs.state.Reads.{AreDigits}

pub of_date : {x : List ℕ} {k : ℕ} → IsDay x k → (a b c d m n t u : ℕ) → x ≡ a ∷ b ∷ c ∷ d ∷ 45 ∷ m ∷ n ∷ 45 ∷ t ∷ u ∷ []
    → (year : ℕ) × (month : ℕ) × (day : ℕ) × IsDate year month day × AreDigits year a b c d × (m ≡ digit (month / 10)) × (n ≡ digit (month % 10))
    × (t ≡ digit (day / 10)) × (u ≡ digit (day % 10)) × (k ≡ day_number year month day)
of_date (date year month day r) a b c d m n t u e = (year, month, day, r, (cc, cc, cc, cc), cc, cc, cc, cc, refl)

pub of_time : {x : List ℕ} {k : ℕ} → IsTime x k → (a b c d e f : ℕ) → x ≡ a ∷ b ∷ 58 ∷ c ∷ d ∷ 58 ∷ e ∷ f ∷ []
    → (hour : ℕ) × (minute : ℕ) × (second : ℕ) × IsClock hour minute second × (a ≡ digit (hour / 10)) × (b ≡ digit (hour % 10)) × (c ≡ digit (minute / 10))
    × (d ≡ digit (minute % 10)) × (e ≡ digit (second / 10)) × (f ≡ digit (second % 10)) × (k ≡ 3600 * hour + 60 * minute + second)
of_time (clock hour minute second r) a b c d e f eq = (hour, minute, second, r, cc, cc, cc, cc, cc, cc, refl)

pub length-date : {x : List ℕ} {k : ℕ} → IsDay x k → length x ≡ 10
length-date (date year month day r) = refl

pub length-time : {x : List ℕ} {k : ℕ} → IsTime x k → length x ≡ 8
length-time (clock hour minute second r) = refl
