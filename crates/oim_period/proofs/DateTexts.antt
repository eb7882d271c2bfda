-- The reader of dates and the test of dates agree with the table.
use Rattle.std.proofs.Common.{◌≡◌, ℕ, true, Decides, List, Option, Some, None, is_some, refl, bytes_eq}
use Rattle.std.proofs.lemmas.Bool.Decides.{same_from_decides}
use Rattle.std.proofs.lemmas.Slice.Eq.{bytes_eq-Decides}
use Rattle.oim_period.specs.Calendar.{is_date}
use Rattle.oim_period.specs.Dates.{IsDateText, written, is_written_date, is_date_text}
use Rattle.oim_period.specs.Digits.{date_text, four_at, two_at}
use Rattle.oim_period.specs.Reads.{IsOnly}
use Rattle.oim_period.specs.Table.{IsDay, date}
use Rattle.oim_period.proofs.Found.{two_back, four_back, both, both_yes, date_decides}

of_day : {t : List ℕ} {n : ℕ} → IsDay t n → IsDateText t
of_day (date y m d h) = written y m d h

day_of : {t : List ℕ} → IsDateText t → (n : ℕ) × IsDay t n
day_of (written y m d h) = (_, date y m d h)

-- A reader of days that returns the only one decides whether the text is a date.
pub day_tells : (t : List ℕ) (o : Option ℕ) → IsOnly (IsDay t) o → Decides (is_some o) (IsDateText t)
day_tells t None h = (λ e. cc e, λ w. let d = day_of w in absurd (h d.0 d.1))
day_tells t (Some n) h = (λ e. of_day h.0, λ w. refl)

written_when : (t : List ℕ) (y m d : ℕ) → is_written_date t y m d ≡ true → IsDateText t
written_when t y m d e =
    let h = both (bytes_eq t (date_text y m d)) (is_date y m d) e in
    rw ((bytes_eq-Decides t (date_text y m d)).0 h.0) (written y m d ((date_decides y m d).0 h.1))

test_of : {t : List ℕ} → IsDateText t → is_date_text t ≡ true
unfolding is_date_text
test_of (written y m d h) =
    let t = date_text y m d in
    rw (four_back t 0 y refl refl refl refl, two_back t 5 m refl refl, two_back t 8 d refl refl)
    (both_yes _ _ ((bytes_eq-Decides t t).1 refl) ((date_decides y m d).1 h))

date_text_Decides : (t : List ℕ) → Decides (is_date_text t) (IsDateText t)
unfolding is_date_text
date_text_Decides t = (written_when t (four_at 0 t) (two_at 5 t) (two_at 8 t), test_of)

-- So the reader and the test agree.
pub day_test : (t : List ℕ) (o : Option ℕ) → IsOnly (IsDay t) o → is_some o ≡ is_date_text t
day_test t o h = same_from_decides (is_some o) (is_date_text t) (day_tells t o h) (date_text_Decides t)
