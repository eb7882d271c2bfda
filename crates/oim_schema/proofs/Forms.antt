-- The test of the forms of dates and times agrees with their definition.
use Rattle.std.proofs.Common.{◌≡◌, ℕ, ◌/◌, ◌%◌, ◌==◌, ◌&&◌, true, Decides, List, ◌∷◌, ◌++◌, codes, refl, sym, ap, subst, ◌∙◌, arith}
use Rattle.std.specs.Int.{is_in_range}
use Rattle.std.proofs.lemmas.Bool.{eqb-true}
use Rattle.oim_period.specs.Calendar.{is_year, IsDate, is_date}
use Rattle.oim_period.specs.Dates.{IsDateText, written}
use Rattle.oim_period.specs.Digits.{digit, two, four, date_text}
use Rattle.oim_period.proofs.Found.{both, both_yes, range_decides, year_decides, date_decides}
use Rattle.oim_period.proofs.Order.{month_length-most}
use Rattle.oim_schema.specs.declared.dates.DateForm.{DateForm}
use Rattle.oim_schema.specs.declared.dates.DateForm.TheVariants.{DateTime, Time, Date, GYear, GYearMonth, GMonth, GMonthDay, GDay}
use Rattle.oim_schema.specs.DatesTimes.{IsDateForm, date_time, time, date, year, year_month, month, month_day, day, number, year_number, is_zone, is_time_zone, is_date_form}
use Rattle.oim_schema.specs.DatesTimes.{is_date_time_zone, is_date_zone, is_year_zone, is_year_month_zone, is_month_zone, is_month_day_zone, is_day_zone}
use Rattle.oim_schema.proofs.DateNumbers.{number_back, two_front, year_front, date_front, date_back, year_again, range_again}
use Rattle.oim_schema.proofs.Times.{zone_from, zone_to, TimeZone, time_from, time_to}

date_time_of : (a b c d m n t u : ℕ) (rest : List ℕ) → IsDate (year_number a b c d) (number m n) (number t u) → TimeZone rest
    → IsDateForm DateTime (a ∷ b ∷ c ∷ d ∷ 45 ∷ m ∷ n ∷ 45 ∷ t ∷ u ∷ 84 ∷ rest)
date_time_of a b c d m n t u rest v r =
    let w = date_front a b c d m n t u v in
    let s : date_text (year_number a b c d) (number m n) (number t u) ++ codes "T" ++ r.0 ++ r.1 ≡ a ∷ b ∷ c ∷ d ∷ 45 ∷ m ∷ n ∷ 45 ∷ t ∷ u ∷ 84 ∷ rest =
    ap (λ x. x ++ codes "T" ++ r.0 ++ r.1) w ∙ ap (λ x. a ∷ b ∷ c ∷ d ∷ 45 ∷ m ∷ n ∷ 45 ∷ t ∷ u ∷ 84 ∷ x) (sym r.4) in
    subst (IsDateForm DateTime) s (date_time _ r.0 r.1 (written _ _ _ v) r.2 r.3)

date_time_from : (t : List ℕ) → is_date_time_zone t ≡ true → IsDateForm DateTime t
date_time_from (a ∷ b ∷ c ∷ d ∷ mark ∷ m ∷ n ∷ mark₂ ∷ t ∷ u ∷ mark₃ ∷ rest) e =
    let h = both ((mark == 45) && (mark₂ == 45) && (mark₃ == 84) && is_date (year_number a b c d) (number m n) (number t u)) _ e in
    let k = both ((mark == 45) && (mark₂ == 45) && (mark₃ == 84)) _ h.0 in
    let l = both ((mark == 45) && (mark₂ == 45)) _ k.0 in
    let o = both (mark == 45) _ l.0 in
    let v = (date_decides (year_number a b c d) (number m n) (number t u)).0 k.1 in
    subst (λ x. IsDateForm DateTime (a ∷ b ∷ c ∷ d ∷ x ∷ m ∷ n ∷ mark₂ ∷ t ∷ u ∷ mark₃ ∷ rest)) (sym (eqb-true mark 45 o.0))
    (subst (λ x. IsDateForm DateTime (a ∷ b ∷ c ∷ d ∷ 45 ∷ m ∷ n ∷ x ∷ t ∷ u ∷ mark₃ ∷ rest)) (sym (eqb-true mark₂ 45 o.1))
    (subst (λ x. IsDateForm DateTime (a ∷ b ∷ c ∷ d ∷ 45 ∷ m ∷ n ∷ 45 ∷ t ∷ u ∷ x ∷ rest)) (sym (eqb-true mark₃ 84 l.1))
    (date_time_of a b c d m n t u rest v (time_from rest h.1))))
date_time_from _ e = absurd (cc)

date_from : (t : List ℕ) → is_date_zone t ≡ true → IsDateForm Date t
date_from (a ∷ b ∷ c ∷ d ∷ mark ∷ m ∷ n ∷ mark₂ ∷ t ∷ u ∷ zone) e =
    let h = both ((mark == 45) && (mark₂ == 45) && is_date (year_number a b c d) (number m n) (number t u)) _ e in
    let k = both ((mark == 45) && (mark₂ == 45)) _ h.0 in
    let o = both (mark == 45) _ k.0 in
    let v = (date_decides (year_number a b c d) (number m n) (number t u)).0 k.1 in
    let w = date_front a b c d m n t u v in
    let f = eqb-true mark 45 o.0 in
    let g = eqb-true mark₂ 45 o.1 in
    let s : date_text (year_number a b c d) (number m n) (number t u) ++ zone ≡ a ∷ b ∷ c ∷ d ∷ mark ∷ m ∷ n ∷ mark₂ ∷ t ∷ u ∷ zone =
    ap (λ x. x ++ zone) w ∙ rw (f, g) refl in
    subst (IsDateForm Date) s (date _ zone (written _ _ _ v) (zone_from zone h.1))
date_from _ e = absurd (cc)

year_from : (t : List ℕ) → is_year_zone t ≡ true → IsDateForm GYear t
year_from (a ∷ b ∷ c ∷ d ∷ zone) e =
    let h = both (is_year (year_number a b c d)) _ e in
    let v = (year_decides (year_number a b c d)).0 h.0 in
    subst (IsDateForm GYear) (ap (λ x. x ++ zone) (year_front a b c d v)) (year _ zone v (zone_from zone h.1))
year_from _ e = absurd (cc)

year_month_from : (t : List ℕ) → is_year_month_zone t ≡ true → IsDateForm GYearMonth t
year_month_from (a ∷ b ∷ c ∷ d ∷ mark ∷ m ∷ n ∷ zone) e =
    let h = both ((mark == 45) && is_year (year_number a b c d) && is_in_range 1 12 (number m n)) _ e in
    let k = both ((mark == 45) && is_year (year_number a b c d)) _ h.0 in
    let o = both (mark == 45) _ k.0 in
    let v = (year_decides (year_number a b c d)).0 o.1 in
    let w = (range_decides 1 12 (number m n)).0 k.1 in
    let f = year_front a b c d v in
    let g = two_front m n (omega arith) in
    let i = eqb-true mark 45 o.0 in
    let s : four (year_number a b c d) ++ codes "-" ++ two (number m n) ++ zone ≡ a ∷ b ∷ c ∷ d ∷ mark ∷ m ∷ n ∷ zone =
    ap (λ x. x ++ codes "-" ++ two (number m n) ++ zone) f ∙ ap (λ x. a ∷ b ∷ c ∷ d ∷ 45 ∷ (x ++ zone)) g ∙ rw i refl in
    subst (IsDateForm GYearMonth) s (year_month _ _ zone v w (zone_from zone h.1))
year_month_from _ e = absurd (cc)

month_from : (t : List ℕ) → is_month_zone t ≡ true → IsDateForm GMonth t
month_from (mark ∷ mark₂ ∷ m ∷ n ∷ zone) e =
    let h = both ((mark == 45) && (mark₂ == 45) && is_in_range 1 12 (number m n)) _ e in
    let k = both ((mark == 45) && (mark₂ == 45)) _ h.0 in
    let o = both (mark == 45) _ k.0 in
    let w = (range_decides 1 12 (number m n)).0 k.1 in
    let g = two_front m n (omega arith) in
    let i = eqb-true mark 45 o.0 in
    let j = eqb-true mark₂ 45 o.1 in
    let s : codes "--" ++ two (number m n) ++ zone ≡ mark ∷ mark₂ ∷ m ∷ n ∷ zone = ap (λ x. 45 ∷ 45 ∷ (x ++ zone)) g ∙ rw (i, j) refl in
    subst (IsDateForm GMonth) s (month _ zone w (zone_from zone h.1))
month_from _ e = absurd (cc)

month_day_from : (t : List ℕ) → is_month_day_zone t ≡ true → IsDateForm GMonthDay t
month_day_from (mark ∷ mark₂ ∷ m ∷ n ∷ mark₃ ∷ t ∷ u ∷ zone) e =
    let h = both ((mark == 45) && (mark₂ == 45) && (mark₃ == 45) && is_date 4 (number m n) (number t u)) _ e in
    let k = both ((mark == 45) && (mark₂ == 45) && (mark₃ == 45)) _ h.0 in
    let l = both ((mark == 45) && (mark₂ == 45)) _ k.0 in
    let o = both (mark == 45) _ l.0 in
    let v = (date_decides 4 (number m n) (number t u)).0 k.1 in
    let most = month_length-most 4 (number m n) in
    let f = two_front m n (omega arith) in
    let g = two_front t u (omega arith) in
    let i = eqb-true mark 45 o.0 in
    let j = eqb-true mark₂ 45 o.1 in
    let x = eqb-true mark₃ 45 l.1 in
    let s : codes "--" ++ two (number m n) ++ codes "-" ++ two (number t u) ++ zone ≡ mark ∷ mark₂ ∷ m ∷ n ∷ mark₃ ∷ t ∷ u ∷ zone =
    ap (λ x. 45 ∷ 45 ∷ (x ++ codes "-" ++ two (number t u) ++ zone)) f ∙ ap (λ x. 45 ∷ 45 ∷ m ∷ n ∷ 45 ∷ (x ++ zone)) g ∙ rw (i, j, x) refl in
    subst (IsDateForm GMonthDay) s (month_day _ _ zone v (zone_from zone h.1))
month_day_from _ e = absurd (cc)

day_from : (t : List ℕ) → is_day_zone t ≡ true → IsDateForm GDay t
day_from (mark ∷ mark₂ ∷ mark₃ ∷ t ∷ u ∷ zone) e =
    let h = both ((mark == 45) && (mark₂ == 45) && (mark₃ == 45) && is_in_range 1 31 (number t u)) _ e in
    let k = both ((mark == 45) && (mark₂ == 45) && (mark₃ == 45)) _ h.0 in
    let l = both ((mark == 45) && (mark₂ == 45)) _ k.0 in
    let o = both (mark == 45) _ l.0 in
    let w = (range_decides 1 31 (number t u)).0 k.1 in
    let g = two_front t u (omega arith) in
    let i = eqb-true mark 45 o.0 in
    let j = eqb-true mark₂ 45 o.1 in
    let x = eqb-true mark₃ 45 l.1 in
    let s : codes "---" ++ two (number t u) ++ zone ≡ mark ∷ mark₂ ∷ mark₃ ∷ t ∷ u ∷ zone = ap (λ x. 45 ∷ 45 ∷ 45 ∷ (x ++ zone)) g ∙ rw (i, j, x) refl in
    subst (IsDateForm GDay) s (day _ zone w (zone_from zone h.1))
day_from _ e = absurd (cc)

zoned_time_from : (t : List ℕ) → is_time_zone t ≡ true → IsDateForm Time t
zoned_time_from t e = let r = time_from t e in subst (IsDateForm Time) (sym r.4) (time r.0 r.1 r.2 r.3)

form_from : (form : DateForm) (t : List ℕ) → is_date_form form t ≡ true → IsDateForm form t
unfolding is_date_form
form_from DateTime t e = date_time_from t e
form_from Time t e = zoned_time_from t e
form_from Date t e = date_from t e
form_from GYear t e = year_from t e
form_from GYearMonth t e = year_month_from t e
form_from GMonth t e = month_from t e
form_from GMonthDay t e = month_day_from t e
form_from GDay t e = day_from t e

date_to : {d : List ℕ} (rest : List ℕ) → IsDateText d → is_zone rest ≡ true → is_date_zone (d ++ rest) ≡ true
date_to rest (written y m d v) h = both_yes _ _ (date_back y m d v) h

date_again : (m d : ℕ) → IsDate 4 m d → is_date 4 (number (digit (m / 10)) (digit (m % 10))) (number (digit (d / 10)) (digit (d % 10))) ≡ true
date_again m d v =
    let most = month_length-most 4 m in
    let f = number_back m (omega arith) in
    let g = number_back d (omega arith) in
    rw (f, g) ((date_decides 4 m d).1 v)

form_to : {form : DateForm} {t : List ℕ} → IsDateForm form t → is_date_form form t ≡ true
unfolding is_date_form
form_to (date_time d t zone (written y m n v) j k) = both_yes _ _ (date_back y m n v) (time_to j k)
form_to (time t zone j k) = time_to j k
form_to (date d zone i k) = date_to zone i (zone_to k)
form_to (year y zone v k) = both_yes _ _ (year_again y v) (zone_to k)
form_to (year_month y m zone v w k) = both_yes _ _ (both_yes _ _ (year_again y v) (range_again 1 12 m (omega arith) w)) (zone_to k)
form_to (month m zone w k) = both_yes _ _ (range_again 1 12 m (omega arith) w) (zone_to k)
form_to (month_day m d zone v k) = both_yes _ _ (date_again m d v) (zone_to k)
form_to (day d zone w k) = both_yes _ _ (range_again 1 31 d (omega arith) w) (zone_to k)

pub form_Decides : (form : DateForm) (t : List ℕ) → Decides (is_date_form form t) (IsDateForm form t)
form_Decides form t = (form_from form t, form_to)
