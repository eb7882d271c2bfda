-- The tests of time zones and of times agree with their definitions.
use Rattle.std.proofs.Common.{◌≡◌, ◌⊎◌, inl, inr, ℕ, ◌/◌, ◌%◌, ◌≤◌, ◌==◌, ◌&&◌, ◌||◌, nat_le, true, false, List, [], ◌∷◌, ◌++◌, codes, refl, sym, ap, subst, ◌∙◌, arith}
use Rattle.std.specs.Int.{IsInRange, is_in_range}
use Rattle.std.specs.List.{AllByRecursion}
use Rattle.std.proofs.lemmas.Bool.{cases_Bool, eqb-true}
use Rattle.std.proofs.lemmas.Bool.Decides.{nat_tests}
use Rattle.oim_period.specs.Digits.{digit, two, clock_text}
use Rattle.oim_period.proofs.Found.{both, both_yes, range_decides, le_decides}
use Rattle.oim_schema.specs.DatesTimes.{IsOffset, IsZone, none, utc, later, earlier, IsFraction, whole, point, IsTimeText, clock, midnight}
use Rattle.oim_schema.specs.DatesTimes.{number, is_offset, is_zone, is_fraction_zone, is_clock_zone, is_time_zone}
use Rattle.oim_schema.specs.Digits.{after_digits}
use Rattle.oim_schema.proofs.DateNumbers.{number_back, two_front}

offset_from : (h m : ℕ) → is_offset h m ≡ true → IsOffset h m
offset_from h m e = grind (arith, nat_tests)

offset_to : (h m : ℕ) → IsOffset h m → is_offset h m ≡ true
offset_to h m o = grind (arith, nat_tests)

offset_bounds : (h m : ℕ) → IsOffset h m → (h ≤ 14) × (m ≤ 59)
offset_bounds h m o = grind arith

offset_text : (sign a b mark c d : ℕ) → sign ≡ 43 ⊎ sign ≡ 45 → mark ≡ 58 → IsOffset (number a b) (number c d) → IsZone (sign ∷ a ∷ b ∷ mark ∷ c ∷ d ∷ [])
offset_text sign a b mark c d (inl s) e o =
    let n = offset_bounds (number a b) (number c d) o in
    let f = two_front a b (omega arith) in
    let g = two_front c d (omega arith) in
    let w : codes "+" ++ two (number a b) ++ codes ":" ++ two (number c d) ≡ sign ∷ a ∷ b ∷ mark ∷ c ∷ d ∷ [] = cc in
    subst IsZone w (later (number a b) (number c d) o)
offset_text sign a b mark c d (inr s) e o =
    let n = offset_bounds (number a b) (number c d) o in
    let f = two_front a b (omega arith) in
    let g = two_front c d (omega arith) in
    let w : codes "-" ++ two (number a b) ++ codes ":" ++ two (number c d) ≡ sign ∷ a ∷ b ∷ mark ∷ c ∷ d ∷ [] = cc in
    subst IsZone w (earlier (number a b) (number c d) o)

sign_from : (c : ℕ) → ((c == 43) || (c == 45)) ≡ true → c ≡ 43 ⊎ c ≡ 45
sign_from c e = grind (arith, nat_tests)

pub zone_from : (z : List ℕ) → is_zone z ≡ true → IsZone z
zone_from [] e = none
zone_from (c ∷ []) e = subst (λ x. IsZone (x ∷ [])) (sym (eqb-true c 90 e)) utc
zone_from (sign ∷ a ∷ b ∷ mark ∷ c ∷ d ∷ []) e =
    let h = both (((sign == 43) || (sign == 45)) && (mark == 58)) _ e in
    let k = both ((sign == 43) || (sign == 45)) _ h.0 in
    offset_text sign a b mark c d (sign_from sign k.0) (eqb-true mark 58 k.1) (offset_from (number a b) (number c d) h.1)
zone_from _ e = absurd (cc)

offset_back : (h m : ℕ) → IsOffset h m → is_offset (number (digit (h / 10)) (digit (h % 10))) (number (digit (m / 10)) (digit (m % 10))) ≡ true
offset_back h m o =
    let n = offset_bounds h m o in
    let e = number_back h (omega arith) in
    let f = number_back m (omega arith) in
    rw (e, f) (offset_to h m o)

pub zone_to : {z : List ℕ} → IsZone z → is_zone z ≡ true
zone_to none = refl
zone_to utc = refl
zone_to (later h m o) = offset_back h m o
zone_to (earlier h m o) = offset_back h m o

-- Digits at the start of a text, and what is after them.
pub digits_split : (most : ℕ) (t : List ℕ) → (digits : List ℕ) × AllByRecursion (IsInRange 48 most) digits × (t ≡ digits ++ after_digits most t)
digits_split most [] = ([], tt, refl)
digits_split most (c ∷ cs) =
    elim (cases_Bool (is_in_range 48 most c)) [
      | inl e ↦ let r = digits_split most cs in (c ∷ r.0, ((range_decides 48 most c).0 e, r.1), rw e (ap (λ x. c ∷ x) r.2))
      | inr e ↦ ([], tt, rw e refl)
    ]

not_Z : (most : ℕ) → most ≤ 57 → is_in_range 48 most 90 ≡ false
not_Z most h = grind (arith, nat_tests)

zone_starts : (most : ℕ) {z : List ℕ} → most ≤ 57 → IsZone z → after_digits most z ≡ z
zone_starts most h none = refl
zone_starts most h utc = rw (not_Z most h) refl
zone_starts most h (later x y o) = refl
zone_starts most h (earlier x y o) = refl

pub digits_after : (most : ℕ) (ds z : List ℕ) → AllByRecursion (IsInRange 48 most) ds → after_digits most z ≡ z → after_digits most (ds ++ z) ≡ z
digits_after most [] z a e = e
digits_after most (d ∷ ds) z a e = let f = (range_decides 48 most d).1 a.0 in rw f (digits_after most ds z a.1 e)

-- A fraction and a zone.
abbrev pub FractionZone : ℕ → List ℕ → Type 0
FractionZone most t = (fraction : List ℕ) × (zone : List ℕ) × IsFraction most fraction × IsZone zone × (t ≡ fraction ++ zone)

only_zone : (most : ℕ) (t : List ℕ) → is_zone t ≡ true → FractionZone most t
only_zone most t e = ([], t, whole most, zone_from t e, refl)

pub fraction_from : (most : ℕ) (t : List ℕ) → is_fraction_zone most t ≡ true → FractionZone most t
fraction_from most [] e = only_zone most [] e
fraction_from most (c ∷ []) e = only_zone most (c ∷ []) e
fraction_from most (c ∷ d ∷ cs) e =
    elim (cases_Bool (c == 46)) [
      | inl f ↦
          let g : (is_in_range 48 most d && is_zone (after_digits most cs)) ≡ true = rw f at e in
          let h = both (is_in_range 48 most d) _ g in
          let s = digits_split most cs in (
            codes "." ++ d ∷ s.0,
            after_digits most cs,
            point most d s.0 ((range_decides 48 most d).0 h.0) s.1,
            zone_from _ h.1,
            rw (eqb-true c 46 f) (ap (λ x. 46 ∷ d ∷ x) s.2),
          )
      | inr f ↦ only_zone most (c ∷ d ∷ cs) (rw f at e)
    ]

zone_alone : (most : ℕ) {z : List ℕ} → IsZone z → is_fraction_zone most z ≡ true
zone_alone most none = refl
zone_alone most utc = refl
zone_alone most (later h m o) = offset_back h m o
zone_alone most (earlier h m o) = offset_back h m o

pub fraction_to : (most : ℕ) {f z : List ℕ} → most ≤ 57 → IsFraction most f → IsZone z → is_fraction_zone most (f ++ z) ≡ true
fraction_to most h (whole m) i = zone_alone most i
fraction_to most {z = z} h (point m d ds r a) i =
    both_yes _ _ ((range_decides 48 most d).1 r) (ap is_zone (digits_after most ds z a (zone_starts most h i)) ∙ zone_to i)

-- A time and a zone.
abbrev pub TimeZone : List ℕ → Type 0
TimeZone t = (time : List ℕ) × (zone : List ℕ) × IsTimeText time × IsZone zone × (t ≡ time ++ zone)

clock_front : (a b c d e f : ℕ) → number a b ≤ 99 → number c d ≤ 99 → number e f ≤ 99
    → clock_text (number a b) (number c d) (number e f) ≡ a ∷ b ∷ 58 ∷ c ∷ d ∷ 58 ∷ e ∷ f ∷ []
clock_front a b c d e f h k l =
    let p = two_front a b (omega arith) in
    let q = two_front c d (omega arith) in
    let r = two_front e f (omega arith) in
    cc

time_of : (a b c d e f hour minute second : ℕ) (rest : List ℕ) → clock_text hour minute second ≡ a ∷ b ∷ 58 ∷ c ∷ d ∷ 58 ∷ e ∷ f ∷ [] → is_clock_zone hour minute second rest ≡ true
    → TimeZone (a ∷ b ∷ 58 ∷ c ∷ d ∷ 58 ∷ e ∷ f ∷ rest)
time_of a b c d e f hour minute second rest w t =
    elim (cases_Bool (hour == 24)) [
      | inl g ↦
          let x : ((minute == 0) && (second == 0) && is_fraction_zone 48 rest) ≡ true = rw g at t in
          let h = both ((minute == 0) && (second == 0)) _ x in
          let k = both (minute == 0) _ h.0 in
          let r = fraction_from 48 rest h.1 in
          let z : clock_text hour minute second ≡ codes "24:00:00" = rw (eqb-true hour 24 g, eqb-true minute 0 k.0, eqb-true second 0 k.1) refl in
          (codes "24:00:00" ++ r.0, r.1, midnight r.0 r.2, r.3, ap (λ s. a ∷ b ∷ 58 ∷ c ∷ d ∷ 58 ∷ e ∷ f ∷ s) r.4 ∙ ap (λ s. s ++ (r.0 ++ r.1)) (sym w ∙ z))
      | inr g ↦
          let x : (nat_le hour 23 && nat_le minute 59 && nat_le second 59 && is_fraction_zone 57 rest) ≡ true = rw g at t in
          let h = both (nat_le hour 23 && nat_le minute 59 && nat_le second 59) _ x in
          let k = both (nat_le hour 23 && nat_le minute 59) _ h.0 in
          let l = both (nat_le hour 23) _ k.0 in
          let r = fraction_from 57 rest h.1 in (
            clock_text hour minute second ++ r.0,
            r.1,
            clock hour minute second r.0 ((le_decides hour 23).0 l.0) ((le_decides minute 59).0 l.1) ((le_decides second 59).0 k.1) r.2,
            r.3,
            ap (λ s. a ∷ b ∷ 58 ∷ c ∷ d ∷ 58 ∷ e ∷ f ∷ s) r.4 ∙ ap (λ s. s ++ (r.0 ++ r.1)) (sym w),
          )
    ]

clock_bounds : (hour minute second : ℕ) (rest : List ℕ) → is_clock_zone hour minute second rest ≡ true → (hour ≤ 24) × (minute ≤ 59) × (second ≤ 59)
clock_bounds hour minute second rest t =
    elim (cases_Bool (hour == 24)) [
      | inl g ↦
          let x : ((minute == 0) && (second == 0) && is_fraction_zone 48 rest) ≡ true = rw g at t in
          let h = both ((minute == 0) && (second == 0)) _ x in
          let k = both (minute == 0) _ h.0 in
          let e = eqb-true hour 24 g in
          let f = eqb-true minute 0 k.0 in
          let i = eqb-true second 0 k.1 in
          (omega arith, omega arith, omega arith)
      | inr g ↦
          let x : (nat_le hour 23 && nat_le minute 59 && nat_le second 59 && is_fraction_zone 57 rest) ≡ true = rw g at t in
          let h = both (nat_le hour 23 && nat_le minute 59 && nat_le second 59) _ x in
          let k = both (nat_le hour 23 && nat_le minute 59) _ h.0 in
          let l = both (nat_le hour 23) _ k.0 in
          let e = (le_decides hour 23).0 l.0 in
          let f = (le_decides minute 59).0 l.1 in
          let i = (le_decides second 59).0 k.1 in
          (omega arith, omega arith, omega arith)
    ]

pub time_from : (t : List ℕ) → is_time_zone t ≡ true → TimeZone t
time_from (a ∷ b ∷ mark ∷ c ∷ d ∷ mark₂ ∷ e ∷ f ∷ rest) t =
    let h = both ((mark == 58) && (mark₂ == 58)) _ t in
    let k = both (mark == 58) _ h.0 in
    let n = clock_bounds (number a b) (number c d) (number e f) rest h.1 in
    let w = clock_front a b c d e f (omega arith) (omega arith) (omega arith) in
    let i = eqb-true mark 58 k.0 in
    let j = eqb-true mark₂ 58 k.1 in
    subst (λ m. TimeZone (a ∷ b ∷ m ∷ c ∷ d ∷ mark₂ ∷ e ∷ f ∷ rest)) (sym i)
    (subst (λ m. TimeZone (a ∷ b ∷ 58 ∷ c ∷ d ∷ m ∷ e ∷ f ∷ rest)) (sym j) (time_of a b c d e f (number a b) (number c d) (number e f) rest w h.1))
time_from _ t = absurd (cc)

not_24 : (hour : ℕ) → hour ≤ 23 → (hour == 24) ≡ false
not_24 hour h = grind (arith, nat_tests)

clock_to : (hour minute second : ℕ) (rest : List ℕ) → hour ≤ 23 → minute ≤ 59 → second ≤ 59 → is_fraction_zone 57 rest ≡ true → is_clock_zone hour minute second rest ≡ true
clock_to hour minute second rest h k l f =
    rw (not_24 hour h) (both_yes _ _ (both_yes _ _ (both_yes _ _ ((le_decides hour 23).1 h) ((le_decides minute 59).1 k)) ((le_decides second 59).1 l)) f)

pub time_to : {t z : List ℕ} → IsTimeText t → IsZone z → is_time_zone (t ++ z) ≡ true
time_to {z = z} (clock hour minute second fraction h k l f) i =
    let a = number_back hour (omega arith) in
    let b = number_back minute (omega arith) in
    let c = number_back second (omega arith) in
    rw (a, b, c) (clock_to hour minute second (fraction ++ z) h k l (fraction_to 57 (omega arith) f i))
time_to (midnight fraction f) i = fraction_to 48 (omega arith) f i
