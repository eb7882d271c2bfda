-- The parts of moments and times, and the last characters of their texts.
use Rattle.std.proofs.Common.{◌≡◌, ℕ, ◌+◌, ◌-◌, ◌*◌, ◌<◌, ◌≤◌, ◌⊎◌, inl, inr, List, [], ◌∷◌, ◌++◌, take, drop, refl, sym, ap, ◌∙◌, arith, length, get_or, length-append, append_assoc, codes}
use Rattle.std.proofs.lemmas.List.{get_or-append_right}
use Rattle.std.proofs.Math.Seq.{get_or-append_seam, take-append_seam}
use Rattle.oim_period.specs.Calendar.{seconds_at, midnight, day_limit, day_number}
use Rattle.oim_period.specs.Digits.{date_text, clock_text}
use Rattle.oim_period.specs.Periods.{Reading, instant, duration}
use Rattle.oim_period.specs.Table.{IsWrittenMoment, written, IsDay, date, IsTime, clock, IsMoment, date_time, IsDays, in_year, range, year, month, quarter, half}
use Rattle.oim_period.specs.Table.{week_of_one_digit, week, day, IsDuration, days, moments, Means, moment, span, at_start, at_end}
use Rattle.oim_period.proofs.Bridge.{day_number-bound}
use Rattle.oim_period.proofs.Split.{parts_of}
use Rattle.oim_period.proofs.Written.{length-date, length-time}
use Rattle.oim_period.proofs.WholeDays.{length-in_year}

pub pair_is : (x : ℕ × ℕ) (a b : ℕ) → x.0 ≡ a → x.1 ≡ b → x ≡ (a, b)
pair_is x a b e f = rw (← e, ← f) refl

seam : (s t : List ℕ) (n a : ℕ) → length s ≡ n → get_or ((s ++ (a ∷ [])) ++ t) n 0 ≡ a
seam s t n a l =
    rw (append_assoc s (a ∷ []) t) (ap (λ i. get_or (s ++ a ∷ t) i 0) (sym l) ∙ get_or-append_seam s a t 0)

pub of_moment : {x : List ℕ} {k : ℕ} → IsMoment x k → (n : ℕ) × (s : ℕ) × IsDay (take 10 x) n × IsTime (drop 11 x) s × (length x ≡ 19) × (get_or x 10 0 ≡ 84)
    × (seconds_at n s < midnight day_limit) × (k ≡ seconds_at n s)
of_moment (date_time t t₂ n s d h b) =
    let p = parts_of t (codes "T") t₂ _ 10 refl (length-date d) in
    (n, s, rw (p.0) at d, rw (p.1) at h, simp length-append (omega (arith, length-date d, length-time h)), seam t t₂ 10 84 (length-date d), b, refl)

pub length-moment : {x : List ℕ} {k : ℕ} → IsMoment x k → length x ≡ 19
length-moment m = (of_moment m).4

pub length-days : {x : List ℕ} {f a : ℕ} → IsDays x f a → (length x ≤ 22) × (length x ≡ 19 → ⊥)
length-days (in_year y tail f a r p) = (omega (arith, length-in_year p), λ e. absurd (omega (arith, length-in_year p, e)))
length-days (range t t₂ f l d d₂ o) =
    let n : length (t ++ codes ".." ++ t₂) ≡ 22 = simp length-append (omega (arith, length-date d, length-date d₂)) in
    (omega arith, λ e. omega arith)

pub of_pair : {x : List ℕ} {s e : ℕ} → IsDuration x s e → length x ≡ 39 → IsMoment (take 19 x) s × IsMoment (drop 20 x) e × (s < e) × (get_or x 19 0 ≡ 47)
of_pair (days t f a d b) l = absurd (omega (arith, (length-days d).0, l))
of_pair (moments t t₂ s e m n o) l =
    let p = parts_of t (codes "/") t₂ _ 19 refl (length-moment m) in
    (rw (p.0) at m, rw (p.1) at n, o, seam t t₂ 19 47 (length-moment m))

pub of_days : {x : List ℕ} {s e : ℕ} → IsDuration x s e → (length x ≡ 39 → ⊥) → (f : ℕ) × (a : ℕ) × IsDays x f a × (a < day_limit) × (s ≡ midnight f) × (e ≡ midnight a)
of_days (days t f a d b) l = (f, a, d, b, refl, refl)
of_days (moments t t₂ s e m n o) l = absurd (l (simp length-append (omega (arith, length-moment m, length-moment n))))

pub not_moment : {x : List ℕ} {s e : ℕ} → IsDuration x s e → length x ≡ 19 → ⊥
not_moment (days t f a d b) l = (length-days d).1 l
not_moment (moments t t₂ s e m n o) l =
    let k : length (t ++ codes "/" ++ t₂) ≡ 39 = simp length-append (omega (arith, length-moment m, length-moment n)) in absurd (omega arith)

-- The last character.
abbrev pub last : List ℕ → ℕ
last x = get_or x (length x - 1) 0

pub last-append : (s t : List ℕ) → 1 ≤ length t → last (s ++ t) ≡ last t
last-append s t h =
    let n : length (s ++ t) ≡ length s + length t = length-append s t in
    let i : length s + length t - 1 - length s ≡ length t - 1 = omega arith in
    rw n (get_or-append_right s t (length s) (length s + length t - 1) 0 refl (omega arith) ∙ ap (λ k. get_or t k 0) i)

last-date : {x : List ℕ} {k : ℕ} → IsDay x k → last x ≤ 57
last-date (date y m d r) = omega arith

last-time : {x : List ℕ} {k : ℕ} → IsTime x k → last x ≤ 57
last-time (clock h m s r) = omega arith

pub last-moment : {x : List ℕ} {k : ℕ} → IsMoment x k → last x ≤ 57
last-moment (date_time t t₂ n s d h b) =
    rw (last-append (t ++ codes "T") t₂ (omega (arith, length-time h))) (last-time h)

last-days : {x : List ℕ} {f a : ℕ} → IsDays x f a → last x ≤ 57
last-days (in_year y tail f a r (year z)) = omega arith
last-days (in_year y tail f a r (month z m p)) = omega arith
last-days (in_year y tail f a r (quarter z q p)) = omega arith
last-days (in_year y tail f a r (half z h p)) = omega arith
last-days (in_year y tail f a r (week_of_one_digit z n p w)) = omega arith
last-days (in_year y tail f a r (week z n p w)) = omega arith
last-days (in_year y tail f a r (day z m d p)) = omega arith
last-days (range t t₂ f l d d₂ o) = rw (last-append (t ++ codes "..") t₂ (omega (arith, length-date d₂))) (last-date d₂)

pub last-duration : {x : List ℕ} {s e : ℕ} → IsDuration x s e → last x ≤ 57
last-duration (days t f a d b) = last-days d
last-duration (moments t t₂ s e m n o) = rw (last-append (t ++ codes "/") t₂ (omega (arith, length-moment n))) (last-moment n)

same_front : (a b p : List ℕ) → a ++ p ≡ b ++ p → a ≡ b
same_front a b p e =
    let l : length a ≡ length b = omega (arith, ap length e, length-append a p, length-append b p) in
    sym (take-append_seam a p) ∙ rw (l, e) (take-append_seam b p)

pub of_start : {x : List ℕ} {r : Reading} → Means x r → (w : List ℕ) → x ≡ w ++ codes "@start" → (s : ℕ) × (e : ℕ) × IsDuration w s e × (r ≡ instant s)
of_start (moment t k m) w e = absurd (omega (arith, last-moment m, ap last e, last-append w (codes "@start") (omega arith)))
of_start (span t s z d) w e = absurd (omega (arith, last-duration d, ap last e, last-append w (codes "@start") (omega arith)))
of_start (at_start t s z d) w e = let same : t ≡ w = same_front t w (codes "@start") e in (s, z, rw same at d, refl)
of_start (at_end t s z d) w e = absurd (omega (arith, ap last e, last-append w (codes "@start") (omega arith), last-append t (codes "@end") (omega arith)))

pub of_end : {x : List ℕ} {r : Reading} → Means x r → (w : List ℕ) → x ≡ w ++ codes "@end" → (s : ℕ) × (e : ℕ) × IsDuration w s e × (r ≡ instant e)
of_end (moment t k m) w e = absurd (omega (arith, last-moment m, ap last e, last-append w (codes "@end") (omega arith)))
of_end (span t s z d) w e = absurd (omega (arith, last-duration d, ap last e, last-append w (codes "@end") (omega arith)))
of_end (at_start t s z d) w e = absurd (omega (arith, ap last e, last-append w (codes "@end") (omega arith), last-append t (codes "@start") (omega arith)))
of_end (at_end t s z d) w e = let same : t ≡ w = same_front t w (codes "@end") e in (s, z, rw same at d, refl)

pub of_plain : {x : List ℕ} {r : Reading} → Means x r → ((w : List ℕ) → x ≡ w ++ codes "@start" → ⊥) → ((w : List ℕ) → x ≡ w ++ codes "@end" → ⊥)
    → ((k : ℕ) × IsMoment x k × (r ≡ instant k)) ⊎ ((s : ℕ) × (e : ℕ) × IsDuration x s e × (r ≡ duration s e))
of_plain (moment t k m) no_start no_end = inl (k, m, refl)
of_plain (span t s z d) no_start no_end = inr (s, z, d, refl)
of_plain (at_start t s z d) no_start no_end = absurd (no_start t refl)
of_plain (at_end t s z d) no_start no_end = absurd (no_end t refl)

-- A written text can be read.
pub moment_of_written : {x : List ℕ} {k : ℕ} → IsWrittenMoment x k → IsMoment x k
moment_of_written (written y m d hour minute second r h n s) =
    let b = day_number-bound y m d r in
    date_time (date_text y m d) (clock_text hour minute second) (day_number y m d) (3600 * hour + 60 * minute + second) (date y m d r) (clock hour minute second (inl (h, n, s))) (omega arith)
