-- `moment_of` and `duration_of` have exactly the values of the table.
use Rattle.std.proofs.Common.{◌≡◌, ℕ, ◌+◌, ◌*◌, ◌<◌, Bool, true, false, ◌&&◌, nat_lt, cond, List, ◌++◌, codes, take, drop, Option, Some, None, IfSome, option_and_then, refl, arith, length-append}
use Rattle.std.proofs.lemmas.Bool.Decides.{Decides-ltb}
use Rattle.oim_period.specs.Calendar.{IsDate, is_date, IsClock, is_clock, day_number, day_limit, midnight, seconds_at}
use Rattle.oim_period.specs.Digits.{date_text, clock_text, two_at, four_at}
use Rattle.oim_period.specs.Periods.{found, moment_by, moment_of, days_of, whole_days, in_order, pair_of, duration_of}
use Rattle.oim_period.specs.Table.{date, clock, IsMoment, date_time, IsDuration, days, moments}
use Rattle.oim_period.proofs.Found.{found_tells, found_is, first_tells, first_here, first_later, none_tells, none_from, two_back, four_back, both, both_yes, date_decides, clock_decides}
use Rattle.oim_period.proofs.FoundDays.{days_tell, days_found, Named}
use Rattle.oim_period.proofs.Ends.{length-moment, length-days}
use Rattle.oim_period.proofs.Split.{parts_of}

is_right : ℕ → ℕ → ℕ → ℕ → ℕ → ℕ → Bool
is_right y m d hour minute second = is_date y m d && is_clock hour minute second && nat_lt (seconds_at (day_number y m d) (3600 * hour + 60 * minute + second)) (midnight day_limit)

at_of : ℕ → ℕ → ℕ → ℕ → ℕ → ℕ → ℕ
at_of y m d hour minute second = seconds_at (day_number y m d) (3600 * hour + 60 * minute + second)

of_moment : (t : List ℕ) (y m d hour minute second : ℕ) → t ≡ date_text y m d ++ codes "T" ++ clock_text hour minute second → is_right y m d hour minute second ≡ true
    → IsMoment t (at_of y m d hour minute second)
unfolding is_right at_of
of_moment t y m d hour minute second e v =
    let at = seconds_at (day_number y m d) (3600 * hour + 60 * minute + second) in
    let h = both (is_date y m d && is_clock hour minute second) (nat_lt at (midnight day_limit)) v in
    let k = both (is_date y m d) _ h.0 in
    rw e (date_time _ _ _ _ (date y m d ((date_decides y m d).0 k.0)) (clock hour minute second ((clock_decides hour minute second).0 k.1)) ((Decides-ltb at (midnight day_limit)).0 h.1))

pub moment_tells : (t : List ℕ) → IfSome (moment_of t) (IsMoment t)
unfolding moment_of moment_by is_right at_of
moment_tells t = found_tells (IsMoment t) t _ _ _ (of_moment t (four_at 0 t) (two_at 5 t) (two_at 8 t) (two_at 11 t) (two_at 14 t) (two_at 17 t))

by_moment : (y m d hour minute second : ℕ) → IsDate y m d → IsClock hour minute second → at_of y m d hour minute second < midnight day_limit
    → moment_by (date_text y m d ++ codes "T" ++ clock_text hour minute second) y m d hour minute second ≡ Some (at_of y m d hour minute second)
unfolding moment_by at_of
by_moment y m d hour minute second h k b =
    let at = seconds_at (day_number y m d) (3600 * hour + 60 * minute + second) in
    found_is _ _ _ _ refl (both_yes _ _ (both_yes _ _ ((date_decides y m d).1 h) ((clock_decides hour minute second).1 k)) ((Decides-ltb at (midnight day_limit)).1 b))

pub moment_found : {t : List ℕ} {k : ℕ} → IsMoment t k → moment_of t ≡ Some k
unfolding moment_of at_of
moment_found (date_time t t₂ n s (date y m d h) (clock hour minute second k) b) =
    let t = date_text y m d ++ codes "T" ++ clock_text hour minute second in
    rw (four_back t 0 y refl refl refl refl, two_back t 5 m refl refl, two_back t 8 d refl refl, two_back t 11 hour refl refl, two_back t 14 minute refl refl, two_back t 17 second refl refl)
    (by_moment y m d hour minute second h k b)

-- The ends of a duration, as a pair.
abbrev pub Lasts : List ℕ → ℕ × ℕ → Type 0
Lasts t e = IsDuration t e.0 e.1

whole_tells : (t : List ℕ) (o : Option (ℕ × ℕ)) → IfSome o (Named t) → IfSome (whole_days o) (Lasts t)
unfolding whole_days
whole_tells t None h = tt
whole_tells t (Some e) h = by (nat_lt e.1 day_limit) refl
  where
    by : (b : Bool) → nat_lt e.1 day_limit ≡ b → IfSome (cond b (Some (midnight e.0, midnight e.1)) None) (Lasts t)
    by true w = days t e.0 e.1 h ((Decides-ltb e.1 day_limit).0 w)
    by false w = tt

ordered_tells : (t s u : List ℕ) (o p : Option ℕ) → t ≡ s ++ codes "/" ++ u → IfSome o (IsMoment s) → IfSome p (IsMoment u) → IfSome (in_order o p) (Lasts t)
unfolding in_order
ordered_tells t s u None p e h k = tt
ordered_tells t s u (Some a) None e h k = tt
ordered_tells t s u (Some a) (Some b) e h k = by (nat_lt a b) refl
  where
    by : (r : Bool) → nat_lt a b ≡ r → IfSome (cond r (Some (a, b)) None) (Lasts t)
    by true w = rw e (moments s u a b h k ((Decides-ltb a b).0 w))
    by false w = tt

then_tells : {A B : Type 0} (P : B → Type 0) (f : A → Option B) (o : Option A) → IfSome o (λ x. IfSome (f x) P) → IfSome (option_and_then f o) P
then_tells P f None h = tt
then_tells P f (Some x) h = h

pair_tells : (t : List ℕ) → IfSome (pair_of t) (Lasts t)
unfolding pair_of
pair_tells t =
    then_tells (Lasts t) (λ halves. in_order (moment_of (take 19 t)) (moment_of (drop 20 t))) _
    (found_tells _ t _ _ _ (λ e v. ordered_tells t (take 19 t) (drop 20 t) _ _ e (moment_tells (take 19 t)) (moment_tells (drop 20 t))))

pub duration_tells : (t : List ℕ) → IfSome (duration_of t) (Lasts t)
unfolding duration_of
duration_tells t =
    first_tells (Lasts t) _ _ (whole_tells t (days_of t) (days_tell t))
    (first_tells (Lasts t) _ _ (pair_tells t)
    (none_tells (Lasts t)))

whole_found : (f a : ℕ) → a < day_limit → whole_days (Some (f, a)) ≡ Some (midnight f, midnight a)
unfolding whole_days
whole_found f a h = let e = (Decides-ltb a day_limit).1 h in rw e refl

no_whole : whole_days None ≡ None
unfolding whole_days
no_whole = refl

ordered_found : (a b : ℕ) → a < b → in_order (Some a) (Some b) ≡ Some (a, b)
unfolding in_order
ordered_found a b h = let e = (Decides-ltb a b).1 h in rw e refl

pair_found : (s u : List ℕ) (a b : ℕ) → IsMoment s a → IsMoment u b → a < b → pair_of (s ++ codes "/" ++ u) ≡ Some (a, b)
unfolding pair_of
pair_found s u a b m n o =
    let t = s ++ codes "/" ++ u in
    let p = parts_of s (codes "/") u t 19 refl (length-moment m) in
    let q : found t (s ++ codes "/" ++ u) true t ≡ Some t = found_is _ _ _ _ refl refl in
    rw (← p.0, ← p.1, q, moment_found m, moment_found n) (ordered_found a b o)

not_days : {s u : List ℕ} {a b : ℕ} → IsMoment s a → IsMoment u b → days_of (s ++ codes "/" ++ u) ≡ None
not_days {s} {u} m n =
    let t = s ++ codes "/" ++ u in
    none_from (Named t) (days_of t) (days_tell t) (λ e d. absurd (omega (arith, (length-days d).0, length-append (s ++ codes "/") u, length-append s (codes "/"), length-moment m, length-moment n)))

pub duration_found : {t : List ℕ} {a b : ℕ} → IsDuration t a b → duration_of t ≡ Some (a, b)
unfolding duration_of
duration_found (days t f a d b) = first_here _ _ _ (rw (days_found d) (whole_found f a b))
duration_found (moments s u a b m n o) =
    first_later _ _ _ (rw (not_days m n) no_whole) (first_here _ _ _ (pair_found s u a b m n o))
