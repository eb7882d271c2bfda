-- The values of `found` and `first_some`, and what the tests of the calendar decide.
use Rattle.std.proofs.Common.{◌≡◌, ℕ, ◌+◌, ◌/◌, ◌%◌, ◌≤◌, Bool, true, false, ◌&&◌, Decides, bytes_eq, nat_le, nat_lt, if◌then◌else◌, List, [], ◌∷◌, Option, Some, None, IfSome, refl, ap, arith, get_or}
use Rattle.std.specs.Int.{IsInRange, is_in_range}
use Rattle.std.proofs.lemmas.Bool.Decides.{nat_tests, Decides-ltb, Decides-and}
use Rattle.std.proofs.lemmas.Slice.Eq.{bytes_eq-Decides}
use Rattle.oim_period.specs.Calendar.{IsYear, is_year, IsDate, is_date, IsWeek, is_week, IsClock, is_clock, days_in_month, week_start, day_number}
use Rattle.oim_period.specs.Digits.{digit, one_at, two_at, four_at}
use Rattle.oim_period.specs.Periods.{found, first_some}
use Rattle.oim_period.specs.Reads.{IsOnly}

pub found_tells : {A : Type 0} (P : A → Type 0) (t w : List ℕ) (v : Bool) (x : A) → (t ≡ w → v ≡ true → P x) → IfSome (found t w v x) P
unfolding found
found_tells {A} P t w v x h = by (bytes_eq t w) v refl h
  where
    by : (b v : Bool) → bytes_eq t w ≡ b → (t ≡ w → v ≡ true → P x) → IfSome (if b && v then Some x else None) P
    by true true e h = h ((bytes_eq-Decides t w).0 e) refl
    by true false e h = tt
    by false v e h = tt

pub found_is : {A : Type 0} (t w : List ℕ) (v : Bool) (x : A) → t ≡ w → v ≡ true → found t w v x ≡ Some x
unfolding found
found_is t w v x e f = let b = (bytes_eq-Decides t w).1 e in rw (b, f) refl

pub found_not : {A : Type 0} (t w : List ℕ) (v : Bool) (x : A) → (t ≡ w → ⊥) → found t w v x ≡ None
unfolding found
found_not t w v x n = by (bytes_eq t w) refl
  where
    by : (b : Bool) → bytes_eq t w ≡ b → (if b && v then Some x else None) ≡ None
    by true e = absurd (n ((bytes_eq-Decides t w).0 e))
    by false e = refl

pub first_tells : {A : Type 0} (P : A → Type 0) (o : Option A) (os : List (Option A)) → IfSome o P → IfSome (first_some os) P → IfSome (first_some (o ∷ os)) P
unfolding first_some
first_tells P None os h k = k
first_tells P (Some x) os h k = h

pub none_tells : {A : Type 0} (P : A → Type 0) → IfSome (first_some []) P
unfolding first_some
none_tells P = tt

pub first_here : {A : Type 0} (o : Option A) (os : List (Option A)) (x : A) → o ≡ Some x → first_some (o ∷ os) ≡ Some x
unfolding first_some
first_here o os x e = rw e refl

pub first_later : {A : Type 0} (o : Option A) (os : List (Option A)) (r : Option A) → o ≡ None → first_some os ≡ r → first_some (o ∷ os) ≡ r
unfolding first_some
first_later o os r e f = rw e f

-- The text has the first form, or it does not.
pub hit : {A : Type 0} (t w : List ℕ) (v : Bool) (x : A) (os : List (Option A)) → t ≡ w → v ≡ true → first_some (found t w v x ∷ os) ≡ Some x
hit t w v x os e f = first_here _ os x (found_is t w v x e f)

pub skip : {A : Type 0} (t w : List ℕ) (v : Bool) (x : A) (os : List (Option A)) (r : Option A) → (t ≡ w → ⊥) → first_some os ≡ r → first_some (found t w v x ∷ os) ≡ r
skip t w v x os r n f = first_later _ os r (found_not t w v x n) f

-- A sound and complete answer is the only one.
pub only_from : {A : Type 0} (P : A → Type 0) (o : Option A) → IfSome o P → ((x : A) → P x → o ≡ Some x) → IsOnly P o
only_from P None h k = λ x p. let e = k x p in absurd (cc)
only_from P (Some y) h k = (h, λ x p. let e = k x p in cc)

-- If the relation has no value, the answer is `None`.
pub none_from : {A : Type 0} (P : A → Type 0) (o : Option A) → IfSome o P → ((x : A) → P x → ⊥) → o ≡ None
none_from P None h k = refl
none_from P (Some x) h k = absurd (k x h)

-- Two answers of one relation are the same.
pub same_only : {A : Type 0} (P : A → Type 0) (o p : Option A) → IsOnly P o → IsOnly P p → o ≡ p
same_only P None None h k = refl
same_only P None (Some y) h k = absurd (h y k.0)
same_only P (Some x) None h k = absurd (k x h.0)
same_only P (Some x) (Some y) h k = ap Some (k.1 x h.0)

pub one_back : (s : List ℕ) (i n : ℕ) → get_or s i 0 ≡ digit n → one_at i s ≡ n
unfolding one_at
one_back s i n e = omega (arith, e)

pub two_back : (s : List ℕ) (i n : ℕ) → get_or s i 0 ≡ digit (n / 10) → get_or s (i + 1) 0 ≡ digit (n % 10) → two_at i s ≡ n
unfolding two_at
two_back s i n e f = omega (arith, e, f)

pub four_back : (s : List ℕ) (i n : ℕ) → get_or s i 0 ≡ digit (n / 100 / 10) → get_or s (i + 1) 0 ≡ digit (n / 100 % 10) → get_or s (i + 2) 0 ≡ digit (n % 100 / 10)
    → get_or s (i + 2 + 1) 0 ≡ digit (n % 100 % 10) → four_at i s ≡ n
unfolding four_at
four_back s i n e f g h =
    omega (arith, two_back s i (n / 100) e f, two_back s (i + 2) (n % 100) g h)

pub le_decides : (a b : ℕ) → Decides (nat_le a b) (a ≤ b)
le_decides a b = (λ e. grind (arith, nat_tests), λ e. grind (arith, nat_tests))

pub range_decides : (lo hi n : ℕ) → Decides (is_in_range lo hi n) (IsInRange lo hi n)
range_decides lo hi n = Decides-and (nat_le lo n) (nat_le n hi) (le_decides lo n) (le_decides n hi)

pub year_decides : (y : ℕ) → Decides (is_year y) (IsYear y)
year_decides y = range_decides 1 9999 y

pub both : (a b : Bool) → (a && b) ≡ true → (a ≡ true) × (b ≡ true)
both true b e = (refl, e)
both false b e = absurd (cc)

pub both_yes : (a b : Bool) → a ≡ true → b ≡ true → (a && b) ≡ true
both_yes a b e f = rw (e, f) refl

pub date_decides : (y m d : ℕ) → Decides (is_date y m d) (IsDate y m d)
unfolding is_date
date_decides y m d = (to, from)
  where
    to : (is_year y && is_in_range 1 12 m && is_in_range 1 (days_in_month y m) d) ≡ true → IsDate y m d
    to e =
        let h = both (is_year y && is_in_range 1 12 m) _ e in
        let k = both (is_year y) _ h.0 in
        ((year_decides y).0 k.0, (range_decides 1 12 m).0 k.1, (range_decides 1 (days_in_month y m) d).0 h.1)

    from : IsDate y m d → (is_year y && is_in_range 1 12 m && is_in_range 1 (days_in_month y m) d) ≡ true
    from h = both_yes _ _ (both_yes _ _ ((year_decides y).1 h.0) ((range_decides 1 12 m).1 h.1)) ((range_decides 1 (days_in_month y m) d).1 h.2)

pub week_decides : (y n : ℕ) → Decides (is_week y n) (IsWeek y n)
unfolding is_week
week_decides y n = (to, from)
  where
    to : (is_year y && nat_le 1 n && nat_le (day_number y 1 1) (week_start y n + 3) && nat_lt (week_start y n + 3) (day_number (y + 1) 1 1)) ≡ true → IsWeek y n
    to e =
        let h = both (is_year y && nat_le 1 n && nat_le (day_number y 1 1) (week_start y n + 3)) _ e in
        let k = both (is_year y && nat_le 1 n) _ h.0 in
        let l = both (is_year y) _ k.0 in
        ((year_decides y).0 l.0, (le_decides 1 n).0 l.1, (le_decides (day_number y 1 1) (week_start y n + 3)).0 k.1, (Decides-ltb (week_start y n + 3) (day_number (y + 1) 1 1)).0 h.1)

    from : IsWeek y n → (is_year y && nat_le 1 n && nat_le (day_number y 1 1) (week_start y n + 3) && nat_lt (week_start y n + 3) (day_number (y + 1) 1 1)) ≡ true
    from h = both_yes _ _ (both_yes _ _ (both_yes _ _ ((year_decides y).1 h.0) ((le_decides 1 n).1 h.1)) ((le_decides (day_number y 1 1) (week_start y n + 3)).1 h.2))
        ((Decides-ltb (week_start y n + 3) (day_number (y + 1) 1 1)).1 h.3)

pub clock_decides : (hour minute second : ℕ) → Decides (is_clock hour minute second) (IsClock hour minute second)
unfolding is_clock
clock_decides hour minute second = (λ e. grind (arith, nat_tests), λ e. grind (arith, nat_tests))
