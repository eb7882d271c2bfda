-- The numbers of digits: read and written again they are the same.
use Rattle.std.proofs.Common.{◌≡◌, ℕ, ◌+◌, ◌*◌, ◌-◌, ◌/◌, ◌%◌, ◌≤◌, ◌&&◌, if◌then◌else◌, Bool, true, false, [], ◌∷◌, arith, rules}
use Rattle.std.specs.Int.{IsInRange, is_in_range}
use Rattle.std.proofs.lemmas.Bool.Decides.{nat_tests}
use Rattle.oim_period.specs.Calendar.{IsYear, is_year, IsDate, is_date}
use Rattle.oim_period.specs.Digits.{digit, two, four, date_text}
use Rattle.oim_period.proofs.Found.{range_decides, year_decides, date_decides}
use Rattle.oim_period.proofs.Order.{month_length-most}
use Rattle.oim_schema.specs.DatesTimes.{number, year_number}

pub number_back : (n : ℕ) → n ≤ 99 → number (digit (n / 10)) (digit (n % 10)) ≡ n
number_back n h =
    let e : is_in_range 48 57 (digit (n / 10)) ≡ true = (range_decides 48 57 (digit (n / 10))).1 (omega arith, omega arith) in
    let f : is_in_range 48 57 (digit (n % 10)) ≡ true = (range_decides 48 57 (digit (n % 10))).1 (omega arith, omega arith) in
    rw (e, f) (omega arith)

number_by : (a b : ℕ) (x : Bool) → (is_in_range 48 57 a && is_in_range 48 57 b) ≡ x → (if x then 10 * (a - 48) + (b - 48) else 10_000) ≤ 9_999 → IsInRange 48 57 a × IsInRange 48 57 b
number_by a b true e h = grind (arith, nat_tests)
number_by a b false e h = absurd (omega arith)

number_is : (a b : ℕ) → IsInRange 48 57 a → IsInRange 48 57 b → number a b ≡ 10 * (a - 48) + (b - 48)
number_is a b h k =
    let e = (range_decides 48 57 a).1 h in
    let f = (range_decides 48 57 b).1 k in
    rw (e, f) (omega arith)

pub number_digits : (a b : ℕ) → number a b ≤ 9_999 → (number a b ≤ 99) × (a ≡ digit (number a b / 10)) × (b ≡ digit (number a b % 10))
number_digits a b h =
    let r = number_by a b (is_in_range 48 57 a && is_in_range 48 57 b) (search rules) h in
    let e = number_is a b r.0 r.1 in
    (omega arith, omega arith, omega arith)

pub two_front : (a b : ℕ) → number a b ≤ 9_999 → two (number a b) ≡ a ∷ b ∷ []
two_front a b h = let d = number_digits a b h in cc

pub year_back : (y : ℕ) → IsYear y → year_number (digit (y / 100 / 10)) (digit (y / 100 % 10)) (digit (y % 100 / 10)) (digit (y % 100 % 10)) ≡ y
year_back y h =
    let e = number_back (y / 100) (omega arith) in
    let f = number_back (y % 100) (omega arith) in
    omega (arith, e, f)

pub year_front : (a b c d : ℕ) → IsYear (year_number a b c d) → four (year_number a b c d) ≡ a ∷ b ∷ c ∷ d ∷ []
year_front a b c d h =
    let p = number_digits a b (omega arith) in
    let q = number_digits c d (omega arith) in
    let e : year_number a b c d / 100 ≡ number a b = omega arith in
    let f : year_number a b c d % 100 ≡ number c d = omega arith in
    cc

pub date_front : (a b c d m n t u : ℕ) → IsDate (year_number a b c d) (number m n) (number t u)
    → date_text (year_number a b c d) (number m n) (number t u) ≡ a ∷ b ∷ c ∷ d ∷ 45 ∷ m ∷ n ∷ 45 ∷ t ∷ u ∷ []
date_front a b c d m n t u h =
    let most = month_length-most (year_number a b c d) (number m n) in
    let e = year_front a b c d h.0 in
    let f = number_digits m n (omega arith) in
    let g = number_digits t u (omega arith) in
    cc

pub date_back : (y m d : ℕ) → IsDate y m d
    → is_date (year_number (digit (y / 100 / 10)) (digit (y / 100 % 10)) (digit (y % 100 / 10)) (digit (y % 100 % 10)))
    (number (digit (m / 10)) (digit (m % 10))) (number (digit (d / 10)) (digit (d % 10))) ≡ true
date_back y m d h =
    let most = month_length-most y m in
    let e = year_back y h.0 in
    let f = number_back m (omega arith) in
    let g = number_back d (omega arith) in
    rw (e, f, g) ((date_decides y m d).1 h)

pub year_again : (y : ℕ) → IsYear y → is_year (year_number (digit (y / 100 / 10)) (digit (y / 100 % 10)) (digit (y % 100 / 10)) (digit (y % 100 % 10))) ≡ true
year_again y h = let e = year_back y h in rw e ((year_decides y).1 h)

pub range_again : (least most n : ℕ) → most ≤ 99 → IsInRange least most n → is_in_range least most (number (digit (n / 10)) (digit (n % 10))) ≡ true
range_again least most n k h = let e = number_back n (omega arith) in rw e ((range_decides least most n).1 h)
