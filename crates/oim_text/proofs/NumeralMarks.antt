-- Digits that are found many at a time.
use Rattle.std.proofs.Common.{◌≡◌, ℕ, zero, suc, ◌<◌, ◌≤◌, List, [], ◌∷◌, Bool, true, false, ◌&&◌, length, map, take, refl, subst, arith, take-take}
use Rattle.std.specs.Char.{digit_value}
use Rattle.std.specs.List.{list_all}
use Rattle.std.specs.Str.Parse.{AllDigits}
use Rattle.std.proofs.lemmas.Bool.{ltb-true}
use lib.Lanes.{mask_l}
use lib.Count.{count_trailing_zeros}
use Rattle.oim_records.proofs.PassingRuns.{not-not, run_stops, run_through}
use Rattle.oim_text.specs.state.Digits.{is_digit, is_other}
use Rattle.oim_text.proofs.Escaping.{front_passes}

both_true : (a b : Bool) → (a && b) ≡ true → (a ≡ true) × (b ≡ true)
both_true true b h = (refl, h)
both_true false b h = absurd (cc h)

-- Bytes that are all digits.
digits_passed : (s : List ℕ) → list_all is_digit s ≡ true → AllDigits 10 s
digits_passed [] h = tt
digits_passed (c ∷ cs) h =
    let parts = both_true (is_digit c) (list_all is_digit cs) h in
    (ltb-true (digit_value c) 10 parts.0, digits_passed cs parts.1)

-- The mask of the first 16 bytes shows the first of them that is not a digit.
pub all_digits : (text : List ℕ) → 16 ≤ length text → mask_l (map is_other (take 16 text)) ≡ 0 → AllDigits 10 (take 16 text)
all_digits text long none =
    let through = run_through is_other is_digit (λ x. not-not (is_digit x)) text 0 16 long none in
    digits_passed (take 16 text) (front_passes is_digit 16 text (omega (arith, through)))

pub digits_before : (text : List ℕ) → 16 ≤ length text → 0 < mask_l (map is_other (take 16 text)) → AllDigits 10 (take (count_trailing_zeros 64 (mask_l (map is_other (take 16 text)))) text)
digits_before text long some =
    let stops = run_stops is_other is_digit (λ x. not-not (is_digit x)) text 0 16 long (omega arith) some in
    digits_passed _ (front_passes is_digit _ text (omega (arith, stops)))

-- A prefix of digits is digits.
pub digits_front : (n : ℕ) (s : List ℕ) → AllDigits 10 s → AllDigits 10 (take n s)
digits_front zero s h = tt
digits_front (suc n) [] h = tt
digits_front (suc n) (c ∷ cs) h = (h.0, digits_front n cs h.1)

pub fewer_digits : (m n : ℕ) (s : List ℕ) → m ≤ n → AllDigits 10 (take n s) → AllDigits 10 (take m s)
fewer_digits m n s le h = subst (AllDigits 10) (take-take m n s le) (digits_front m (take n s) h)
