-- Texts of one digit, and suffixes of one.
use Rattle.std.proofs.Common.{rules, suc, zero, ◌≡◌, ◌+◌, ◌<◌, ℕ, List, [], ◌∷◌, length, get_or, drop, refl, ap, ◌∙◌, arith}
use Rattle.std.specs.Prelude.{pos}
use Rattle.std.specs.Fmt.{digits, signed_decimal}
use Rattle.std.specs.Int.{w32}
use Rattle.std.specs.Prelude.{FitsSigned}
use Rattle.std.specs.Str.Parse.{signed_digits_value}
use native.Mathlib.Numerals.{unary_clauses}
use Rattle.oim_cells.specs.Numeral.{IsDecimals, IsInteger, places}
use Rattle.oim_cells.specs.declared.cells.Accuracy.TheVariants.{Places}
use Rattle.oim_text.specs.Suffixes.{IsSuffix}

-- A digit is written as a number.
pub digit_decimal : (n : ℕ) → n < 10 → signed_decimal (pos n) ≡ (48 + n) ∷ []
unfolding digits
digit_decimal zero h = refl
digit_decimal (suc zero) h = refl
digit_decimal (suc (suc zero)) h = refl
digit_decimal (suc (suc (suc zero))) h = refl
digit_decimal (suc (suc (suc (suc zero)))) h = refl
digit_decimal (suc (suc (suc (suc (suc zero))))) h = refl
digit_decimal (suc (suc (suc (suc (suc (suc zero)))))) h = refl
digit_decimal (suc (suc (suc (suc (suc (suc (suc zero))))))) h = refl
digit_decimal (suc (suc (suc (suc (suc (suc (suc (suc zero)))))))) h = refl
digit_decimal (suc (suc (suc (suc (suc (suc (suc (suc (suc zero))))))))) h = refl
digit_decimal (suc (suc (suc (suc (suc (suc (suc (suc (suc (suc n)))))))))) h = absurd (omega (arith, h))

-- A digit states that many decimals.
digit_states : (n : ℕ) → n < 10 → IsDecimals ((48 + n) ∷ []) (Places (pos n))
digit_states zero h = let whole : IsInteger (48 ∷ []) = search rules in let fits : FitsSigned w32 (signed_digits_value 10 (48 ∷ [])) = search rules in places (48 ∷ []) whole fits
digit_states (suc zero) h = let whole : IsInteger (49 ∷ []) = search rules in let fits : FitsSigned w32 (signed_digits_value 10 (49 ∷ [])) = search rules in places (49 ∷ []) whole fits
digit_states (suc (suc zero)) h = let whole : IsInteger (50 ∷ []) = search rules in let fits : FitsSigned w32 (signed_digits_value 10 (50 ∷ [])) = search rules in places (50 ∷ []) whole fits
digit_states (suc (suc (suc zero))) h = let whole : IsInteger (51 ∷ []) = search rules in let fits : FitsSigned w32 (signed_digits_value 10 (51 ∷ [])) = search rules in places (51 ∷ []) whole fits
digit_states (suc (suc (suc (suc zero)))) h = let whole : IsInteger (52 ∷ []) = search rules in let fits : FitsSigned w32 (signed_digits_value 10 (52 ∷ [])) = search rules in places (52 ∷ []) whole fits
digit_states (suc (suc (suc (suc (suc zero))))) h = let whole : IsInteger (53 ∷ []) = search rules in let fits : FitsSigned w32 (signed_digits_value 10 (53 ∷ [])) = search rules in places (53 ∷ []) whole fits
digit_states (suc (suc (suc (suc (suc (suc zero)))))) h = let whole : IsInteger (54 ∷ []) = search rules in let fits : FitsSigned w32 (signed_digits_value 10 (54 ∷ [])) = search rules in places (54 ∷ []) whole fits
digit_states (suc (suc (suc (suc (suc (suc (suc zero))))))) h = let whole : IsInteger (55 ∷ []) = search rules in let fits : FitsSigned w32 (signed_digits_value 10 (55 ∷ [])) = search rules in places (55 ∷ []) whole fits
digit_states (suc (suc (suc (suc (suc (suc (suc (suc zero)))))))) h = let whole : IsInteger (56 ∷ []) = search rules in let fits : FitsSigned w32 (signed_digits_value 10 (56 ∷ [])) = search rules in places (56 ∷ []) whole fits
digit_states (suc (suc (suc (suc (suc (suc (suc (suc (suc zero))))))))) h = let whole : IsInteger (57 ∷ []) = search rules in let fits : FitsSigned w32 (signed_digits_value 10 (57 ∷ [])) = search rules in places (57 ∷ []) whole fits
digit_states (suc (suc (suc (suc (suc (suc (suc (suc (suc (suc n)))))))))) h = absurd (omega (arith, h))

-- The last two bytes of a text.
two_left : (xs : List ℕ) (n : ℕ) → length xs ≡ n + 2 → drop n xs ≡ get_or xs n 0 ∷ get_or xs (n + 1) 0 ∷ []
two_left (x ∷ y ∷ []) zero h = refl
two_left (x ∷ xs) (suc n) h = let rest = two_left xs n (omega (arith, h)) in let more = simp unary_clauses at rest in simp unary_clauses more
two_left [] n h = absurd (omega (arith, h))
two_left (x ∷ []) zero h = absurd (omega (arith, h))
two_left (x ∷ y ∷ z ∷ xs) zero h = absurd (omega (arith, h))

-- `d` and a digit are the last two bytes of a text.
pub digit_suffix : (xs : List ℕ) (n digit : ℕ) → length xs ≡ n + 2 → get_or xs n 0 ≡ 100 → get_or xs (n + 1) 0 ≡ 48 + digit → digit < 10 → IsSuffix (drop n xs) (Places (pos digit))
digit_suffix xs n digit long mark last few = record {
  text = (48 + digit) ∷ [];
  marked = two_left xs n long ∙ ap (λ (b : ℕ). b ∷ get_or xs (n + 1) 0 ∷ []) mark ∙ ap (λ (b : ℕ). 100 ∷ b ∷ []) last;
  states = digit_states digit few;
}
