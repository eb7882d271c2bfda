-- Digits as `parse` reads them and as a test of each byte.
use Rattle.std.proofs.Common.{◌≡◌, ◌≢◌, ◌↔◌, ℕ, ◌<◌, List, [], ◌∷◌, refl, ap, arith, codes}
use Rattle.std.specs.Prelude.{FitsSigned}
use Rattle.std.specs.Int.{IsInRange, w32}
use Rattle.std.specs.List.{All, AllByRecursion}
use Rattle.std.specs.Char.{digit_value}
use Rattle.std.specs.Str.Parse.{AllDigits, without_leading_sign, signed_digits_value}
use Rattle.std.proofs.lemmas.List.Elements.{All-from_recursion, recursion_from_All}
use Rattle.oim_cells.specs.declared.cells.Accuracy.{Accuracy}
use Rattle.oim_cells.specs.declared.cells.Accuracy.TheVariants.{Infinite, Places}
use Rattle.oim_cells.specs.Numeral.{IsDecimals, infinite, places, IsInteger}

digit : (c : ℕ) → (digit_value c < 10) ↔ IsInRange 48 57 c
digit c = grind arith

digits_to : (s : List ℕ) → AllDigits 10 s → AllByRecursion (IsInRange 48 57) s
digits_to [] h = tt
digits_to (c ∷ s) h = ((digit c).0 h.0, digits_to s h.1)

digits_from : (s : List ℕ) → AllByRecursion (IsInRange 48 57) s → AllDigits 10 s
digits_from [] h = tt
digits_from (c ∷ s) h = ((digit c).1 h.0, digits_from s h.1)

pub digits_all : (s : List ℕ) → AllDigits 10 s ↔ All (IsInRange 48 57) s
digits_all s = (λ h. All-from_recursion (IsInRange 48 57) s (digits_to s h), λ h. digits_from s (recursion_from_All (IsInRange 48 57) s h))

pub is_infinite : {x : List ℕ} {a : Accuracy} → IsDecimals x a → x ≡ codes "INF" → a ≡ Infinite
is_infinite infinite e = refl
is_infinite (places s i f) e = let j = rw e at i in absurd (omega (arith, j))

pub is_places : {x : List ℕ} {a : Accuracy} → IsDecimals x a → (x ≡ codes "INF" → ⊥) → IsInteger x × (a ≡ Places (signed_digits_value 10 x))
is_places infinite n = absurd (n refl)
is_places (places s i f) n = (i, refl)

pub is_parsed : {x : List ℕ} {a : Accuracy} → IsDecimals x a → (x ≡ codes "INF" → ⊥) → IsInteger x × FitsSigned w32 (signed_digits_value 10 x)
is_parsed infinite n = absurd (n refl)
is_parsed (places s i f) n = (i, f)

unsigned_head : (a : ℕ) (x : List ℕ) → a ≢ 45 → a ≢ 43 → a ∷ x ≡ without_leading_sign (a ∷ x)
unsigned_head a x m p = grind arith

pub no_sign : (x : List ℕ) → ((rest : List ℕ) → x ≢ 45 ∷ rest) → ((rest : List ℕ) → x ≢ 43 ∷ rest) → x ≡ without_leading_sign x
no_sign [] m p = refl
no_sign (a ∷ x) m p =
    let minus : a ≢ 45 = λ e. m x (ap (λ b. b ∷ x) e) in
    let plus : a ≢ 43 = λ e. p x (ap (λ b. b ∷ x) e) in
    unsigned_head a x minus plus
