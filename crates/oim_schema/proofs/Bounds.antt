-- The tests of bounded integers agree with their definition.
use Rattle.std.proofs.Common.{◌≡◌, ◌≢◌, ℕ, ℤ, pos, ◌&&◌, Bool, true, false, not, ◌||◌, Decides, List, [], ◌∷◌, Option, Some, None, refl, sym, ap, subst, arith, length, nat_lt}
use Rattle.std.specs.Prelude.{◌≤ℤ◌, int_le}
use Rattle.std.specs.Str.Parse.{IsNumeral, signed_digits_value, digits_value}
use Rattle.std.proofs.lemmas.Bool.{ne_eqb}
use Rattle.std.proofs.lemmas.Bool.Decides.{Decides-and, Decides-like, Decides-ltb}
use Rattle.std.proofs.lemmas.Str.Parse.{IsNumeralModel, numerals_by_value, tells_all_ascii_digits}
use Rattle.std.specs.Str.{all_ascii_digits}
use Rattle.std.proofs.lemmas.Int.{ints}
use Rattle.oim_cells.specs.Numeral.{is_integer_text, is_digits}
use Rattle.oim_cells.proofs.Grammars.{integer_Decides}
use Rattle.oim_cells.proofs.Digits.{no_sign}
use Rattle.oim_schema.specs.declared.integers.IntegerType.{IntegerType}
use Rattle.oim_schema.specs.Integers.{least_of, greatest_of, is_unsigned, IsFrom, IsTo, IsInBounds, IsBoundedInteger, is_from, is_to, is_in_bounds, is_bounded_integer}

-- A numeral without a sign.
unsigned_value : (x : List ℕ) → ((rest : List ℕ) → x ≢ 45 ∷ rest) → ((rest : List ℕ) → x ≢ 43 ∷ rest) → pos (digits_value 10 x) ≡ signed_digits_value 10 x
unsigned_value [] m p = refl
unsigned_value (a ∷ x) m p =
    let minus : a ≢ 45 = λ e. m x (ap (λ b. b ∷ x) e) in
    let plus : a ≢ 43 = λ e. p x (ap (λ b. b ∷ x) e) in
    rw (ne_eqb a 45 minus, ne_eqb a 43 plus) refl

pub bounded_plain : (kind : IntegerType) (x : List ℕ) (r : Bool) → ((rest : List ℕ) → x ≢ 45 ∷ rest) → ((rest : List ℕ) → x ≢ 43 ∷ rest)
    → Decides r (IsNumeral 10 x × IsInBounds kind (pos (digits_value 10 x))) → Decides r (IsBoundedInteger kind x)
bounded_plain kind x r m p d =
    let e = no_sign x m p in
    let v = unsigned_value x m p in (
      λ t. let k = d.0 t in (subst (IsNumeral 10) e k.0, subst (IsInBounds kind) v k.1, λ _. k.0),
      λ h. d.1 (subst (IsNumeral 10) (sym e) h.0, subst (IsInBounds kind) (sym v) h.1),
    )

model : IsNumeralModel (λ s. all_ascii_digits s ≡ true) (digits_value 10)
model = numerals_by_value _ tells_all_ascii_digits

pub digits_Decides : (s : List ℕ) → Decides (is_digits s) (IsNumeral 10 s)
digits_Decides s = Decides-and (nat_lt 0 (length s)) (all_ascii_digits s) (Decides-ltb 0 (length s)) (model.to s, model.from s)

le_Decides : (a b : ℤ) → Decides (int_le a b) (a ≤ℤ b)
le_Decides a b = grind (arith, ints)

from_Decides : (o : Option ℤ) (z : ℤ) → Decides (is_from o z) (IsFrom o z)
from_Decides None z = (λ _. tt, λ _. refl)
from_Decides (Some b) z = le_Decides b z

to_Decides : (o : Option ℤ) (z : ℤ) → Decides (is_to o z) (IsTo o z)
to_Decides None z = (λ _. tt, λ _. refl)
to_Decides (Some b) z = le_Decides z b

sign_Decides : (u : Bool) (s : List ℕ) (n : Bool) → Decides n (IsNumeral 10 s) → Decides (not u || n) (u ≡ true → IsNumeral 10 s)
sign_Decides true s n d = (λ e _. d.0 e, λ h. d.1 (h refl))
sign_Decides false s n d = (λ _ e. absurd (cc), λ _. refl)

pub bounded_Decides : (kind : IntegerType) (s : List ℕ) → Decides (is_bounded_integer kind s) (IsBoundedInteger kind s)
unfolding is_bounded_integer
bounded_Decides kind s =
    let v = signed_digits_value 10 s in
    let b = Decides-and (is_from (least_of kind) v) (is_to (greatest_of kind) v) (from_Decides (least_of kind) v) (to_Decides (greatest_of kind) v) in
    let d = sign_Decides (is_unsigned kind) s (is_digits s) (digits_Decides s) in
    Decides-like (is_bounded_integer kind s) (λ p. (p.0.0, p.0.1, p.1)) (λ p. ((p.0, p.1), p.2))
    (Decides-and (is_integer_text s && is_in_bounds kind v) _ (Decides-and (is_integer_text s) _ (integer_Decides s) b) d)
