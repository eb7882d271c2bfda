-- The bytes of a numeral.
use Rattle.std.proofs.Common.{◌≡◌, ◌<◌, ◌∙◌, ℕ, Bool, true, false, cond, ◌==◌, ◌&&◌, List, [], ◌∷◌, ◌++◌, drop, refl, sym, subst, inl, inr, codes}
use Rattle.std.specs.List.{list_all}
use Rattle.std.specs.Char.{digit_value}
use Rattle.std.specs.Str.Parse.{AllDigits, without_leading_sign}
use Rattle.std.proofs.lemmas.Bool.{eqb-true}
use Rattle.std.proofs.lemmas.List.Folds.{list_all-append}
use Rattle.oim_cells.specs.declared.cells.NumberKind.{NumberKind}
use Rattle.oim_cells.specs.declared.cells.NumberKind.TheVariants.{Integer, Decimal, Double}
use Rattle.oim_cells.specs.Numeral.{IsDecimal, IsDouble, IsInteger, IsNumeralOf, IsPointed, no_power, pointed, power}

pub both : (a b : Bool) → a ≡ true → b ≡ true → (a && b) ≡ true
both true true p q = refl
both true false p q = q
both false b p q = p

-- A test that passes digits, signs, the point and the marks of a power passes each byte of a
-- numeral.
module _ (q : ℕ → Bool) (digit : (c : ℕ) → digit_value c < 10 → q c ≡ true) (minus : q 45 ≡ true) (plus : q 43 ≡ true) (point : q 46 ≡ true) (mark : q 101 ≡ true) (capital : q 69 ≡ true) where
  abbrev Pass : List ℕ → Type 0
  Pass s = list_all q s ≡ true

  pub digits_pass : (s : List ℕ) → AllDigits 10 s → Pass s
  digits_pass [] h = refl
  digits_pass (c ∷ cs) h = both (q c) (list_all q cs) (digit c h.0) (digits_pass cs h.1)

  pub append_passes : (a b : List ℕ) → Pass a → Pass b → Pass (a ++ b)
  append_passes a b h k = list_all-append q a b ∙ both (list_all q a) (list_all q b) h k

  byte_passes : (c d : ℕ) → (c == d) ≡ true → q d ≡ true → q c ≡ true
  byte_passes c d e h = subst (λ k. q k ≡ true) (sym (eqb-true c d e)) h

  signed_by : (a b : Bool) (c : ℕ) (cs : List ℕ) → (c == 45) ≡ a → (c == 43) ≡ b → Pass (cond a (drop 1 (c ∷ cs)) (drop (cond b 1 0) (c ∷ cs))) → Pass (c ∷ cs)
  signed_by true b c cs e f h = both (q c) (list_all q cs) (byte_passes c 45 e minus) h
  signed_by false true c cs e f h = both (q c) (list_all q cs) (byte_passes c 43 f plus) h
  signed_by false false c cs e f h = h

  signed_passes : (s : List ℕ) → Pass (without_leading_sign s) → Pass s
  signed_passes [] h = refl
  signed_passes (c ∷ cs) h = signed_by (c == 45) (c == 43) c cs refl refl h

  pub integer_passes : (s : List ℕ) → IsInteger s → Pass s
  integer_passes s h = signed_passes s (digits_pass (without_leading_sign s) h.1)

  pointed_passes : (s : List ℕ) → IsPointed s → Pass s
  pointed_passes s (pointed before after h k some) =
      append_passes (before ++ codes ".") after (append_passes before (codes ".") (digits_pass before h) (both (q 46) true point refl)) (digits_pass after k)

  decimal_passes : (s : List ℕ) → IsDecimal s → Pass s
  decimal_passes s (inl i) = integer_passes s i
  decimal_passes s (inr p) = signed_passes s (pointed_passes (without_leading_sign s) p)

  double_passes : (s : List ℕ) → IsDouble s → Pass s
  double_passes s (no_power t d) = decimal_passes t d
  double_passes s (power front m back d (inl e) i) =
      append_passes (front ++ m) back (append_passes front m (decimal_passes front d) (subst Pass (sym e) (both (q 101) true mark refl))) (integer_passes back i)
  double_passes s (power front m back d (inr e) i) =
      append_passes (front ++ m) back (append_passes front m (decimal_passes front d) (subst Pass (sym e) (both (q 69) true capital refl))) (integer_passes back i)

  pub numeral_passes : (kind : NumberKind) (s : List ℕ) → IsNumeralOf kind s → Pass s
  numeral_passes Integer s h = integer_passes s h
  numeral_passes Decimal s h = decimal_passes s h
  numeral_passes Double s h = double_passes s h
