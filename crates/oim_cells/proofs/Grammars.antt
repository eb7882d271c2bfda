-- The tests of the grammars agree with the grammars.
use Rattle.std.proofs.Common.{◌≡◌, ◌⊎◌, inl, inr, ℕ, ◌+◌, ◌<◌, ◌==◌, ◌||◌, nat_lt, List, [], ◌∷◌, ◌++◌, refl, sym, ap, subst, ◌∙◌, arith, length, append_assoc, codes}
use Rattle.std.proofs.Common.{true, None, Some, ℤ, pos, negsuc, FitsSigned}
use Rattle.std.specs.Bool.{Decides}
use Rattle.std.specs.Int.{w32}
use Rattle.std.specs.Str.{all_ascii_digits}
use Rattle.std.specs.Str.Parse.{AllDigits, IsNumeral, without_leading_sign, digits_value}
use Rattle.std.proofs.lemmas.Bool.{cases_Bool, eqb-true, ne_eqb, eq-eqb, and_from, and_parts, ltb-true, lt-ltb, false≢true}
use Rattle.std.proofs.lemmas.Bool.Decides.{Decides-and, Decides-or, Decides-ltb}
use Rattle.std.proofs.lemmas.List.{length-append}
use Rattle.std.proofs.lemmas.Str.Parse.{IsNumeralModel, numerals_by_value, tells_all_ascii_digits}
use Rattle.oim_cells.specs.declared.cells.NumberKind.{NumberKind}
use Rattle.oim_cells.specs.declared.cells.NumberKind.TheVariants.{Integer, Decimal, Double}
use Rattle.oim_cells.specs.Numeral.{IsInteger, IsDecimal, IsPointed, pointed, IsDouble, no_power, power, IsNumeralOf, is_digits, is_integer_text, without_point}
use Rattle.oim_cells.specs.Numeral.{is_decimal_text, parts_at, is_power_in, is_double_text, is_numeral_text, is_in_places}
use Rattle.oim_cells.proofs.Marks.{Lacks, digits_lack, of_pointed}
use Rattle.oim_cells.proofs.Doubles.{decimal_lacks, of_double}

model : IsNumeralModel (λ s. all_ascii_digits s ≡ true) (digits_value 10)
model = numerals_by_value _ tells_all_ascii_digits

digits_Decides : (s : List ℕ) → Decides (is_digits s) (IsNumeral 10 s)
digits_Decides s = Decides-and (nat_lt 0 (length s)) (all_ascii_digits s) (Decides-ltb 0 (length s)) (model.to s, model.from s)

pub integer_Decides : (s : List ℕ) → Decides (is_integer_text s) (IsInteger s)
integer_Decides s = digits_Decides (without_leading_sign s)

-- A text without its first point.
point_cases : (s : List ℕ) → (without_point s ≡ s) ⊎ ((before : List ℕ) × (after : List ℕ) × (s ≡ before ++ 46 ∷ after) × (without_point s ≡ before ++ after))
point_cases [] = inl refl
point_cases (c ∷ s) =
    elim (cases_Bool (c == 46)) [
      | inl t ↦ inr ([], s, ap (λ x. x ∷ s) (eqb-true c 46 t), rw t refl)
      | inr f ↦ elim (point_cases s) [
        | inl p ↦ inl (rw f (ap (λ x. c ∷ x) p))
        | inr p ↦ inr (c ∷ p.0, p.1, ap (λ x. c ∷ x) p.2, rw f (ap (λ x. c ∷ x) p.3))
      ]
    ]

no_point : (s : List ℕ) → Lacks 46 s → without_point s ≡ s
no_point [] l = refl
no_point (c ∷ s) l = rw (ne_eqb c 46 l.0) (ap (λ x. c ∷ x) (no_point s l.1))

one_point : (s t : List ℕ) → Lacks 46 s → without_point (s ++ 46 ∷ t) ≡ s ++ t
one_point [] t l = refl
one_point (c ∷ s) t l = rw (ne_eqb c 46 l.0) (ap (λ x. c ∷ x) (one_point s t l.1))

digits_parts : (s t : List ℕ) → AllDigits 10 (s ++ t) → AllDigits 10 s × AllDigits 10 t
digits_parts [] t h = (tt, h)
digits_parts (c ∷ s) t h = let p = digits_parts s t h.1 in ((h.0, p.0), p.1)

digits-append : (s t : List ℕ) → AllDigits 10 s → AllDigits 10 t → AllDigits 10 (s ++ t)
digits-append [] t h k = k
digits-append (c ∷ s) t h k = (h.0, digits-append s t h.1 k)

pointed_from : (u : List ℕ) → IsNumeral 10 (without_point u) → IsNumeral 10 u ⊎ IsPointed u
pointed_from u h =
    elim (point_cases u) [
      | inl p ↦ inl (subst (IsNumeral 10) p h)
      | inr p ↦
          let k : IsNumeral 10 (p.0 ++ p.1) = subst (IsNumeral 10) p.3 h in
          let d = digits_parts p.0 p.1 k.1 in
          let n : 0 < length p.0 + length p.1 = subst (λ x. 0 < x) (length-append p.0 p.1) k.0 in
          inr (subst IsPointed (append_assoc p.0 (codes ".") p.1 ∙ sym p.2) (pointed p.0 p.1 d.0 d.1 n))
    ]

pointed_to : (u : List ℕ) → IsNumeral 10 u ⊎ IsPointed u → IsNumeral 10 (without_point u)
pointed_to u h =
    elim h [
      | inl i ↦ subst (IsNumeral 10) (sym (no_point u (digits_lack 46 u (inr (omega arith)) i.1))) i
      | inr p ↦
          let o = of_pointed p in
          let e : without_point u ≡ o.0 ++ o.1 = ap without_point o.2 ∙ one_point o.0 o.1 (digits_lack 46 o.0 (inr (omega arith)) o.3) in
          let n : 0 < length (o.0 ++ o.1) = subst (λ x. 0 < x) (sym (length-append o.0 o.1)) o.5 in
          subst (IsNumeral 10) (sym e) (n, digits-append o.0 o.1 o.3 o.4)
    ]

pub decimal_Decides : (s : List ℕ) → Decides (is_decimal_text s) (IsDecimal s)
decimal_Decides s =
    let u = without_leading_sign s in
    let d = digits_Decides (without_point u) in
    (λ t. pointed_from u (d.0 t), λ i. d.1 (pointed_to u i))

-- The parts at a first mark.
pub parts_at-mark : (m : ℕ) (s t : List ℕ) → Lacks m s → parts_at m (s ++ m ∷ t) ≡ Some (s, t)
parts_at-mark m [] t l = rw (eq-eqb m m refl) refl
parts_at-mark m (c ∷ s) t l = rw (ne_eqb c m l.0, parts_at-mark m s t l.1) refl

pub parts_at-none : (m : ℕ) (s : List ℕ) → Lacks m s → parts_at m s ≡ None
parts_at-none m [] l = refl
parts_at-none m (c ∷ s) l = rw (ne_eqb c m l.0, parts_at-none m s l.1) refl

pub parts_cases : (m : ℕ) (s : List ℕ) → (parts_at m s ≡ None) ⊎ ((before : List ℕ) × (after : List ℕ) × (parts_at m s ≡ Some (before, after)) × (s ≡ before ++ m ∷ after))
parts_cases m [] = inl refl
parts_cases m (c ∷ s) =
    elim (cases_Bool (c == m)) [
      | inl t ↦ inr ([], s, rw t refl, ap (λ x. x ∷ s) (eqb-true c m t))
      | inr f ↦ elim (parts_cases m s) [
        | inl p ↦ inl (rw (f, p) refl)
        | inr p ↦ inr (c ∷ p.0, p.1, rw (f, p.2) refl, ap (λ x. c ∷ x) p.3)
      ]
    ]

HasPower : ℕ → List ℕ → Type 0
HasPower m s = (front : List ℕ) × (back : List ℕ) × (s ≡ front ++ m ∷ back) × IsDecimal front × IsInteger back

power_from : (m : ℕ) (s : List ℕ) → is_power_in (parts_at m s) ≡ true → HasPower m s
unfolding HasPower
power_from m s t =
    elim (parts_cases m s) [
      | inl p ↦ absurd (false≢true (rw p at t))
      | inr p ↦
          let k = and_parts (is_decimal_text p.0) (is_integer_text p.1) (rw p.2 at t) in
          (p.0, p.1, p.3, (decimal_Decides p.0).0 k.0, (integer_Decides p.1).0 k.1)
    ]

power_to : (m : ℕ) (s : List ℕ) → 57 < m → HasPower m s → is_power_in (parts_at m s) ≡ true
unfolding HasPower
power_to m s l h =
    let e : parts_at m s ≡ Some (h.0, h.1) = ap (parts_at m) h.2 ∙ parts_at-mark m h.0 h.1 (decimal_lacks m h.0 l h.3) in
    rw e (and_from (is_decimal_text h.0) (is_integer_text h.1) ((decimal_Decides h.0).1 h.3) ((integer_Decides h.1).1 h.4))

powers_Decides : (s : List ℕ) → Decides (is_double_text s) ((IsDecimal s ⊎ HasPower 101 s) ⊎ HasPower 69 s)
powers_Decides s =
    Decides-or (is_decimal_text s || is_power_in (parts_at 101 s)) (is_power_in (parts_at 69 s))
    (Decides-or (is_decimal_text s) (is_power_in (parts_at 101 s)) (decimal_Decides s) (power_from 101 s, power_to 101 s (omega arith)))
    (power_from 69 s, power_to 69 s (omega arith))

double_from : (s : List ℕ) → (IsDecimal s ⊎ HasPower 101 s) ⊎ HasPower 69 s → IsDouble s
unfolding HasPower
double_from s h =
    elim h [
      | inl h ↦ elim h [
        | inl d ↦ no_power s d
        | inr p ↦ subst IsDouble (append_assoc p.0 (codes "e") p.1 ∙ sym p.2) (power p.0 (codes "e") p.1 p.3 (inl refl) p.4)
      ]
      | inr p ↦ subst IsDouble (append_assoc p.0 (codes "E") p.1 ∙ sym p.2) (power p.0 (codes "E") p.1 p.3 (inr refl) p.4)
    ]

double_to : (s : List ℕ) → IsDouble s → (IsDecimal s ⊎ HasPower 101 s) ⊎ HasPower 69 s
unfolding HasPower
double_to s h =
    elim (of_double h) [
      | inl d ↦ inl (inl d)
      | inr p ↦ elim p.4 [
        | inl q ↦ inl (inr (p.0, p.2, rw q at p.3, p.5, p.6))
        | inr q ↦ inr (p.0, p.2, rw q at p.3, p.5, p.6)
      ]
    ]

pub double_Decides : (s : List ℕ) → Decides (is_double_text s) (IsDouble s)
double_Decides s = let d = powers_Decides s in (λ t. double_from s (d.0 t), λ h. d.1 (double_to s h))

pub numeral_Decides : (kind : NumberKind) (s : List ℕ) → Decides (is_numeral_text kind s) (IsNumeralOf kind s)
numeral_Decides Integer s = integer_Decides s
numeral_Decides Decimal s = decimal_Decides s
numeral_Decides Double s = double_Decides s

pub places_Decides : (z : ℤ) → Decides (is_in_places z) (FitsSigned w32 z)
places_Decides (pos n) = (λ t. record { sfits = ltb-true n 2_147_483_648 t }, λ f. lt-ltb n 2_147_483_648 f.sfits)
places_Decides (negsuc n) = (λ t. record { sfits = ltb-true n 2_147_483_648 t }, λ f. lt-ltb n 2_147_483_648 f.sfits)
