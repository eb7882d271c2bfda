-- Decimals and doubles have few characters, so a mark occurs in them once.
use Rattle.std.proofs.Common.{◌≡◌, ◌≢◌, ◌↔◌, ◌⊎◌, inl, inr, ℕ, ◌<◌, List, [], ◌∷◌, ◌++◌, drop, refl, sym, subst, ◌∙◌, arith, append_assoc, codes, Bool, true, false, cond, ◌==◌}
use Rattle.std.proofs.lemmas.Bool.Decides.{nat_tests}
use Rattle.std.specs.Str.Parse.{without_leading_sign}
use Rattle.oim_cells.specs.Numeral.{IsInteger, IsDecimal, IsDouble, no_power, power}
use Rattle.oim_cells.proofs.Marks.{Lacks, lacks-append, lacks_not, first_mark, digits_lack, of_pointed}

head_cases : (a : ℕ) (x : List ℕ) (b c : Bool) → ((cond b (drop 1 (a ∷ x)) (drop (cond c 1 0) (a ∷ x)) ≡ x) × ((b ≡ true) ⊎ (c ≡ true))) ⊎ (cond b (drop 1 (a ∷ x)) (drop (cond c 1 0) (a ∷ x)) ≡ a ∷ x)
head_cases a x true c = inl (refl, inl refl)
head_cases a x false true = inl (refl, inr refl)
head_cases a x false false = inr refl

is_sign : (a k : ℕ) → (a == k) ≡ true → a ≡ k
is_sign a k e = grind (arith, nat_tests)

unsigned_lacks : (m a : ℕ) (x : List ℕ) → 57 < m → Lacks m (without_leading_sign (a ∷ x)) → Lacks m x × (a ≢ m)
unsigned_lacks m a x h l =
    elim (head_cases a x (a == 45) (a == 43)) [
      | inl p ↦ (subst (Lacks m) p.0 l, elim p.1 [ inl e ↦ (λ r. let s = is_sign a 45 e in absurd (omega arith)) | inr e ↦ (λ r. let s = is_sign a 43 e in absurd (omega arith)) ])
      | inr p ↦ let k = subst (Lacks m) p l in (k.1, k.0)
    ]

lacks_unsigned : (m : ℕ) (s : List ℕ) → 57 < m → Lacks m (without_leading_sign s) → Lacks m s
lacks_unsigned m [] h l = tt
lacks_unsigned m (a ∷ x) h l = let p = unsigned_lacks m a x h l in (p.1, p.0)

pub integer_lacks : (m : ℕ) (s : List ℕ) → 57 < m → IsInteger s → Lacks m s
integer_lacks m s h i = lacks_unsigned m s h (digits_lack m _ (inl h) i.1)

pub decimal_lacks : (m : ℕ) (s : List ℕ) → 57 < m → IsDecimal s → Lacks m s
decimal_lacks m s h d =
    elim d [
      | inl i ↦ integer_lacks m s h i
      | inr p ↦ let o = of_pointed p in lacks_unsigned m s h
          (subst (Lacks m) (sym o.2) (lacks-append m o.0 (46 ∷ o.1) (digits_lack m o.0 (inl h) o.3) (λ e. absurd (omega arith), digits_lack m o.1 (inl h) o.4)))
    ]

-- The parts of a double.
pub of_double : {s : List ℕ} → IsDouble s
    → IsDecimal s ⊎ ((front : List ℕ) × (mark : ℕ) × (back : List ℕ) × (s ≡ front ++ mark ∷ back) × ((mark ≡ 101) ⊎ (mark ≡ 69)) × IsDecimal front × IsInteger back)
of_double (no_power s d) = inl d
of_double (power f k b d m i) =
    inr (elim m [ inl e ↦ (f, 101, b, rw e (append_assoc f (codes "e") b), inl refl, d, i) | inr e ↦ (f, 69, b, rw e (append_assoc f (codes "E") b), inr refl, d, i) ])

pub marked_lacks : (m k : ℕ) (f b : List ℕ) → 57 < m → k ≢ m → IsDecimal f → IsInteger b → Lacks m (f ++ k ∷ b)
marked_lacks m k f b h n d i = lacks-append m f (k ∷ b) (decimal_lacks m f h d) (n, integer_lacks m b h i)

pub double_e : (s f b : List ℕ) → s ≡ f ++ 101 ∷ b → Lacks 101 f → IsDouble s ↔ (IsDecimal f × IsInteger b)
double_e s f b e l = (
  λ d. elim (of_double d) [
    | inl k ↦ absurd (lacks_not 101 f b (subst (Lacks 101) e (decimal_lacks 101 s (omega arith) k)))
    | inr p ↦ elim p.4 [
      | inl q ↦ let same = first_mark 101 f b p.0 p.2 l (decimal_lacks 101 p.0 (omega arith) p.5) (sym e ∙ rw q at p.3) in (rw (← same.0) at p.5, rw (← same.1) at p.6)
      | inr q ↦ absurd (lacks_not 101 f b (subst (Lacks 101) (sym (rw q at p.3) ∙ e) (marked_lacks 101 69 p.0 p.2 (omega arith) (λ r. absurd (omega arith)) p.5 p.6)))
    ]
  ],
  λ h. subst IsDouble (append_assoc f (codes "e") b ∙ sym e) (power f (codes "e") b h.0 (inl refl) h.1),
)

pub double_E : (s f b : List ℕ) → Lacks 101 s → s ≡ f ++ 69 ∷ b → Lacks 69 f → IsDouble s ↔ (IsDecimal f × IsInteger b)
double_E s f b n e l = (
  λ d. elim (of_double d) [
    | inl k ↦ absurd (lacks_not 69 f b (subst (Lacks 69) e (decimal_lacks 69 s (omega arith) k)))
    | inr p ↦ elim p.4 [
      | inl q ↦ absurd (lacks_not 101 p.0 p.2 (subst (Lacks 101) (rw q at p.3) n))
      | inr q ↦ let same = first_mark 69 f b p.0 p.2 l (decimal_lacks 69 p.0 (omega arith) p.5) (sym e ∙ rw q at p.3) in (rw (← same.0) at p.5, rw (← same.1) at p.6)
    ]
  ],
  λ h. subst IsDouble (append_assoc f (codes "E") b ∙ sym e) (power f (codes "E") b h.0 (inr refl) h.1),
)

pub double_plain : (s : List ℕ) → Lacks 101 s → Lacks 69 s → IsDouble s ↔ IsDecimal s
double_plain s n k = (
  λ d. elim (of_double d) [
    | inl i ↦ i
    | inr p ↦ elim p.4 [
      | inl q ↦ absurd (lacks_not 101 p.0 p.2 (subst (Lacks 101) (rw q at p.3) n))
      | inr q ↦ absurd (lacks_not 69 p.0 p.2 (subst (Lacks 69) (rw q at p.3) k))
    ]
  ],
  λ i. no_power s i,
)
