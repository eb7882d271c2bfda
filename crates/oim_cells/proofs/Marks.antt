-- Texts that are cut at the first mark.
use Rattle.std.proofs.Common.{◌≡◌, ◌≢◌, ◌↔◌, ◌⊎◌, inl, inr, ℕ, suc, ◌+◌, ◌<◌, List, [], ◌∷◌, ◌++◌, drop, refl, sym, ap, subst, ◌∙◌, arith, length, get_or, append_assoc, codes}
use Rattle.std.specs.Int.{IsInRange}
use Rattle.std.specs.List.{All, AllByRecursion}
use Rattle.std.specs.Char.{digit_value}
use Rattle.std.specs.Str.Parse.{AllDigits, without_leading_sign}
use Rattle.oim_cells.specs.Numeral.{IsInteger, IsDecimal, IsPointed, pointed}
use Rattle.oim_cells.proofs.Digits.{digits_all}

-- The text does not contain the mark.
abbrev pub Lacks : ℕ → List ℕ → Type 0
Lacks m s = AllByRecursion (λ c. c ≢ m) s

pub lacks_by_index : (m : ℕ) (s : List ℕ) → ((i : ℕ) → i < length s → get_or s i 0 ≢ m) → Lacks m s
lacks_by_index m [] h = tt
lacks_by_index m (c ∷ s) h = (h 0 (omega arith), lacks_by_index m s (λ i l. h (suc i) (omega arith)))

pub lacks-append : (m : ℕ) (s t : List ℕ) → Lacks m s → Lacks m t → Lacks m (s ++ t)
lacks-append m [] t h k = k
lacks-append m (c ∷ s) t h k = (h.0, lacks-append m s t h.1 k)

pub lacks_not : (m : ℕ) (s t : List ℕ) → Lacks m (s ++ m ∷ t) → ⊥
lacks_not m [] t h = h.0 refl
lacks_not m (c ∷ s) t h = lacks_not m s t h.1

tail_same : {s t : List ℕ} {a b : ℕ} → a ∷ s ≡ b ∷ t → s ≡ t
tail_same e = ap (drop 1) e

head_same : {s t : List ℕ} {a b : ℕ} → a ∷ s ≡ b ∷ t → a ≡ b
head_same e = ap (λ s. get_or s 0 0) e

-- The first mark is unique.
pub first_mark : (m : ℕ) (s t s₂ t₂ : List ℕ) → Lacks m s → Lacks m s₂ → s ++ m ∷ t ≡ s₂ ++ m ∷ t₂ → (s ≡ s₂) × (t ≡ t₂)
first_mark m [] t [] t₂ h k e = (refl, tail_same e)
first_mark m [] t (c ∷ s₂) t₂ h k e = absurd (k.0 (sym (head_same e)))
first_mark m (c ∷ s) t [] t₂ h k e = absurd (h.0 (head_same e))
first_mark m (c ∷ s) t (d ∷ s₂) t₂ h k e =
    let r = first_mark m s t s₂ t₂ h.1 k.1 (tail_same e) in
    let f : c ≡ d = head_same e in
    ((rw (f, r.0) refl), r.1)

digit_is_not : (m c : ℕ) → 57 < m ⊎ m < 48 → digit_value c < 10 → c ≢ m
digit_is_not m c h k e = absurd (grind arith)

pub digits_lack : (m : ℕ) (s : List ℕ) → (57 < m) ⊎ (m < 48) → AllDigits 10 s → Lacks m s
digits_lack m [] h d = tt
digits_lack m (c ∷ s) h d = (digit_is_not m c h d.0, digits_lack m s h d.1)

-- The parts of a pointed text.
pub of_pointed : {s : List ℕ} → IsPointed s → (before : List ℕ) × (after : List ℕ) × (s ≡ before ++ 46 ∷ after) × AllDigits 10 before × AllDigits 10 after × (0 < length before + length after)
of_pointed (pointed b a d e n) = (b, a, append_assoc b (codes ".") a, d, e, n)

pub integer_is : (x d : List ℕ) → d ≡ without_leading_sign x → IsInteger x ↔ ((0 < length d) × All (IsInRange 48 57) d)
integer_is x d e = (
  λ i. (subst (λ w. 0 < length w) (sym e) i.0, (digits_all d).0 (subst (λ w. AllDigits 10 w) (sym e) i.1)),
  λ h. (subst (λ w. 0 < length w) e h.0, subst (λ w. AllDigits 10 w) e ((digits_all d).1 h.1)),
)

pub decimal_whole : (x d : List ℕ) → d ≡ without_leading_sign x → Lacks 46 d → IsDecimal x ↔ ((0 < length d) × All (IsInRange 48 57) d)
decimal_whole x d e n = (
  λ i. elim i [ inl k ↦ (integer_is x d e).0 k | inr p ↦ let o = of_pointed (subst IsPointed (sym e) p) in absurd (lacks_not 46 o.0 o.1 (subst (Lacks 46) o.2 n)) ],
  λ h. inl ((integer_is x d e).1 h),
)

from_parts : (d b a : List ℕ) → d ≡ b ++ 46 ∷ a → Lacks 46 b
    → (before : List ℕ) × (after : List ℕ) × (d ≡ before ++ 46 ∷ after) × AllDigits 10 before × AllDigits 10 after × (0 < length before + length after)
    → (0 < length b + length a) × All (IsInRange 48 57) b × All (IsInRange 48 57) a
from_parts d b a f n o =
    let same = first_mark 46 o.0 o.1 b a (digits_lack 46 o.0 (inr (omega arith)) o.3) n (sym o.2 ∙ f) in
    (rw (same.0, same.1) at o.5, rw same.0 at ((digits_all o.0).0 o.3), rw same.1 at ((digits_all o.1).0 o.4))

pub decimal_pointed : (x d b a : List ℕ) → d ≡ without_leading_sign x → d ≡ b ++ 46 ∷ a → Lacks 46 b → IsDecimal x ↔ ((0 < length b + length a) × All (IsInRange 48 57) b × All (IsInRange 48 57) a)
decimal_pointed x d b a e f n = (
  λ i. elim i [
    | inl k ↦ absurd (lacks_not 46 b a (subst (Lacks 46) f (digits_lack 46 d (inr (omega arith)) (subst (λ w. AllDigits 10 w) (sym e) k.1))))
    | inr p ↦ from_parts d b a f n (of_pointed (subst IsPointed (sym e) p))
  ],
  λ h. inr (subst IsPointed (append_assoc b (codes ".") a ∙ sym f ∙ e) (pointed b a ((digits_all b).1 h.1) ((digits_all a).1 h.2) h.0)),
)
