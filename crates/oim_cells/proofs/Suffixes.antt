-- The parts of a numeral with its suffix.
use Rattle.std.proofs.Common.{◌≡◌, ◌⊎◌, inl, inr, ℕ, List, ◌∷◌, ◌++◌, refl, sym, subst, ◌∙◌, arith, append_assoc, codes, Option, Some, None}
use Rattle.oim_cells.specs.declared.cells.Accuracy.{Accuracy}
use Rattle.oim_cells.specs.declared.cells.NumberKind.{NumberKind}
use Rattle.oim_cells.specs.declared.cells.NumberKind.TheVariants.{Integer, Decimal, Double}
use Rattle.oim_cells.specs.Numeral.{IsNumeralOf, IsDecimals, IsSplit, suffixed, bare}
use Rattle.oim_cells.proofs.Marks.{Lacks, lacks_not, first_mark}
use Rattle.oim_cells.proofs.Doubles.{integer_lacks, decimal_lacks, of_double, marked_lacks}

pub numeral_lacks : (kind : NumberKind) (s : List ℕ) → IsNumeralOf kind s → Lacks 100 s
numeral_lacks Integer s h = integer_lacks 100 s (omega arith) h
numeral_lacks Decimal s h = decimal_lacks 100 s (omega arith) h
numeral_lacks Double s h =
    elim (of_double h) [
      | inl d ↦ decimal_lacks 100 s (omega arith) d
      | inr p ↦ subst (Lacks 100) (sym p.3) (marked_lacks 100 p.1 p.0 p.2 (omega arith) (λ e. elim p.4 [ inl q ↦ absurd (omega arith) | inr q ↦ absurd (omega arith) ]) p.5 p.6)
    ]

pub of_split : {kind : NumberKind} {s v : List ℕ} {a : Option Accuracy} → IsSplit kind s v a
    → ((d : List ℕ) × (accuracy : Accuracy) × (s ≡ v ++ 100 ∷ d) × IsNumeralOf kind v × IsDecimals d accuracy × (a ≡ Some accuracy)) ⊎ ((s ≡ v) × IsNumeralOf kind v × (a ≡ None))
of_split (suffixed kind v d accuracy n i) = inl (d, accuracy, append_assoc v (codes "d") d, n, i, refl)
of_split (bare kind v n) = inr (refl, n, refl)

-- The split of a text that has the mark.
pub split_at : (kind : NumberKind) (s v d : List ℕ) → s ≡ v ++ 100 ∷ d → Lacks 100 v → (w : List ℕ) (a : Option Accuracy) → IsSplit kind s w a
    → (v ≡ w) × IsNumeralOf kind v × ((accuracy : Accuracy) × IsDecimals d accuracy × (a ≡ Some accuracy))
split_at kind s v d e l w a p =
    elim (of_split p) [
      | inl i ↦ let same = first_mark 100 v d w i.0 l (numeral_lacks kind w i.3) (sym e ∙ i.2) in
          (same.0, subst (IsNumeralOf kind) (sym same.0) i.3, (i.1, subst (λ t. IsDecimals t i.1) (sym same.1) i.4, i.5))
      | inr i ↦ absurd (lacks_not 100 v d (subst (Lacks 100) (sym i.0 ∙ e) (numeral_lacks kind w i.1)))
    ]

-- The split of a text that does not have the mark.
pub split_bare : (kind : NumberKind) (s : List ℕ) → Lacks 100 s → (w : List ℕ) (a : Option Accuracy) → IsSplit kind s w a → (s ≡ w) × IsNumeralOf kind s × (a ≡ None)
split_bare kind s l w a p =
    elim (of_split p) [ inl i ↦ absurd (lacks_not 100 w i.0 (subst (Lacks 100) i.2 l)) | inr i ↦ (i.0, subst (IsNumeralOf kind) (sym i.0) i.1, i.2) ]
