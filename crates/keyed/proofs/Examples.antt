-- The rule of a channel on worked cases: numbers that are all the same. Source: the rule itself.
use Rattle.std.proofs.Common.{◌≡◌, ℕ, zero, suc, [], ◌∷◌, Some, None, refl, inl, inr, sym, arith}
use mathlib.Core.Option.{some-ne-none, some-injective}
use Rattle.keyed.specs.state.Keyed.{AllFit, AllKnow, IsKeyed}

abbrev same : ℕ → ℕ → Type 0
same k x = x ≡ k

-- Nothing was sent, and only one end exists.
begun : IsKeyed same [] (None ∷ [])
begun = inl (refl, refl)

-- Waiting items that match, and one that does not.
all_fit : AllFit same 7 (7 ∷ 7 ∷ []) × (AllFit same 7 (7 ∷ 8 ∷ []) → ⊥)
all_fit = ((refl, (refl, tt)), λ h. let no : 8 ≡ 7 = h.1.0 in absurd (omega (arith, no)))

-- All ends know one key, and the waiting items match it.
known : IsKeyed same (7 ∷ []) (Some 7 ∷ [])
known = inr (7, knows, (refl, tt))
  where
    knows : AllKnow {K = ℕ} 7 (Some 7 ∷ [])
    knows zero v at = sym (some-injective (Some 7) v at)
    knows (suc j) v at = absurd (some-ne-none v (sym at))
