-- Texts that differ.
use Rattle.std.proofs.Common.{◌≡◌, ℕ, List, Bool, true, false, refl}
use Rattle.std.proofs.lemmas.Slice.Eq.{bytes_eq-Decides}
use Rattle.std.specs.Str.{bytes_eq}

pub differs : (a b : List ℕ) → (b ≡ a → ⊥) → bytes_eq a b ≡ false
differs a b not = by (bytes_eq a b) refl
  where
    by : (x : Bool) → bytes_eq a b ≡ x → bytes_eq a b ≡ false
    by true e = let same : a ≡ b = (bytes_eq-Decides a b).0 e in absurd (not (cc same))
    by false e = e
