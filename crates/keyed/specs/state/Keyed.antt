-- A channel whose first item fixes a key, and whose items all match it.
use Rattle.std.specs.Prelude.{◌≡◌, ◌⊎◌, ⊤, ℕ, List, [], ◌∷◌, Option, Some, None}
use mathlib.Core.Option.{some}
use lib.ListN.{get_elem?}

-- All items match the key.
abbrev pub AllFit : {K T : Type 0} → (K → T → Type 0) → K → List T → Type 0
AllFit fits k [] = ⊤
AllFit fits k (x ∷ xs) = fits k x × AllFit fits k xs

-- All ends know this key.
abbrev pub AllKnow : {K : Type 0} → K → List (Option K) → Type 0
AllKnow {K} k views = (port : ℕ) (v : Option K) → get_elem? views port ≡ some v → v ≡ Some k

-- Only one end exists and nothing was sent; or all ends know one key, and the waiting items match
-- it.
abbrev pub IsKeyed : {K T : Type 0} → (K → T → Type 0) → List T → List (Option K) → Type 0
IsKeyed {K} fits items views = ((items ≡ []) × (views ≡ None ∷ [])) ⊎ ((k : K) × AllKnow k views × AllFit fits k items)
