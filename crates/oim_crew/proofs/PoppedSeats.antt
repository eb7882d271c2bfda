-- A list of seats whose last one was popped.
use Rattle.std.proofs.Common.{◌≡◌, ℕ, ◌+◌, List, [], ◌∷◌, ◌++◌, length, All, Some, refl, ap, ◌∙◌, arith}
use Rattle.std.specs.List.{sum_by}
use Rattle.std.proofs.lemmas.List.Elements.{All-pop}
use Rattle.std.proofs.lemmas.List.Sums.{sum_by_push}
use Rattle.oim_crew.specs.Claims.{Claiming, Drawer}

module _ {V : Type 0} (before after : List (Drawer V)) (seat : Drawer V) (popped : before ≡ after ++ seat ∷ []) where
  -- The sum before the pop.
  pub sum-pop : (f : Drawer V → ℕ) → sum_by f before ≡ sum_by f after + f seat
  sum-pop f = ap (λ (l : List (Drawer V)). sum_by f l) popped ∙ sum_by_push f after seat

  pub all-pop : (claims : Claiming V) → All (λ (s : Drawer V). s.claims ≡ claims) before → All (λ (s : Drawer V). s.claims ≡ claims) after × (seat.claims ≡ claims)
  all-pop claims all = All-pop (λ (s : Drawer V). s.claims ≡ claims) before after (Some seat) popped all

-- The sum over no seats is 0.
pub sum-empty : {V : Type 0} (seats : List (Drawer V)) (f : Drawer V → ℕ) → length seats ≡ 0 → sum_by f seats ≡ 0
sum-empty [] f e = refl
sum-empty (s ∷ ss) f e = absurd (omega arith)
