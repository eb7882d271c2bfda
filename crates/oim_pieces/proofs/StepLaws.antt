-- How many steps of a table are left.
use Rattle.std.proofs.Common.{◌≡◌, ◌++◌, ◌+◌, ◌≤◌, ◌<◌, ℕ, suc, List, [], ◌∷◌, length, Option, Some, None, sym, subst, arith, length-append}
use Rattle.oim_pieces.specs.PiecesLeft.{FewerSteps, NoMoreSteps, steps_for}
use Rattle.oim_pieces.specs.state.Cutting.{HasAtLeast}
use Rattle.oim_pieces.specs.state.PiecesUnderWay.{PieceRowsLeft}

pub steps_same : (o : Option ℕ) → NoMoreSteps o o
steps_same None = tt
steps_same (Some n) = omega arith

pub steps_then : (a b c : Option ℕ) → NoMoreSteps a b → NoMoreSteps b c → NoMoreSteps a c
steps_then None b c ab bc = tt
steps_then (Some n) None c ab bc = absurd ab
steps_then (Some n) (Some m) None ab bc = absurd bc
steps_then (Some n) (Some m) (Some k) ab bc = omega (arith, ab, bc)

-- One more piece, of at least one byte, is cut and under way.
pub steps_cut : (fs : List PieceRowsLeft) (f : PieceRowsLeft) (old new : Option (List ℕ)) (piece : List ℕ) → 1 ≤ length piece → HasAtLeast old piece new
    → NoMoreSteps (steps_for (length fs) old) (steps_for (length (fs ++ f ∷ [])) new)
steps_cut fs f None new piece some takes = tt
steps_cut fs f (Some xs) None piece some takes = absurd takes
steps_cut fs f (Some xs) (Some ys) piece some takes =
    let pieces : length (fs ++ f ∷ []) ≡ length fs + 1 = length-append fs (f ∷ []) in
    omega (arith, some, takes, pieces)

-- No piece is cut.
pub steps_kept : (pieces : ℕ) (old new : Option (List ℕ)) → HasAtLeast old [] new → NoMoreSteps (steps_for pieces old) (steps_for pieces new)
steps_kept pieces None new kept = tt
steps_kept pieces (Some xs) None kept = absurd kept
steps_kept pieces (Some xs) (Some ys) kept = omega (arith, kept)

-- The first piece is joined.
pub steps_front : (f : PieceRowsLeft) (fs : List PieceRowsLeft) (unread : Option (List ℕ)) → FewerSteps (steps_for (length (f ∷ fs)) unread) (steps_for (length fs) unread)
steps_front f fs None = tt
steps_front f fs (Some xs) = omega arith

pub steps_joined : (all fs : List PieceRowsLeft) (f : PieceRowsLeft) (unread : Option (List ℕ)) → all ≡ f ∷ fs
    → FewerSteps (steps_for (length all) unread) (steps_for (length fs) unread)
steps_joined all fs f unread is = subst (λ (l : List PieceRowsLeft). FewerSteps (steps_for (length l) unread) (steps_for (length fs) unread)) (sym is) (steps_front f fs unread)

-- A call cuts ahead, and then joins the first piece.
pub steps_fewer : (a b c : Option ℕ) → NoMoreSteps a b → FewerSteps b c → FewerSteps a c
steps_fewer None b c ab bc = tt
steps_fewer (Some n) None c ab bc = absurd ab
steps_fewer (Some n) (Some m) None ab bc = absurd bc
steps_fewer (Some n) (Some m) (Some k) ab bc = omega (arith, ab, bc)
