-- The bits of a mask.
use Rattle.std.specs.Prelude.{◌≡◌, ◌<◌, ◌==◌, ℕ, zero, suc, Bool, true, false, not}
use Rattle.std.specs.Int.{bit_at}

-- The bit is set, and no lower bit is.
abbrev pub IsLowest : ℕ → ℕ → Type 0
IsLowest m bit = (bit_at m bit ≡ 1) × ((k : ℕ) → k < bit → bit_at m k ≡ 0)

-- Whether bit `k` is set.
unfoldable pub is_set : ℕ → ℕ → Bool
is_set m k = bit_at m k == 1

-- Exclusive or.
abbrev pub differ : Bool → Bool → Bool
differ true b = not b
differ false b = b

-- Whether an odd number of the lowest bits, as many as the second argument, is set.
unfoldable pub is_odd_below : ℕ → ℕ → Bool
is_odd_below m zero = false
is_odd_below m (suc k) = differ (is_odd_below m k) (is_set m k)
