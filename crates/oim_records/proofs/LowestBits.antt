-- The lowest bit of a number, and the number before it.
use Rattle.std.proofs.Common.{◌≡◌, ℕ, zero, suc, ◌-◌, ◌/◌, ◌%◌, ◌<◌, sym, ap, ◌∙◌, arith}
use Rattle.std.specs.Int.{bit_at}
use Rattle.std.proofs.lemmas.Nat.Bits.{bit_at-suc, bit_at_lowest}

-- The number before it lacks the lowest bit and has the same higher bits.
pub one-less : (bit m : ℕ) → bit_at m bit ≡ 1 → ((k : ℕ) → k < bit → bit_at m k ≡ 0) → (bit_at (m - 1) bit ≡ 0) × ((k : ℕ) → bit < k → bit_at (m - 1) k ≡ bit_at m k)
one-less zero m one below = (omega (arith, bit_at_lowest (m - 1), bit_at_lowest m, one), above)
  where
    half : (m - 1) / 2 ≡ m / 2
    half = omega (arith, bit_at_lowest m, one)

    above : (k : ℕ) → 0 < k → bit_at (m - 1) k ≡ bit_at m k
    above zero lt = absurd (omega arith)
    above (suc k) lt = bit_at-suc (m - 1) k ∙ ap (λ n. bit_at n k) half ∙ sym (bit_at-suc m k)
one-less (suc bit) m one below = more (one-less bit (m / 2) (sym (bit_at-suc m bit) ∙ one) (λ k lt. sym (bit_at-suc m k) ∙ below (suc k) (omega arith)))
  where
    even : m % 2 ≡ 0
    even = sym (bit_at_lowest m) ∙ below 0 (omega arith)

    half : (m - 1) / 2 ≡ m / 2 - 1
    half = omega (arith, even)

    more : (bit_at (m / 2 - 1) bit ≡ 0) × ((k : ℕ) → bit < k → bit_at (m / 2 - 1) k ≡ bit_at (m / 2) k)
        → (bit_at (m - 1) (suc bit) ≡ 0) × ((k : ℕ) → suc bit < k → bit_at (m - 1) k ≡ bit_at m k)
    more rest = (bit_at-suc (m - 1) bit ∙ ap (λ n. bit_at n bit) half ∙ rest.0, λ k lt. above rest.1 k lt)
      where
        above : ((k : ℕ) → bit < k → bit_at (m / 2 - 1) k ≡ bit_at (m / 2) k) → (k : ℕ) → suc bit < k → bit_at (m - 1) k ≡ bit_at m k
        above h zero lt = absurd (omega arith)
        above h (suc k) lt = bit_at-suc (m - 1) k ∙ ap (λ n. bit_at n k) half ∙ h k (omega arith) ∙ sym (bit_at-suc m k)
