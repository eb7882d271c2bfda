-- The bits of a mask of 64 bytes.
use Rattle.std.proofs.Common.{◌≡◌, ℕ, ◌+◌, ◌<◌, Bool, true, false, cond, List, map, take, drop, get_or, ap, subst, ◌∙◌, arith}
use Rattle.std.specs.Int.{bit_at}
use Rattle.std.specs.Simd.Lanes.{mask_l}
use Rattle.std.proofs.lemmas.List.{get_or-drop, get_or-take, get_or_past, length-take}
use Rattle.std.proofs.Math.ListN.{get_or-map}
use Rattle.std.proofs.lemmas.Simd.{bit_mask_l}
use native.Mathlib.Decide.{dec_lt}

bit-of : (p : ℕ → Bool) → p 0 ≡ false → (v : List ℕ) (k : ℕ) → bit_at (mask_l (map p v)) k ≡ cond (p (get_or v k 0)) 1 0
bit-of p none v k = bit_mask_l (map p v) k ∙ ap (λ b. cond b 1 0) (subst (λ d. get_or (map p v) k d ≡ p (get_or v k 0)) none (get_or-map p v k 0))

-- The bit of a byte that passes the test is set.
pub bit-set : (p : ℕ → Bool) → p 0 ≡ false → (s : List ℕ) (at m k : ℕ) → m ≡ mask_l (map p (take 64 (drop at s))) → k < 64 → p (get_or s (at + k) 0) ≡ true → bit_at m k ≡ 1
bit-set p none s at m k is small passes =
    let v = take 64 (drop at s) in
    let here : get_or v k 0 ≡ get_or s (at + k) 0 = get_or-take 64 (drop at s) k 0 small ∙ get_or-drop at s k 0 in
    ap (λ n. bit_at n k) is ∙ bit-of p none v k ∙ ap (λ x. cond (p x) 1 0) here ∙ ap (λ b. cond b 1 0) passes

-- No bit past the bytes is set.
pub bit-within : (p : ℕ → Bool) → p 0 ≡ false → (s : List ℕ) (at m k : ℕ) → m ≡ mask_l (map p (take 64 (drop at s))) → bit_at m k ≡ 1 → k < 64
bit-within p none s at m k is one =
    let v = take 64 (drop at s) in
    elim (dec_lt k 64) [
      | yes lt ↦ lt
      | no past ↦
          let over : get_or v k 0 ≡ 0 = get_or_past v k 0 (omega (arith, length-take 64 (drop at s))) in
          let zero : bit_at m k ≡ 0 = ap (λ n. bit_at n k) is ∙ bit-of p none v k ∙ ap (λ x. cond (p x) 1 0) over ∙ ap (λ b. cond b 1 0) none in
          absurd (omega arith)
    ]
