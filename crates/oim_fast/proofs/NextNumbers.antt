-- The digits of a number and those of the next one.
use Rattle.std.proofs.Common.{◌≡◌, ℕ, ◌+◌, ◌-◌, ◌/◌, ◌%◌, ◌<◌, ◌^◌, List, [], ◌∷◌, ◌++◌, length, take, get_or, refl, sym, ap, ◌∙◌, append_assoc, arith}
use Rattle.std.specs.Prelude.{decimal}
use Rattle.std.proofs.Math.Seq.{take-append_seam}
use Rattle.std.proofs.lemmas.Fmt.{decimal_digit, decimal_step}
use Rattle.std.proofs.lemmas.List.{length_push, get_or_push}
use native.Mathlib.Decide.{dec_lt}

-- All digits except the last. If the last is not 9, the next number begins with them too.
by_last : (n : ℕ) → n < 2 ^ 32 → (f : List ℕ) × (decimal n ≡ f ++ (48 + n % 10) ∷ []) × (n % 10 < 9 → decimal (n + 1) ≡ f ++ (49 + n % 10) ∷ [])
by_last n few = elim (dec_lt n 10) [
  | yes small ↦ ([], decimal_digit n small ∙ ap (λ d. (48 + d) ∷ []) (omega arith), λ less. decimal_digit (n + 1) (omega arith) ∙ ap (λ d. d ∷ []) (omega arith))
  | no large ↦ (
    decimal (n / 10),
    decimal_step n (omega arith) (omega arith),
    λ less.
        decimal_step (n + 1) (omega arith) (omega arith)
        ∙ ap (λ m. decimal m ++ (48 + (n + 1) % 10) ∷ []) (omega arith)
        ∙ ap (λ d. decimal (n / 10) ++ d ∷ []) (omega arith),
  )
]

-- If a text ends with a number whose last digit is not 9, replacing that digit by the next one
-- makes the text end with the next number.
pub stepped : (out old text new : List ℕ) (n : ℕ) → n < 2 ^ 32 → text ≡ old → old ≡ out ++ decimal n → (get_or text (length text - 1) 0 ≡ 57 → ⊥)
    → new ≡ take (length old - 1) old ++ (get_or text (length text - 1) 0 + 1) ∷ [] → new ≡ out ++ decimal (n + 1)
stepped out old text new n few same is other set =
    let last = by_last n few in
    let front = out ++ last.0 in
    let digit = 48 + n % 10 in
    let whole : old ≡ front ++ digit ∷ [] = is ∙ ap (λ d. out ++ d) last.1 ∙ sym (append_assoc out last.0 (digit ∷ [])) in
    let long : length old - 1 ≡ length front = omega (arith, ap length whole, length_push front digit) in
    let there : get_or text (length text - 1) 0 ≡ digit = ap (λ (t : List ℕ). get_or t (length t - 1) 0) same ∙ ap (λ i. get_or old i 0) long ∙ ap (λ (t : List ℕ). get_or t (length front) 0) whole ∙ get_or_push front digit 0 (length front) refl in
    let cut : take (length old - 1) old ≡ front = ap (λ i. take i old) long ∙ ap (λ (t : List ℕ). take (length front) t) whole ∙ take-append_seam front (digit ∷ []) in
    let less : n % 10 < 9 = elim (dec_lt (n % 10) 9) [
      | yes lt ↦ lt
      | no nine ↦ absurd (other (there ∙ omega arith))
    ] in
    set ∙ rw (cut, there) (append_assoc out last.0 ((digit + 1) ∷ []) ∙ ap (λ d. out ++ (last.0 ++ d ∷ [])) (omega arith) ∙ ap (λ d. out ++ d) (sym (last.2 less)))
