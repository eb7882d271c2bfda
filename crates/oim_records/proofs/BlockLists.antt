-- The Bools of a block, one at a time.
use Rattle.std.proofs.Common.{◌≡◌, ℕ, zero, suc, ◌<◌, Bool, false, List, [], ◌∷◌, map, length, get_or, refl, ap, ◌∙◌, arith}
use Rattle.std.specs.Prelude.{◌&&◌}
use Rattle.oim_records.specs.state.Bits.{differ}
use Rattle.oim_records.specs.state.Blocks.{but, firsts, is_opener, led}
use Rattle.oim_records.specs.Lines.{ends_line}
use Rattle.oim_records.specs.state.Bytes.{is_quote}
use Rattle.oim_records.specs.declared.csv_state.CsvState.{CsvState}
use Rattle.oim_records.proofs.BlockWalks.{insides, led_behind, line_ends, strays}

pub first-at : (before : Bool) (es : List Bool) (k : ℕ) → get_or (firsts before es) k false ≡ but (get_or es k false) (get_or (before ∷ es) k false)
unfolding firsts
first-at before [] k = refl
first-at before (e ∷ es) zero = refl
first-at before (e ∷ es) (suc k) = first-at e es k

pub end-at : (inside : Bool) (xs : List ℕ) (k : ℕ) → get_or (line_ends inside xs) k false ≡ but (ends_line (get_or xs k 0)) (get_or (insides inside xs) k false)
unfolding line_ends insides
end-at inside [] k = refl
end-at inside (c ∷ xs) zero = refl
end-at inside (c ∷ xs) (suc k) = end-at (differ inside (is_quote c)) xs k

pub stray-at : (inside ready : Bool) (xs : List ℕ) (k : ℕ)
    → get_or (strays inside ready xs) k false ≡ but (is_quote (get_or xs k 0) && get_or (insides inside xs) k false) (get_or (ready ∷ map is_opener xs) k false)
unfolding strays insides
stray-at inside ready [] k = refl
stray-at inside ready (c ∷ xs) zero = refl
stray-at inside ready (c ∷ xs) (suc k) = stray-at (differ inside (is_quote c)) (is_opener c) xs k

pub length-line_ends : (inside : Bool) (xs : List ℕ) → length (line_ends inside xs) ≡ length xs
unfolding line_ends
length-line_ends inside [] = refl
length-line_ends inside (c ∷ xs) = ap suc (length-line_ends (differ inside (is_quote c)) xs)

pub length-strays : (inside ready : Bool) (xs : List ℕ) → length (strays inside ready xs) ≡ length xs
unfolding strays
length-strays inside ready [] = refl
length-strays inside ready (c ∷ xs) = ap suc (length-strays (differ inside (is_quote c)) (is_opener c) xs)

pub length-firsts : (before : Bool) (es : List Bool) → length (firsts before es) ≡ length es
unfolding firsts
length-firsts before [] = refl
length-firsts before (e ∷ es) = ap suc (length-firsts e es)

-- The place after a block depends only on its last byte.
pub led-last : (p : CsvState) (inside : Bool) (xs : List ℕ) (n : ℕ) → length xs ≡ suc n → led_behind p inside xs ≡ led (get_or (insides inside xs) n false) (get_or xs n 0)
unfolding led_behind insides
led-last p inside [] n long = absurd (omega arith)
led-last p inside (c ∷ []) zero long = refl
led-last p inside (c ∷ []) (suc n) long = absurd (omega arith)
led-last p inside (c ∷ d ∷ xs) zero long = absurd (omega arith)
led-last p inside (c ∷ d ∷ xs) (suc n) long = led-last (led (differ inside (is_quote c)) c) (differ inside (is_quote c)) (d ∷ xs) n (omega arith)

-- Each quote toggles whether the bytes are inside quotes.
pub inside-along : (inside : Bool) (xs : List ℕ) (f q : ℕ → Bool) → ((k : ℕ) → k < length xs → q k ≡ is_quote (get_or xs k 0))
    → (0 < length xs → f 0 ≡ differ inside (q 0)) → ((k : ℕ) → suc k < length xs → f (suc k) ≡ differ (f k) (q (suc k)))
    → (k : ℕ) → k < length xs → f k ≡ get_or (insides inside xs) k false
unfolding insides
inside-along inside [] f q quotes first next k lt = absurd (omega arith)
inside-along inside (c ∷ xs) f q quotes first next zero lt = first (omega arith) ∙ ap (differ inside) (quotes 0 (omega arith))
inside-along inside (c ∷ xs) f q quotes first next (suc k) lt =
    inside-along (differ inside (is_quote c)) xs (λ i. f (suc i)) (λ i. q (suc i)) (λ i l. quotes (suc i) (omega arith))
    (λ l. next 0 (omega arith) ∙ ap (λ b. differ b (q 1)) (first (omega arith) ∙ ap (differ inside) (quotes 0 (omega arith))))
    (λ i l. next (suc i) (omega arith)) k (omega arith)
