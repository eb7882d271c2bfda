-- One bit of a word as a Bool, through each operation. After the `json` crate.
use Rattle.std.proofs.Common.{◌≡◌, ℕ, zero, suc, ◌+◌, ◌-◌, ◌*◌, ◌/◌, ◌%◌, ◌^◌, ◌<◌, ◌≤◌, ◌⊎◌, inl, inr, min, max, Bool, true, false, not, ◌&&◌, List, ◌∷◌, length, get_or, cond, refl, sym, ap, ap₂, ◌∙◌, subst, arith, w64, not-suc-le-zero, le_of_suc-le-suc, mul_assoc}
use Rattle.std.specs.Prelude.{◌==◌, ◌||◌}
use Rattle.std.specs.Int.{bit_at}
use Rattle.std.specs.Simd.Lanes.{mask_l}
use Rattle.std.proofs.lemmas.Bool.{cases_lt}
use Rattle.std.proofs.lemmas.Nat.Bits.{bit_at-lt, bit_at_and, bit_at_not, bit_at_or, bit_at_xor, same_from_bits_below}
use Rattle.std.proofs.lemmas.Simd.{bit_mask_l, mask_l-lt}
use lib.Bits.{bit_and, bit_or, bit_xor, shifted_even}
use lib.Pow.{field, mod-mod-pow, shr-shr, shl-shr, pow-add}
use Rattle.oim_records.specs.state.Bits.{differ, is_odd_below, is_set}
use Rattle.oim_records.specs.state.Blocks.{but}
use Rattle.oim_records.proofs.Masks.{same, same_is, upto_sound}

bit_cases : (P : ℕ → Type 0) → P 0 → P 1 → (x : ℕ) → x < 2 → P x
bit_cases P p q zero h = p
bit_cases P p q (suc zero) h = q
bit_cases P p q (suc (suc r)) h = absurd (not-suc-le-zero (le_of_suc-le-suc (le_of_suc-le-suc h)))

two_bits : (P : ℕ → ℕ → Type 0) → P 0 0 → P 0 1 → P 1 0 → P 1 1 → (a b i : ℕ) → P (bit_at a i) (bit_at b i)
two_bits P p q r s a b i =
    bit_cases (λ x. P x (bit_at b i)) (bit_cases (P 0) p q (bit_at b i) (bit_at-lt b i)) (bit_cases (P 1) r s (bit_at b i) (bit_at-lt b i)) (bit_at a i) (bit_at-lt a i)

pub set-and : (a b i : ℕ) → is_set (bit_and a b) i ≡ (is_set a i && is_set b i)
unfolding is_set
set-and a b i = ap (λ n. n == 1) (bit_at_and a b i) ∙ two_bits (λ x y. (min x y == 1) ≡ ((x == 1) && (y == 1))) refl refl refl refl a b i

pub set-or : (a b i : ℕ) → is_set (bit_or a b) i ≡ (is_set a i || is_set b i)
unfolding is_set
set-or a b i = ap (λ n. n == 1) (bit_at_or a b i) ∙ two_bits (λ x y. (max x y == 1) ≡ ((x == 1) || (y == 1))) refl refl refl refl a b i

pub set-xor : (a b i : ℕ) → is_set (bit_xor a b) i ≡ differ (is_set a i) (is_set b i)
unfolding is_set
set-xor a b i = ap (λ n. n == 1) (bit_at_xor a b i) ∙ two_bits (λ x y. ((x + y) % 2 == 1) ≡ differ (x == 1) (y == 1)) refl refl refl refl a b i

-- The complement of a word, and a word without the bits of another.
abbrev pub flip : ℕ → ℕ
flip a = 2 ^ 64 - 1 - a

set-flip : (a i : ℕ) → a < 2 ^ 64 → i < 64 → is_set (flip a) i ≡ not (is_set a i)
unfolding is_set
set-flip a i ha hi = ap (λ n. n == 1) (bit_at_not w64 a i ha hi) ∙ bit_cases (λ x. ((1 - x) == 1) ≡ not (x == 1)) refl refl (bit_at a i) (bit_at-lt a i)

pub set-but : (a b i : ℕ) → b < 2 ^ 64 → i < 64 → is_set (bit_and a (flip b)) i ≡ but (is_set a i) (is_set b i)
set-but a b i hb hi = set-and a (flip b) i ∙ ap (λ x. is_set a i && x) (set-flip b i hb hi) ∙ at (is_set a i) (is_set b i)
  where
    at : (x y : Bool) → (x && not y) ≡ but x y
    at true y = refl
    at false y = refl

pub set-mod : (n i : ℕ) → i < 64 → is_set (n % 2 ^ 64) i ≡ is_set n i
unfolding is_set
set-mod n i h =
    let m = 63 - i in
    let e : m + 1 + i ≡ 64 = omega arith in
    ap (λ x. x == 1) (subst (λ w. bit_at (n % 2 ^ w) i ≡ bit_at n i) e (ap (λ x. x % 2) (field n (m + 1) i) ∙ mod-mod-pow (n / 2 ^ i) m 1))

abbrev pub shl : ℕ → ℕ → ℕ
shl k y = y * 2 ^ k % 2 ^ 64

pub set-shl_high : (k j y : ℕ) → k + j < 64 → is_set (shl k y) (k + j) ≡ is_set y j
unfolding is_set
set-shl_high k j y h = set-mod (y * 2 ^ k) (k + j) h ∙ ap (λ x. x % 2 == 1) (sym (shr-shr (y * 2 ^ k) k j) ∙ ap (λ x. x / 2 ^ j) (shl-shr y k))

pub set-shl_low : (k i y : ℕ) → i < k → i < 64 → is_set (shl k y) i ≡ false
unfolding is_set
set-shl_low k i y lt h =
    let m = k - i - 1 in
    let e : suc m + i ≡ k = omega arith in
    let moved : y * 2 ^ (suc m + i) / 2 ^ i ≡ y * 2 ^ suc m = ap (λ x. x / 2 ^ i) (ap (λ x. y * x) (pow-add 2 (suc m) i) ∙ sym (mul_assoc y (2 ^ suc m) (2 ^ i))) ∙ shl-shr (y * 2 ^ suc m) i in
    set-mod (y * 2 ^ k) i h ∙ ap (λ x. x == 1) (subst (λ w. bit_at (y * 2 ^ w) i ≡ 0) e (ap (λ x. x % 2) moved ∙ shifted_even y m))

pub set-mask_l : (ms : List Bool) (i : ℕ) → is_set (mask_l ms) i ≡ get_or ms i false
unfolding is_set
set-mask_l ms i = ap (λ x. x == 1) (bit_mask_l ms i) ∙ back (get_or ms i false)
  where
    back : (b : Bool) → (cond b 1 0 == 1) ≡ b
    back true = refl
    back false = refl

-- The bits of a word are these.
abbrev pub Shows : ℕ → List Bool → Type 0
Shows m ms = (k : ℕ) → k < 64 → is_set m k ≡ get_or ms k false

-- A word is the mask of its bits.
pub mask-shown : (m : ℕ) (ms : List Bool) → m < 2 ^ 64 → length ms ≡ 64 → Shows m ms → m ≡ mask_l ms
unfolding is_set
mask-shown m ms small long shows =
    let low : mask_l ms < 2 ^ 64 = subst (λ n. mask_l ms < 2 ^ n) long (mask_l-lt ms) in
    same_from_bits_below 64 m (mask_l ms) small low (λ i lt. one i (shows i lt ∙ sym (set-mask_l ms i)))
  where
    one : (i : ℕ) → (bit_at m i == 1) ≡ (bit_at (mask_l ms) i == 1) → bit_at m i ≡ bit_at (mask_l ms) i
    one i = two_bits (λ x y. (x == 1) ≡ (y == 1) → x ≡ y) (λ e. refl) (λ e. cc) (λ e. cc) (λ e. refl) m (mask_l ms) i

-- A Bool as the lowest bit of a word.
set-first : (b : Bool) → is_set (cond b 1 0) 0 ≡ b
unfolding is_set
set-first true = refl
set-first false = refl

set-other : (b : Bool) (i : ℕ) → i < 64 → is_set (cond b 1 0) (suc i) ≡ false
unfolding is_set
set-other true i h = same_is _ _ (upto_sound (λ j. same (is_set 1 (suc j)) false) 64 tt i h)
set-other false i h = same_is _ _ (upto_sound (λ j. same (is_set 0 (suc j)) false) 64 tt i h)

-- Whether a word is not 0 after a shift that leaves only its highest bit.
pub set-highest : (m : ℕ) → m < 2 ^ 64 → not (m / 2 ^ 63 == 0) ≡ is_set m 63
unfolding is_set
set-highest m small = bit_cases (λ x. not (x == 0) ≡ (x % 2 == 1)) refl refl (m / 2 ^ 63) (omega arith)

-- All bits, and none.
pub set-all : (i : ℕ) → i < 64 → is_set 18446744073709551615 i ≡ true
unfolding is_set
set-all i h = same_is _ _ (upto_sound (λ j. same (is_set 18446744073709551615 j) true) 64 tt i h)

pub set-none : (i : ℕ) → i < 64 → is_set 0 i ≡ false
unfolding is_set
set-none i h = same_is _ _ (upto_sound (λ j. same (is_set 0 j) false) 64 tt i h)

-- The bits of a word moved up by one, and one moved in.
pub moved-in : (m : ℕ) (b : Bool) (ms : List Bool) → Shows m ms → Shows (bit_or (shl 1 m) (cond b 1 0)) (b ∷ ms)
moved-in m b ms shows zero h = set-or (shl 1 m) (cond b 1 0) 0 ∙ ap₂ (λ x y. x || y) (set-shl_low 1 0 m (omega arith) h) (set-first b)
moved-in m b ms shows (suc k) h =
    let e : 1 + k ≡ suc k = omega arith in
    set-or (shl 1 m) (cond b 1 0) (suc k)
    ∙ ap₂ (λ x y. x || y) (ap (is_set (shl 1 m)) (sym e) ∙ set-shl_high 1 k m (omega arith) ∙ shows k (omega arith)) (set-other b k (omega arith))
    ∙ at (get_or ms k false)
  where
    at : (x : Bool) → (x || false) ≡ x
    at true = refl
    at false = refl

-- ---- Six shifts and xors.

differ-false : (a : Bool) → differ a false ≡ a
differ-false true = refl
differ-false false = refl

differ_back : (a b : Bool) → differ (differ a b) a ≡ b
differ_back true true = refl
differ_back true false = refl
differ_back false true = refl
differ_back false false = refl

differ_chain : (a b c : Bool) → differ (differ a b) (differ b c) ≡ differ a c
differ_chain true true c = refl
differ_chain false false c = refl
differ_chain true false c = refl
differ_chain false true true = refl
differ_chain false true false = refl

pub differ_comm : (a b : Bool) → differ a b ≡ differ b a
differ_comm true true = refl
differ_comm true false = refl
differ_comm false true = refl
differ_comm false false = refl

pub differ_swap : (a b c : Bool) → differ (differ a b) c ≡ differ (differ a c) b
differ_swap false b c = differ_comm b c
differ_swap true true true = refl
differ_swap true true false = refl
differ_swap true false true = refl
differ_swap true false false = refl

-- Each bit of y depends on the k bits of x that end there.
abbrev Window : ℕ → ℕ → ℕ → Type 0
Window x k y = (i : ℕ) → i < 64 → is_set y i ≡ differ (is_odd_below x (suc i)) (is_odd_below x (suc i - k))

abbrev smear : ℕ → ℕ → ℕ
smear k y = bit_xor y (shl k y)

first : (x : ℕ) → Window x 1 x
unfolding is_odd_below
first x i h =
    let e : i ≡ suc i - 1 = omega arith in
    sym (differ_back (is_odd_below x i) (is_set x i)) ∙ ap (λ n. differ (is_odd_below x (suc i)) (is_odd_below x n)) e

double : (x k y : ℕ) → Window x k y → Window x (k + k) (smear k y)
double x k y w i h = set-xor y (shl k y) i ∙ go (cases_lt i k)
  where
    go : (i < k) ⊎ (k ≤ i) → differ (is_set y i) (is_set (shl k y) i) ≡ differ (is_odd_below x (suc i)) (is_odd_below x (suc i - (k + k)))
    go (inl l) = ap (differ (is_set y i)) (set-shl_low k i y l h) ∙ differ-false (is_set y i) ∙ w i h ∙ ap (λ n. differ (is_odd_below x (suc i)) (is_odd_below x n)) (omega arith)
    go (inr g) =
        let j = i - k in
        let e : i ≡ k + j = omega arith in
        let a : suc i - k ≡ suc j = omega arith in
        let b : suc j - k ≡ suc i - (k + k) = omega arith in
        ap₂ differ (w i h ∙ ap (λ n. differ (is_odd_below x (suc i)) (is_odd_below x n)) a) (ap (is_set (shl k y)) e ∙ set-shl_high k j y (omega arith) ∙ w j (omega arith))
        ∙ differ_chain (is_odd_below x (suc i)) (is_odd_below x (suc j)) (is_odd_below x (suc j - k)) ∙ ap (λ n. differ (is_odd_below x (suc i)) (is_odd_below x n)) b

pub prefix : (x i : ℕ) → i < 64 → is_set (smear 32 (smear 16 (smear 8 (smear 4 (smear 2 (smear 1 x)))))) i ≡ is_odd_below x (i + 1)
unfolding is_odd_below
prefix x i h =
    let e : suc i - 64 ≡ 0 = omega arith in
    let one : suc i ≡ i + 1 = omega arith in
    double x 32 _ (double x 16 _ (double x 8 _ (double x 4 _ (double x 2 _ (double x 1 x (first x)))))) i h
    ∙ ap (λ n. differ (is_odd_below x (suc i)) (is_odd_below x n)) e ∙ differ-false (is_odd_below x (suc i)) ∙ ap (is_odd_below x) one
