-- The masks of a block, by the Bools of its bytes.
use Rattle.std.proofs.Common.{◌≡◌, ℕ, zero, suc, ◌+◌, ◌^◌, ◌<◌, ◌≤◌, Bool, true, false, cond, List, map, length, get_or, refl, sym, ap, ap₂, ◌∙◌, subst, arith}
use Rattle.std.specs.Prelude.{◌&&◌, ◌||◌}
use Rattle.std.specs.Simd.Lanes.{mask_l}
use Rattle.std.proofs.Math.ListN.{get_or-map}
use Rattle.std.proofs.lemmas.List.{length-map}
use Rattle.std.proofs.lemmas.Nat.{and_le_l, or_lt}
use lib.Bits.{bit_and, bit_or, bit_xor}
use Rattle.oim_records.specs.state.Bits.{differ, is_odd_below, is_set}
use Rattle.oim_records.specs.state.Blocks.{but, firsts, is_opener}
use Rattle.oim_records.specs.Lines.{ends_line}
use Rattle.oim_records.specs.state.Bytes.{is_quote}
use Rattle.oim_records.proofs.BlockLists.{end-at, first-at, inside-along, length-firsts, length-line_ends, length-strays, stray-at}
use Rattle.oim_records.proofs.BlockWalks.{insides, line_ends, strays}
use Rattle.oim_records.proofs.WordBits.{Shows, differ_comm, differ_swap, flip, mask-shown, moved-in, set-and, set-but, set-mask_l, set-none, set-or, set-xor, shl}

moved-small : (m : ℕ) (b : Bool) → bit_or (shl 1 m) (cond b 1 0) < 2 ^ 64
moved-small m b = or_lt 64 (shl 1 m) (cond b 1 0) (omega arith) (at b)
  where
    at : (b : Bool) → cond b 1 0 < 2 ^ 64
    at true = omega arith
    at false = omega arith

-- The bits of a mask of bytes.
pub marked : (p : ℕ → Bool) → p 0 ≡ false → (xs : List ℕ) (m k : ℕ) → m ≡ mask_l (map p xs) → is_set m k ≡ p (get_or xs k 0)
marked p none xs m k is = ap (λ n. is_set n k) is ∙ set-mask_l (map p xs) k ∙ subst (λ d. get_or (map p xs) k d ≡ p (get_or xs k 0)) none (get_or-map p xs k 0)

-- The bytes that pass one of two tests.
pub either-marked : (p q r : ℕ → Bool) → p 0 ≡ false → q 0 ≡ false → ((c : ℕ) → (p c || q c) ≡ r c) → (xs : List ℕ) (a b : ℕ) → length xs ≡ 64 → a < 2 ^ 64 → b < 2 ^ 64
    → a ≡ mask_l (map p xs) → b ≡ mask_l (map q xs) → bit_or a b ≡ mask_l (map r xs)
either-marked p q r pn qn same xs a b long sa sb ia ib = mask-shown (bit_or a b) (map r xs) (or_lt 64 a b sa sb) (length-map xs r ∙ long) shows
  where
    none : r 0 ≡ false
    none = sym (same 0) ∙ ap₂ (λ x y. x || y) pn qn

    shows : (k : ℕ) → k < 64 → is_set (bit_or a b) k ≡ get_or (map r xs) k false
    shows k lt =
        set-or a b k ∙ ap₂ (λ x y. x || y) (marked p pn xs a k ia) (marked q qn xs b k ib) ∙ same (get_or xs k 0)
        ∙ sym (subst (λ d. get_or (map r xs) k d ≡ r (get_or xs k 0)) none (get_or-map r xs k 0))

-- The bytes inside quotes.
pub inside-shown : (inside : Bool) (xs : List ℕ) (quotes odd all : ℕ) → length xs ≡ 64 → quotes ≡ mask_l (map is_quote xs)
    → ((k : ℕ) → k < 64 → is_set odd k ≡ is_odd_below quotes (k + 1)) → ((k : ℕ) → k < 64 → is_set all k ≡ inside) → Shows (bit_xor odd all) (insides inside xs)
unfolding is_odd_below
inside-shown inside xs quotes odd all long is up same k lt =
    inside-along inside xs (is_set (bit_xor odd all)) (is_set quotes) (λ i l. marked is_quote refl xs quotes i is) (λ l. begins) (λ i l. goes i (omega arith)) k (omega arith)
  where
    begins : is_set (bit_xor odd all) 0 ≡ differ inside (is_set quotes 0)
    begins = set-xor odd all 0 ∙ ap₂ differ (up 0 (omega arith)) (same 0 (omega arith)) ∙ differ_comm (is_set quotes 0) inside

    here : (i : ℕ) → i < 64 → is_set (bit_xor odd all) i ≡ differ (is_odd_below quotes (suc i)) inside
    here i l = let one : i + 1 ≡ suc i = omega arith in set-xor odd all i ∙ ap₂ differ (up i l ∙ ap (is_odd_below quotes) one) (same i l)

    goes : (i : ℕ) → suc i < 64 → is_set (bit_xor odd all) (suc i) ≡ differ (is_set (bit_xor odd all) i) (is_set quotes (suc i))
    goes i l =
        here (suc i) l ∙ differ_swap (is_odd_below quotes (suc i)) (is_set quotes (suc i)) inside
        ∙ ap (λ b. differ b (is_set quotes (suc i))) (sym (here i (omega arith)))

-- Without quotes the count is never odd.
odd-none : (n : ℕ) → n ≤ 64 → is_odd_below 0 n ≡ false
unfolding is_odd_below
odd-none zero le = refl
odd-none (suc k) le = ap₂ differ (odd-none k (omega arith)) (set-none k (omega arith))

-- Without a quote among the bytes, all of them or none are inside quotes.
pub plain-shown : (inside : Bool) (xs : List ℕ) (quotes all : ℕ) → length xs ≡ 64 → quotes ≡ mask_l (map is_quote xs) → quotes ≡ 0
    → ((k : ℕ) → k < 64 → is_set all k ≡ inside) → Shows all (insides inside xs)
plain-shown inside xs quotes all long is none same k lt =
    sym (set-xor 0 all k ∙ ap (λ b. differ b (is_set all k)) (set-none k lt))
    ∙ inside-shown inside xs quotes 0 all long is (λ i l. set-none i l ∙ sym (ap (λ n. is_odd_below n (i + 1)) none ∙ odd-none (i + 1) (omega arith))) same k lt

-- The quotes that would open quotes where a quote cannot.
pub strays-masked : (inside ready : Bool) (xs : List ℕ) (quotes openers m : ℕ) → length xs ≡ 64 → quotes ≡ mask_l (map is_quote xs) → openers ≡ mask_l (map is_opener xs)
    → quotes < 2 ^ 64 → Shows m (insides inside xs) → bit_and (bit_and quotes m) (flip (bit_or (shl 1 openers) (cond ready 1 0))) ≡ mask_l (strays inside ready xs)
strays-masked inside ready xs quotes openers m long is starts small shows =
    mask-shown _ (strays inside ready xs) (omega (arith, and_le_l (bit_and quotes m) (flip before), and_le_l quotes m)) (length-strays inside ready xs ∙ long) (λ k lt.
    set-but (bit_and quotes m) before k (moved-small openers ready) lt
    ∙ ap₂ but (set-and quotes m k ∙ ap₂ (λ x y. x && y) (marked is_quote refl xs quotes k is) (shows k lt)) (moved-in openers ready (map is_opener xs) (λ i l. ap (λ n. is_set n i) starts ∙ set-mask_l (map is_opener xs) i) k lt)
    ∙ sym (stray-at inside ready xs k))
  where
    before : ℕ
    before = bit_or (shl 1 openers) (cond ready 1 0)

-- Without quotes, none opens quotes.
pub no-strays : (inside ready : Bool) (xs : List ℕ) (quotes m : ℕ) → length xs ≡ 64 → quotes ≡ mask_l (map is_quote xs) → quotes ≡ 0
    → Shows m (insides inside xs) → mask_l (strays inside ready xs) ≡ 0
no-strays inside ready xs quotes m long is none shows =
    let starts = mask_l (map is_opener xs) in
    let before = bit_or (shl 1 starts) (cond ready 1 0) in
    let masked = strays-masked inside ready xs quotes starts m long is refl (omega (arith, none)) shows in
    omega (arith, and_le_l (bit_and quotes m) (flip before), and_le_l quotes m, none, masked)

-- The line ends outside quotes.
pub ends-masked : (inside : Bool) (xs : List ℕ) (lines m : ℕ) → length xs ≡ 64 → lines ≡ mask_l (map ends_line xs) → lines < 2 ^ 64 → m < 2 ^ 64 → Shows m (insides inside xs)
    → bit_and lines (flip m) ≡ mask_l (line_ends inside xs)
ends-masked inside xs lines m long is small low shows =
    mask-shown _ (line_ends inside xs) (omega (arith, and_le_l lines (flip m))) (length-line_ends inside xs ∙ long) (λ k lt.
    set-but lines m k low lt ∙ ap₂ but (marked ends_line refl xs lines k is) (shows k lt) ∙ sym (end-at inside xs k))

-- The line ends that do not directly follow another one.
pub firsts-masked : (before : Bool) (es : List Bool) (ends : ℕ) → length es ≡ 64 → ends ≡ mask_l es → ends < 2 ^ 64
    → bit_and ends (flip (bit_or (shl 1 ends) (cond before 1 0))) ≡ mask_l (firsts before es)
firsts-masked before es ends long is small =
    let shows : Shows ends es = λ k lt. ap (λ n. is_set n k) is ∙ set-mask_l es k in
    mask-shown _ (firsts before es) (omega (arith, and_le_l ends (flip (bit_or (shl 1 ends) (cond before 1 0))))) (length-firsts before es ∙ long) (λ k lt.
    set-but ends (bit_or (shl 1 ends) (cond before 1 0)) k (moved-small ends before) lt ∙ ap₂ but (shows k lt) (moved-in ends before es shows k lt) ∙ sym (first-at before es k))
