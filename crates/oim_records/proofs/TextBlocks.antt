-- A block of one-byte and two-byte characters is UTF-8, as its marks show.
use Rattle.std.proofs.Common.{◌≡◌, ℕ, zero, suc, ◌+◌, ◌-◌, ◌<◌, ◌≤◌, List, [], ◌∷◌, Bool, true, false, not, cond, length, take, drop, map, get_or, refl, sym, ap, ap₂, ◌∙◌, subst, arith}
use Rattle.std.specs.Prelude.{◌&&◌, ◌||◌}
use Rattle.std.specs.Simd.Lanes.{mask_l}
use Rattle.std.specs.Str.{IsAscii, IsUtf8}
use Rattle.std.proofs.lemmas.Bool.{leb-false, leb-true}
use Rattle.std.proofs.lemmas.List.{drop_more, get_or_past, get_or-take, length-take}
use Rattle.std.proofs.lemmas.Str.{IsUtf8-from_ascii, IsUtf8-nil}
use native.Mathlib.Decide.{dec_lt}
use lib.Bits.{bit_or}
use lib.Dec.{leb}
use Rattle.oim_records.specs.state.Bits.{is_set}
use Rattle.oim_records.specs.state.Bytes.{begins_none, begins_pair, is_high}
use Rattle.oim_records.proofs.BlockBits.{marked}
use Rattle.oim_records.proofs.Pairs.{pair}
use Rattle.oim_records.proofs.Utf8Runs.{byte-grows, characters-grow}
use Rattle.oim_records.proofs.WordBits.{set-none, set-or, set-shl_high, set-shl_low, shl}

between : (a b c : ℕ) → (leb a c && not (leb b c)) ≡ true → (a ≤ c) × (c < b)
between a b c e = at (leb a c) (leb b c) refl refl e
  where
    at : (p q : Bool) → leb a c ≡ p → leb b c ≡ q → (p && not q) ≡ true → (a ≤ c) × (c < b)
    at true false low high h = (leb-true a c low, leb-false b c high)
    at true true low high h = cc h
    at false q low high h = cc h

-- Whether the byte before a position begins a two-byte character.
abbrev pub begun : ℕ → List ℕ → Bool
begun zero xs = false
begun (suc k) xs = begins_pair (get_or xs k 0)

module _ (xs : List ℕ)
    (high : (k : ℕ) → k < length xs → is_high (get_or xs k 0) ≡ (begins_pair (get_or xs k 0) || begins_none (get_or xs k 0)))
    (later : (k : ℕ) → k < length xs → begins_none (get_or xs k 0) ≡ begun k xs) where
  closed : (j : ℕ) → suc j < length xs → begins_pair (get_or xs j 0) ≡ true → IsUtf8 (take j xs) → IsUtf8 (take (j + 2) xs)
  closed j lt first front =
      let a = get_or xs j 0 in
      let b = get_or xs (suc j) 0 in
      let second : begins_none b ≡ true = later (suc j) lt ∙ first in
      let one : j + 1 ≡ suc j = omega arith in
      let there : take 2 (drop j xs) ≡ a ∷ b ∷ [] =
      ap (take 2) (drop_more xs j 0 (omega arith)) ∙ ap (λ r. a ∷ take 1 r) (ap (λ k. drop k xs) one ∙ drop_more xs (suc j) 0 lt) in
      let lows = between 194 224 a first in
      let highs = between 128 192 b second in
      characters-grow xs j 2 front (subst IsUtf8 (sym there) (pair a b lows.0 lows.1 highs.0 highs.1))

  step : (k : ℕ) (b c : Bool) → k < length xs → begun k xs ≡ b → begins_pair (get_or xs k 0) ≡ c → IsUtf8 (take (k - cond b 1 0) xs) → IsUtf8 (take (suc k - cond c 1 0) xs)
  step k false true lt e f front =
      let same : k - 0 ≡ suc k - 1 = omega arith in
      subst (λ n. IsUtf8 (take n xs)) same front
  step k false false lt e f front =
      let none : is_high (get_or xs k 0) ≡ false = high k lt ∙ ap₂ (λ x y. x || y) f (later k lt ∙ e) in
      let same : k - 0 ≡ k = omega arith in
      let more : k + 1 ≡ suc k - 0 = omega arith in
      subst (λ n. IsUtf8 (take n xs)) more (byte-grows xs k lt (leb-false 128 (get_or xs k 0) none) (subst (λ n. IsUtf8 (take n xs)) same front))
  step zero true c lt e f front = cc e
  step (suc j) true true lt e f front =
      let second = between 128 192 (get_or xs (suc j) 0) (later (suc j) lt ∙ e) in
      let first = between 194 224 (get_or xs (suc j) 0) f in
      absurd (omega (arith, second.1, first.0))
  step (suc j) true false lt e f front =
      let same : suc j - 1 ≡ j = omega arith in
      let more : j + 2 ≡ suc (suc j) - 0 = omega arith in
      subst (λ n. IsUtf8 (take n xs)) more (closed j lt e (subst (λ n. IsUtf8 (take n xs)) same front))

  pub whole : (k : ℕ) → k ≤ length xs → IsUtf8 (take (k - cond (begun k xs) 1 0) xs)
  whole zero le = IsUtf8-nil
  whole (suc k) le = step k (begun k xs) (begins_pair (get_or xs k 0)) (omega arith) refl refl (whole k (omega arith))

-- If the marks show it.
pub marked-whole : (xs : List ℕ) (high firsts later : ℕ) → length xs ≡ 64 → high ≡ mask_l (map is_high xs) → firsts ≡ mask_l (map begins_pair xs) → later ≡ mask_l (map begins_none xs)
    → bit_or firsts later ≡ high → shl 1 firsts ≡ later → IsUtf8 (take (64 - cond (begins_pair (get_or xs 63 0)) 1 0) xs)
marked-whole xs high firsts later long hs fs ls all pairs = whole xs highs lates 64 (omega arith)
  where
    highs : (k : ℕ) → k < length xs → is_high (get_or xs k 0) ≡ (begins_pair (get_or xs k 0) || begins_none (get_or xs k 0))
    highs k lt =
        sym (marked is_high refl xs high k hs) ∙ ap (λ n. is_set n k) (sym all) ∙ set-or firsts later k
        ∙ ap₂ (λ x y. x || y) (marked begins_pair refl xs firsts k fs) (marked begins_none refl xs later k ls)

    moved : (k : ℕ) → k < 64 → is_set (shl 1 firsts) k ≡ begun k xs
    moved zero lt = set-shl_low 1 0 firsts (omega arith) lt
    moved (suc j) lt =
        let e : suc j ≡ 1 + j = omega arith in
        ap (is_set (shl 1 firsts)) e ∙ set-shl_high 1 j firsts (omega arith) ∙ marked begins_pair refl xs firsts j fs

    lates : (k : ℕ) → k < length xs → begins_none (get_or xs k 0) ≡ begun k xs
    lates k lt = sym (marked begins_none refl xs later k ls) ∙ ap (λ n. is_set n k) (sym pairs) ∙ moved k (omega arith)

-- If the marks show that all is ASCII.
pub none-high : (xs : List ℕ) (high : ℕ) → length xs ≡ 64 → high ≡ mask_l (map is_high xs) → high ≡ 0 → IsUtf8 (take 64 xs)
none-high xs high long hs none = IsUtf8-from_ascii (take 64 xs) each
  where
    each : IsAscii (take 64 xs)
    each i = elim (dec_lt i 64) [
      | yes lt ↦
          let low : is_high (get_or xs i 0) ≡ false = sym (marked is_high refl xs high i hs) ∙ ap (λ n. is_set n i) none ∙ set-none i lt in
          rw (get_or-take 64 xs i 0 lt) (leb-false 128 (get_or xs i 0) low)
      | no past ↦ rw (get_or_past (take 64 xs) i 0 (omega (arith, length-take 64 xs))) (omega arith)
    ]
