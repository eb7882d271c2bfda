-- Bytes moved back, sixteen at a time.
use Rattle.std.proofs.Common.{◌≡◌, ℕ, zero, suc, ◌+◌, ◌-◌, ◌≤◌, List, [], ◌∷◌, ◌++◌, cond, map, length, take, drop, refl, sym, ap, ◌∙◌, arith, append_assoc, take-add, take_at, drop_at, drop-drop, length-take-le, length-drop, length-append, replicate, take-take, ◌^◌}
use Rattle.std.specs.Prelude.{slice_range}
use Rattle.std.specs.List.{prefix_len, range_with_len}
use Rattle.std.proofs.lemmas.Bool.{le-leb, lt-leb}
use Rattle.std.proofs.lemmas.List.{drop-append-le, take-append-drop}
use Rattle.std.proofs.lemmas.Simd.{put_chunk_is, tops_compared, zip2_splat}
use lib.Dec.{ltb}
use lib.Lanes.{put_chunk, sel_l, top, zip2}
use mir.Syntax.{w8}
use mir.Val.{bits, hbits}
use native.Mathlib.Decide.{dec_lt}
use Rattle.oim_records.specs.state.Bytes.{is_unquoted}
use Rattle.oim_records.proofs.Ranges.{same-behind, same-part}

-- A vector is stored that begins with some bytes and ends with the bytes that were already there.
module _ (xs ys t : List ℕ) (place n : ℕ) (fits : place + length ys ≤ length xs) (long : length t ≡ n) (is : ys ++ drop (length ys) (drop place xs) ≡ t ++ drop n (drop place xs)) where
  whole : put_chunk place xs ys ≡ take place xs ++ (t ++ drop n (drop place xs))
  whole = put_chunk_is place xs ys fits ∙ ap (λ l. take place xs ++ l) is

  front : length (take place xs) ≡ place
  front = length-take-le place xs (omega arith)

  pub stored-front : take (place + n) (put_chunk place xs ys) ≡ take place xs ++ t
  stored-front =
      let rest = t ++ drop n (drop place xs) in
      ap (take (place + n)) whole ∙ take-add place n (take place xs ++ rest)
      ∙ (λ k. take_at (take place xs) rest place front k ++ take n (drop_at (take place xs) rest place front k))
      ∙ ap (λ l. take place xs ++ l) (take_at t (drop n (drop place xs)) n long)

  pub stored-behind : drop (place + n) (put_chunk place xs ys) ≡ drop (place + n) xs
  stored-behind =
      let rest = t ++ drop n (drop place xs) in
      sym (drop-drop n place (put_chunk place xs ys)) ∙ ap (λ l. drop n (drop place l)) whole
      ∙ ap (drop n) (drop_at (take place xs) rest place front) ∙ drop_at t (drop n (drop place xs)) n long ∙ drop-drop n place xs

-- What a merged vector leaves, with the bytes after it.
pub merged-rest : (a d : List ℕ) (n m : ℕ) → n ≤ length (take m d) → (take n a ++ drop n (take m d)) ++ drop m d ≡ take n a ++ drop n d
merged-rest a d n m few =
    append_assoc (take n a) (drop n (take m d)) (drop m d)
    ∙ ap (λ l. take n a ++ l) (sym (drop-append-le n (take m d) (drop m d) few) ∙ ap (drop n) (take-append-drop m d))

-- A vector that was loaded from further on is stored.
module _ (xs : List ℕ) (from place m : ℕ) (before : place ≤ from) (within : from + m ≤ length xs) where
  loaded : length (take m (drop from xs)) ≡ m
  loaded = length-take-le m (drop from xs) (omega (arith, length-drop from xs))

  tail : take m (drop from xs) ++ drop (length (take m (drop from xs))) (drop place xs) ≡ take m (drop from xs) ++ drop m (drop place xs)
  tail = ap (λ k. take m (drop from xs) ++ drop k (drop place xs)) loaded

  pub chunk-front : take (place + m) (put_chunk place xs (take m (drop from xs))) ≡ take place xs ++ slice_range xs from (from + m)
  chunk-front =
      let size : m ≡ from + m - from = omega arith in
      stored-front xs (take m (drop from xs)) (take m (drop from xs)) place m (omega (arith, loaded)) loaded tail ∙ ap (λ k. take place xs ++ take k (drop from xs)) size

  pub chunk-behind : drop (place + m) (put_chunk place xs (take m (drop from xs))) ≡ drop (place + m) xs
  chunk-behind = stored-behind xs (take m (drop from xs)) (take m (drop from xs)) place m (omega (arith, loaded)) loaded tail

-- A vector is stored whose first n lanes were loaded from further on, and the others from its own
-- position.
module _ (xs ys : List ℕ) (from place n m : ℕ) (before : place ≤ from) (few : n ≤ m) (within : from + m ≤ length xs) (is : ys ≡ take n (take m (drop from xs)) ++ drop n (take m (drop place xs))) where
  there : length (take m (drop place xs)) ≡ m
  there = length-take-le m (drop place xs) (omega (arith, length-drop place xs))

  short : take n (take m (drop from xs)) ≡ take n (drop from xs)
  short = take-take n m (drop from xs) few

  counted : length (take n (drop from xs)) ≡ n
  counted = length-take-le n (drop from xs) (omega (arith, length-drop from xs))

  lanes : length ys ≡ m
  lanes =
      let a = ap length is ∙ length-append (take n (take m (drop from xs))) (drop n (take m (drop place xs))) in
      let b = ap length short in
      omega (arith, a, b, counted, there, length-drop n (take m (drop place xs)))

  behind : ys ++ drop (length ys) (drop place xs) ≡ take n (drop from xs) ++ drop n (drop place xs)
  behind =
      ap (λ k. ys ++ drop k (drop place xs)) lanes ∙ ap (λ l. l ++ drop m (drop place xs)) is
      ∙ merged-rest (take m (drop from xs)) (drop place xs) n m (omega (arith, there)) ∙ ap (λ l. l ++ drop n (drop place xs)) short

  pub merged-front : take (place + n) (put_chunk place xs ys) ≡ take place xs ++ take n (drop from xs)
  merged-front = stored-front xs ys (take n (drop from xs)) place n (omega (arith, lanes)) counted behind

  pub merged-behind : drop (place + n) (put_chunk place xs ys) ≡ drop (place + n) xs
  merged-behind = stored-behind xs ys (take n (drop from xs)) place n (omega (arith, lanes)) counted behind

-- Lanes are selected by their indexes.
pub chosen : (count i n : ℕ) (xs ys : List ℕ) → length xs ≡ n → length ys ≡ n → sel_l (map (λ k. ltb k count) (range_with_len i n)) xs ys ≡ take (count - i) xs ++ drop (count - i) ys
chosen count i zero [] [] ex ey = none (count - i)
  where
    none : (k : ℕ) → [] ≡ take k [] ++ drop {A = ℕ} k []
    none zero = refl
    none (suc k) = refl
chosen count i zero (x ∷ xs) ys ex ey = cc ex
chosen count i zero [] (y ∷ ys) ex ey = cc ey
chosen count i (suc n) [] ys ex ey = cc ex
chosen count i (suc n) (x ∷ xs) [] ex ey = cc ey
chosen count i (suc n) (x ∷ xs) (y ∷ ys) ex ey =
    let more = chosen count (i + 1) n xs ys (omega arith) (omega arith) in
    elim (dec_lt i count) [
      | yes lt ↦
          let size : count - i ≡ suc (count - (i + 1)) = omega arith in
          rw (le-leb (suc i) count (omega arith), size) (ap (λ l. x ∷ l) more)
      | no past ↦
          let size : count - i ≡ 0 = omega arith in
          let less : count - (i + 1) ≡ 0 = omega arith in
          rw (lt-leb (suc i) count (omega arith), size) (ap (λ l. y ∷ l) (more ∙ ap (λ k. take k xs ++ drop k ys) less))
    ]

pub lanes-chosen : (count : ℕ) (xs ys : List ℕ) → length xs ≡ 16 → length ys ≡ 16
    → sel_l (map (top (hbits w8)) (zip2 (λ a b. cond (ltb a b) (2 ^ bits w8 - 1) 0) (range_with_len 0 16) (replicate 16 count))) xs ys ≡ take count xs ++ drop count ys
lanes-chosen count xs ys ex ey =
    ap (λ ms. sel_l ms xs ys) (tops_compared w8 ltb (range_with_len 0 16) (replicate 16 count) ∙ zip2_splat ltb (range_with_len 0 16) 16 count refl)
    ∙ chosen count 0 16 xs ys ex ey ∙ ap (λ k. take k xs ++ drop k ys) (let same : count - 0 ≡ count = omega arith in same)

-- One move after another.
pub moved-on : (old mid new : List ℕ) (place from at to : ℕ) → from ≤ at → at ≤ to → place ≤ from → to ≤ length old
    → take (place + (at - from)) mid ≡ take place old ++ slice_range old from at → drop (place + (at - from)) mid ≡ drop (place + (at - from)) old
    → take (place + (at - from) + (to - at)) new ≡ take (place + (at - from)) mid ++ slice_range mid at to
    → take (place + (to - from)) new ≡ take place old ++ slice_range old from to
moved-on old mid new place from at to low high before within first kept second =
    let sum : place + (at - from) + (to - at) ≡ place + (to - from) = omega arith in
    let size : (at - from) + (to - at) ≡ to - from = omega arith in
    let there : from + (at - from) ≡ at = omega arith in
    let part : slice_range mid at to ≡ slice_range old at to = same-part mid old (place + (at - from)) at to kept (omega arith) in
    let both : slice_range old from at ++ slice_range old at to ≡ slice_range old from to =
    ap (λ k. slice_range old from at ++ take (to - at) k) (ap (λ k. drop k old) (sym there) ∙ sym (drop-drop (at - from) from old))
    ∙ sym (take-add (at - from) (to - at) (drop from old)) ∙ ap (λ k. take k (drop from old)) size in
    ap (λ k. take k new) (sym sum) ∙ second ∙ (λ k. first k ++ part k) ∙ append_assoc (take place old) (slice_range old from at) (slice_range old at to) ∙ ap (λ l. take place old ++ l) both

pub behind-on : (old mid new : List ℕ) (place from at to : ℕ) → from ≤ at → at ≤ to
    → drop (place + (at - from)) mid ≡ drop (place + (at - from)) old → drop (place + (at - from) + (to - at)) new ≡ drop (place + (at - from) + (to - at)) mid
    → drop (place + (to - from)) new ≡ drop (place + (to - from)) old
behind-on old mid new place from at to low high first second =
    let sum : place + (at - from) + (to - at) ≡ place + (to - from) = omega arith in
    let later = same-behind mid old (place + (at - from)) (place + (at - from) + (to - at)) first (omega arith) in
    ap (λ k. drop k new) (sym sum) ∙ second ∙ later ∙ ap (λ k. drop k old) sum

-- The run up to the next quote continues after the bytes of it that were moved.
pub run-on : (old mid : List ℕ) (place from at : ℕ) → place ≤ from → from ≤ at → from + prefix_len is_unquoted (drop from old) ≡ at + prefix_len is_unquoted (drop at old)
    → drop (place + (at - from)) mid ≡ drop (place + (at - from)) old → from + prefix_len is_unquoted (drop from old) ≡ at + prefix_len is_unquoted (drop at mid)
run-on old mid place from at before low run behind =
    run ∙ ap (λ xs. at + prefix_len is_unquoted xs) (sym (same-behind mid old (place + (at - from)) at behind (omega arith)))
