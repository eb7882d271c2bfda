-- Bytes that are written at positions of the same buffer, one after another. After the `json`
-- crate.
use Rattle.std.proofs.Common.{◌≡◌, ℕ, ◌+◌, ◌≤◌, List, [], ◌++◌, length, take, drop, ap, sym, ◌∙◌, arith, append_assoc, append-nil, length-append, length-take, length-take-le, length-drop, take-add, take-take, take_at, drop_at}
use Rattle.std.proofs.lemmas.Slice.{take-put_mid}
use borrow.Rule.Slice.PartMut.{put_mid, same_len_mid}
use Rattle.oim_text.specs.Places.{Placed}
use Rattle.oim_text.specs.state.Rooms.{Stays}

-- Nothing was written.
pub Placed-none : (a : List ℕ) (i : ℕ) → Placed a a i [] i
Placed-none a i = record { bytes = sym (append-nil (take i a)); moved = omega arith; len = λ j. length a }

-- A second write begins where the first ended.
pub Placed-then : {a b c xs ys : List ℕ} {i j k : ℕ} → Placed a b i xs j → Placed b c j ys k → Placed a c i (xs ++ ys) k
Placed-then {a} {b} {c} {xs} {ys} {i} p q = record {
  bytes = q.bytes ∙ ap (λ l. l ++ ys) p.bytes ∙ append_assoc (take i a) xs ys;
  moved = omega (arith, p.moved, q.moved, length-append xs ys);
  len = q.len ∙ p.len;
}

-- Only the first n bytes of a write are kept.
pub Placed-less : {a b xs : List ℕ} {i j : ℕ} (n : ℕ) → i ≤ length a → n ≤ length xs → Placed a b i xs j → Placed a b i (take n xs) (i + n)
Placed-less {a} {b} {xs} {i} {j} n within few p =
    let front = length-take-le i a within in
    record {
      bytes = sym (take-take (i + n) j b (omega (arith, p.moved))) ∙ ap (take (i + n)) p.bytes ∙ take-add i n (take i a ++ xs)
          ∙ (λ k. take_at (take i a) xs i front k ++ take n (drop_at (take i a) xs i front k));
      moved = omega (arith, length-take-le n xs few);
      len = p.len;
    }

-- A part of the buffer was written, and its first n bytes count.
pub Placed-put_mid : (a ys : List ℕ) (i k n : ℕ) → i + k ≤ length a → length ys ≡ k → n ≤ k → Placed a (put_mid i k a ys) i (take n ys) (i + n)
Placed-put_mid a ys i k n fits long few =
    Placed-less n (omega arith) (omega arith) (record {
      bytes = take-put_mid i k a ys (i + k) (omega arith) (omega arith);
      moved = omega arith;
      len = same_len_mid i k a ys (omega (arith, length-take-le k (drop i a) (omega (arith, length-drop i a))));
    })

-- One part of a text after another.
pub Placed-more : {a b c : List ℕ} {i j k : ℕ} (xs : List ℕ) (n m : ℕ) → Placed a b i (take n xs) j → Placed b c j (take m (drop n xs)) k → Placed a c i (take (n + m) xs) k
Placed-more {a} {b} {c} {i} {j} {k} xs n m p q =
    let both = Placed-then p q in
    let same = sym (take-add n m xs) in
    record { bytes = both.bytes ∙ ap (λ l. take i a ++ l) same; moved = both.moved ∙ ap (λ l. i + length l) same; len = both.len }

-- Only a prefix of a text counts.
pub Placed-front : {a b : List ℕ} {i j : ℕ} (xs : List ℕ) (n m : ℕ) → i ≤ length a → n ≤ m → n ≤ length xs → Placed a b i (take m xs) j → Placed a b i (take n xs) (i + n)
Placed-front {a} {b} {i} xs n m within front few p =
    let less = Placed-less n within (omega (arith, length-take n xs, length-take m xs)) p in
    rw (take-take n m xs front) at less

-- The bytes before the position stay.
pub Placed-stays : {a b xs : List ℕ} {i j : ℕ} → i ≤ length a → Placed a b i xs j → Stays a b i
Placed-stays {a} {b} {xs} {i} {j} within p = record {
  front = sym (take-take i j b (omega (arith, p.moved))) ∙ ap (take i) p.bytes ∙ take_at (take i a) xs i (length-take-le i a within);
  len = p.len;
}

pub Stays-none : (a : List ℕ) (i : ℕ) → Stays a a i
Stays-none a i = record { front = λ j. take i a; len = λ j. length a }

-- What stays before a later position stays before an earlier one.
pub Stays-then : {a b c : List ℕ} {i j : ℕ} → i ≤ j → Stays a b i → Stays b c j → Stays a c i
Stays-then {a} {b} {c} {i} {j} le p q = record {
  front = sym (take-take i j c le) ∙ ap (take i) q.front ∙ take-take i j b le ∙ p.front;
  len = q.len ∙ p.len;
}
