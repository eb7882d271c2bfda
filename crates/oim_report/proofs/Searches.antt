-- The place of a name among things whose names are in strict byte order.
use Rattle.std.proofs.Common.{◌≡◌, ℕ, zero, suc, ◌+◌, ◌<◌, List, [], ◌∷◌, length, map, get_or, Bool, Some, None, Result, Ok, Err, false, true, cond, refl, sym, ap, subst, ◌∙◌, inl, inr, arith, Ordering, ltb}
use Rattle.std.specs.Prelude.{MatchResult}
use Rattle.std.specs.List.{position, position_or_len}
use Rattle.std.specs.Str.{bytes_eq}
use Rattle.std.specs.Ordering.{nat_cmp, is_eq, is_lt, ordering_index, ordering_reverse}
use Rattle.std.specs.declared.cmp.Ordering.TheVariants.{Less, Greater}
use Rattle.std.specs.Cmp.Lexicographic.{slice_cmp}
use Rattle.std.specs.List.Sorted.{IsNonDecreasingBy, IsSearchInRange, IsPartitionPoint, IsBinarySearchResult}
use Rattle.std.proofs.lemmas.Cmp.{nat_list_cmp_total}
use Rattle.std.proofs.lemmas.List.{get_or-map, length-map}
use Rattle.std.proofs.lemmas.List.Sorted.{searchable_from_sorted}
use Rattle.std.proofs.lemmas.Map.Keys.{Less-from_sorted, sorted_tail}
use Rattle.std.proofs.lemmas.Map.Lookups.{exact_bytes}
use Rattle.std.proofs.lemmas.Map.Text.{is_eq-slice_cmp}
use Rattle.std.proofs.lemmas.Slice.Eq.{bytes_eq-Decides}
use Rattle.std.proofs.lemmas.Bool.{cases_lt, ltb-true, ltb-false}
use Rattle.oim_report.specs.Rising.{IsRising}

abbrev order : List ℕ → List ℕ → Ordering
order = slice_cmp nat_cmp

-- Names that are not equal in the order are different bytes.
differ : (k n : List ℕ) → is_eq (order k n) ≡ false → bytes_eq k n ≡ false
differ k n h = sym (is_eq-slice_cmp k n) ∙ h

-- A name that is below another differs from it.
pub below-differs : (k l : List ℕ) → slice_cmp nat_cmp k l ≡ Less → bytes_eq k l ≡ false
below-differs k l h = sym (is_eq-slice_cmp k l) ∙ ap is_eq h

-- The first place, if it is known.
is_at : (n len i : ℕ) → n ≡ i → i < len → cond (ltb n len) (Some n) None ≡ Some i
is_at n len i same within = by (ltb i len) refl
  where
    by : (b : Bool) → ltb i len ≡ b → cond (ltb n len) (Some n) None ≡ Some i
    by true h = rw (same, h) refl
    by false h = absurd (omega (arith, ltb-false i len h))

is_nowhere : (n len : ℕ) → n ≡ len → cond (ltb n len) (Some n) None ≡ None
is_nowhere n len same = by (ltb len len) refl
  where
    by : (b : Bool) → ltb len len ≡ b → cond (ltb n len) (Some n) None ≡ None
    by true h = absurd (omega (arith, ltb-true len len h))
    by false h = rw (same, h) refl

module _ {X : Type 0} (name : X → List ℕ) where
  -- A name at one place is below a name at a later place.
  below : (xs : List X) (i j : ℕ) (d : X) → IsRising (map name xs) → i < j → j < length xs → order (name (get_or xs i d)) (name (get_or xs j d)) ≡ Less
  below xs i j d rise lt within =
      let long : length (map name xs) ≡ length xs = length-map xs name in
      let first : get_or (map name xs) i (name d) ≡ name (get_or xs i d) = get_or-map name xs i d (name d) (omega arith) in
      let second : get_or (map name xs) j (name d) ≡ name (get_or xs j d) = get_or-map name xs j d (name d) within in
      rw (← first, ← second) (Less-from_sorted order (map name xs) i j (name d) rise lt (rw long within))

  -- The place of a name that occurs is the first.
  there : (xs : List X) (n : List ℕ) (i : ℕ) (d : X) → IsRising (map name xs) → i < length xs → name (get_or xs i d) ≡ n → position_or_len (λ x. bytes_eq (name x) n) xs ≡ i
  there [] n i d rise within same = absurd (omega (arith, within))
  there (x ∷ xs) n zero d rise within same =
      let here : bytes_eq (name x) n ≡ true = (bytes_eq-Decides (name x) n).1 same in
      rw here refl
  there (x ∷ xs) n (suc i) d rise within same =
      let apart : bytes_eq (name x) n ≡ false = differ (name x) n (ap is_eq (subst (λ k. order (name x) k ≡ Less) same (below (x ∷ xs) 0 (suc i) d rise (omega arith) within))) in
      let more : position_or_len (λ y. bytes_eq (name y) n) xs ≡ i = there xs n i d (sorted_tail order (name x) (map name xs) rise) (omega (arith, within)) same in
      rw apart (omega (arith, more))

  -- A name that is at no place.
  nowhere : (xs : List X) (n : List ℕ) → ((i : ℕ) (d : X) → i < length xs → bytes_eq (name (get_or xs i d)) n ≡ false) → position_or_len (λ x. bytes_eq (name x) n) xs ≡ length xs
  nowhere [] n none = refl
  nowhere (x ∷ xs) n none =
      let more : position_or_len (λ y. bytes_eq (name y) n) xs ≡ length xs = nowhere xs n (λ i d within. none (suc i) d (omega (arith, within))) in
      rw (none 0 x (omega arith)) (omega (arith, more))

  -- The comparisons with a name rise along the list, as a binary search requires.
  comparisons_rise : (xs : List X) (n : List ℕ) → IsRising (map name xs) → IsNonDecreasingBy (λ x. ordering_index (order (name x) n)) xs
  comparisons_rise xs n rise = searchable_from_sorted nat_list_cmp_total name xs n
      (λ k d low within. ap is_lt (nat_list_cmp_total.antisymm (name (get_or xs (k + 1) d)) (name (get_or xs k d)) ∙ ap ordering_reverse (below xs k (k + 1) d rise (omega arith) within)))

  -- A binary search returns the first place of the name, or that it is at no place.
  pub searched : (xs : List X) (n : List ℕ) (r : Result ℕ ℕ) → IsRising (map name xs) → IsSearchInRange r (length xs) → IsBinarySearchResult (λ x. order (name x) n) xs r
      → MatchResult r (λ i. X → position_or_len (λ x. bytes_eq (name x) n) xs ≡ i) (λ _. position_or_len (λ x. bytes_eq (name x) n) xs ≡ length xs)
  searched xs n (Ok i) rise within equal = λ d. there xs n i d rise within (exact_bytes _ _ (equal d))
  searched xs n (Err i) rise within parted = nowhere xs n (λ k d inside. differ _ n (side k d inside))
    where
      sides : IsPartitionPoint (λ x. order (name x) n ≡ Less) (λ x. order (name x) n ≡ Greater) xs i
      sides = parted (comparisons_rise xs n rise)

      side : (k : ℕ) (d : X) → k < length xs → is_eq (order (name (get_or xs k d)) n) ≡ false
      side k d inside = elim (cases_lt k i) [
        | inl lt ↦ ap is_eq (sides.0 k d (omega arith) lt)
        | inr le ↦ ap is_eq (sides.1 k d le inside)
      ]

  -- The same as an optional place.
  pub place_found : (xs : List X) (n : List ℕ) (i : ℕ) (d : X) → IsRising (map name xs) → i < length xs → IsBinarySearchResult (λ x. order (name x) n) xs (Ok i)
      → Some i ≡ position (λ x. bytes_eq (name x) n) xs
  place_found xs n i d rise within equal = sym (is_at _ (length xs) i (searched xs n (Ok i) rise within equal d) within)

  pub place_missing : (xs : List X) (n : List ℕ) (i : ℕ) → IsRising (map name xs) → IsSearchInRange (Err i) (length xs) → IsBinarySearchResult (λ x. order (name x) n) xs (Err i)
      → None ≡ position (λ x. bytes_eq (name x) n) xs
  place_missing xs n i rise within parted = sym (is_nowhere _ (length xs) (searched xs n (Err i) rise within parted))
