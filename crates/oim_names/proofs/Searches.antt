-- A lookup by name in a list whose names are in strict byte order.
use Rattle.std.proofs.Common.{◌≡◌, ℕ, zero, suc, ◌+◌, ◌<◌, List, [], ◌∷◌, length, get_or, Some, None, Result, Ok, Err, false, true, refl, sym, ap, subst, ◌∙◌, inl, inr, arith, Ordering}
use Rattle.std.specs.Prelude.{MatchResult}
use Rattle.std.specs.Map.{keys_of}
use Rattle.std.specs.Str.{bytes_eq}
use Rattle.std.specs.Ordering.{nat_cmp, is_eq, is_lt, ordering_index, ordering_reverse}
use Rattle.std.specs.declared.cmp.Ordering.TheVariants.{Less, Greater}
use Rattle.std.specs.Cmp.Lexicographic.{slice_cmp}
use Rattle.std.specs.List.Sorted.{IsStrictlySortedBy, IsNonDecreasingBy, IsSearchInRange, IsPartitionPoint, IsBinarySearchResult}
use Rattle.std.proofs.lemmas.Cmp.{nat_list_cmp_total}
use Rattle.std.proofs.lemmas.List.{get_or-map, length-map}
use Rattle.std.proofs.lemmas.List.Sorted.{searchable_from_sorted}
use Rattle.std.proofs.lemmas.Map.Keys.{Less-from_sorted, sorted_tail}
use Rattle.std.proofs.lemmas.Map.Lookups.{exact_bytes}
use Rattle.std.proofs.lemmas.Map.Text.{is_eq-slice_cmp}
use Rattle.std.proofs.lemmas.Slice.Eq.{bytes_eq-Decides}
use Rattle.std.proofs.lemmas.Bool.{cases_lt}
use Rattle.oim_names.specs.Lookup.{value_at}

abbrev order : List ℕ → List ℕ → Ordering
order = slice_cmp nat_cmp

-- Names that are not equal in the order are different bytes.
differ : (k n : List ℕ) → is_eq (order k n) ≡ false → bytes_eq k n ≡ false
differ k n h = sym (is_eq-slice_cmp k n) ∙ h

module _ {V : Type 0} where
  -- A name at one place is below a name at a later place.
  below : (es : List (List ℕ × V)) (i j : ℕ) (d : List ℕ × V) → IsStrictlySortedBy order (keys_of es) → i < j → j < length es → order (get_or es i d).0 (get_or es j d).0 ≡ Less
  below es i j d rise lt within =
      let long : length (keys_of es) ≡ length es = length-map es (λ e. e.0) in
      let first : get_or (keys_of es) i d.0 ≡ (get_or es i d).0 = get_or-map (λ e. e.0) es i d d.0 (omega arith) in
      let second : get_or (keys_of es) j d.0 ≡ (get_or es j d).0 = get_or-map (λ e. e.0) es j d d.0 within in
      rw (← first, ← second) (Less-from_sorted order (keys_of es) i j d.0 rise lt (rw long within))

  -- The value of the name at a place.
  there : (es : List (List ℕ × V)) (n : List ℕ) (i : ℕ) (d : List ℕ × V) → IsStrictlySortedBy order (keys_of es) → i < length es → (get_or es i d).0 ≡ n → value_at n es ≡ Some (get_or es i d).1
  there [] n i d rise within same = absurd (omega (arith, within))
  there (e ∷ es) n zero d rise within same =
      let here : bytes_eq e.0 n ≡ true = (bytes_eq-Decides e.0 n).1 same in
      rw here refl
  there (e ∷ es) n (suc i) d rise within same =
      let apart : bytes_eq e.0 n ≡ false = differ e.0 n (ap is_eq (subst (λ k. order e.0 k ≡ Less) same (below (e ∷ es) 0 (suc i) d rise (omega arith) within))) in
      rw apart (there es n i d (sorted_tail order e.0 (keys_of es) rise) (omega (arith, within)) same)

  -- A name that is at no place has no value.
  nowhere : (es : List (List ℕ × V)) (n : List ℕ) → ((i : ℕ) (d : List ℕ × V) → i < length es → bytes_eq (get_or es i d).0 n ≡ false) → value_at n es ≡ None
  nowhere [] n none = refl
  nowhere (e ∷ es) n none = rw (none 0 e (omega arith)) (nowhere es n (λ i d within. none (suc i) d (omega (arith, within))))

  -- The comparisons with a name rise along the list, as a binary search requires.
  comparisons_rise : (es : List (List ℕ × V)) (n : List ℕ) → IsStrictlySortedBy order (keys_of es) → IsNonDecreasingBy (λ e. ordering_index (order e.0 n)) es
  comparisons_rise es n rise = searchable_from_sorted nat_list_cmp_total (λ e. e.0) es n
      (λ k d low within. ap is_lt (nat_list_cmp_total.antisymm (get_or es (k + 1) d).0 (get_or es k d).0 ∙ ap ordering_reverse (below es k (k + 1) d rise (omega arith) within)))

  -- A binary search returns the place of the name, or that it is at no place.
  pub searched : (es : List (List ℕ × V)) (n : List ℕ) (r : Result ℕ ℕ) → IsStrictlySortedBy order (keys_of es) → IsSearchInRange r (length es) → IsBinarySearchResult (λ e. order e.0 n) es r
      → MatchResult r (λ i. (d : List ℕ × V) → value_at n es ≡ Some (get_or es i d).1) (λ _. value_at n es ≡ None)
  searched es n (Ok i) rise within equal = λ d. there es n i d rise within (exact_bytes _ _ (equal d))
  searched es n (Err i) rise within parted = nowhere es n (λ k d inside. differ _ n (side k d inside))
    where
      sides : IsPartitionPoint (λ e. order e.0 n ≡ Less) (λ e. order e.0 n ≡ Greater) es i
      sides = parted (comparisons_rise es n rise)

      side : (k : ℕ) (d : List ℕ × V) → k < length es → is_eq (order (get_or es k d).0 n) ≡ false
      side k d inside = elim (cases_lt k i) [
        | inl lt ↦ ap is_eq (sides.0 k d (omega arith) lt)
        | inr le ↦ ap is_eq (sides.1 k d le inside)
      ]
