-- Names inserted in byte order.
use Rattle.std.proofs.Common.{◌≡◌, ◌<◌, ◌≤◌, ℕ, zero, suc, ◌+◌, Result, Ok, Err, true, refl, subst, inl, inr, List, [], ◌∷◌, ◌++◌, length, take, drop, get_or, sym, ap, ◌∙◌, append_assoc, arith}
use Rattle.std.specs.Ordering.{match_ordering, nat_cmp}
use Rattle.std.specs.Cmp.Lexicographic.{slice_cmp}
use Rattle.std.specs.declared.cmp.Ordering.{Ordering}
use Rattle.std.specs.declared.cmp.Ordering.TheVariants.{Less, Equal, Greater}
use Rattle.std.proofs.lemmas.List.{take_more, take_all, at_drop_more, at_drop_all, take-append-drop, map-append, take-map, drop-map, get_or-map, length-map}
use Rattle.std.specs.Borrow.{Bor}
use Rattle.std.specs.Prelude.{MatchResult}
use Rattle.std.specs.Ordering.{ordering_reverse, ordering_index, is_lt}
use Rattle.std.specs.List.Sorted.{IsStrictlySortedBy, IsNonDecreasingBy, IsPartitionPoint, IsSearchInRange, IsBinarySearchResult}
use Rattle.std.proofs.lemmas.Bool.{cases_lt}
use Rattle.std.proofs.lemmas.Cmp.{nat_list_cmp_total}
use Rattle.std.proofs.lemmas.List.{get_or_default, drop_all}
use Rattle.std.proofs.lemmas.List.Sorted.{searchable_from_sorted}
use Rattle.std.proofs.lemmas.Map.Keys.{Less-from_sorted}
use Rattle.std.proofs.lemmas.Map.Lookups.{exact_bytes}
use Rattle.oim_resolve.specs.Order.{IsAscending}
use Rattle.std.specs.List.{insert}
use Rattle.oim_resolve.specs.ProgramCell.{held}
use Rattle.oim_resolve.specs.Written.{put_name}

-- The names below index i are less than n.
abbrev pub PutsFrom : List (List ℕ) → ℕ → List ℕ → Type 0
PutsFrom ks i n = put_name ks n ≡ take i ks ++ put_name (drop i ks) n

put_name-at : (ks : List (List ℕ)) (i : ℕ) (n d : List ℕ) (o : Ordering) → i < length ks → slice_cmp nat_cmp n (get_or ks i d) ≡ o
    → put_name (drop i ks) n ≡ match_ordering o (n ∷ get_or ks i d ∷ drop (i + 1) ks) (get_or ks i d ∷ drop (i + 1) ks) (get_or ks i d ∷ put_name (drop (i + 1) ks) n)
put_name-at ks i n d o h e =
    at_drop_more (λ xs. put_name xs n) ks i d h
    ∙ ap (λ q. match_ordering q (n ∷ get_or ks i d ∷ drop (i + 1) ks) (get_or ks i d ∷ drop (i + 1) ks) (get_or ks i d ∷ put_name (drop (i + 1) ks) n)) e

pub put_name_more : (ks : List (List ℕ)) (i : ℕ) (n d : List ℕ) → i < length ks → slice_cmp nat_cmp n (get_or ks i d) ≡ Greater → PutsFrom ks i n → PutsFrom ks (i + 1) n
put_name_more ks i n d h e p =
    p ∙ ap (λ q. take i ks ++ q) (put_name-at ks i n d Greater h e)
    ∙ sym (append_assoc (take i ks) (get_or ks i d ∷ []) (put_name (drop (i + 1) ks) n))
    ∙ ap (λ q. q ++ put_name (drop (i + 1) ks) n) (sym (take_more ks i d h))

pub put_name_less : (ks : List (List ℕ)) (i : ℕ) (n d : List ℕ) → i < length ks → slice_cmp nat_cmp n (get_or ks i d) ≡ Less → PutsFrom ks i n → put_name ks n ≡ take i ks ++ n ∷ drop i ks
put_name_less ks i n d h e p =
    p ∙ ap (λ q. take i ks ++ q) (put_name-at ks i n d Less h e ∙ ap (λ q. n ∷ q) (sym (at_drop_more (λ xs. xs) ks i d h)))

pub put_name_equal : (ks : List (List ℕ)) (i : ℕ) (n d : List ℕ) → i < length ks → slice_cmp nat_cmp n (get_or ks i d) ≡ Equal → PutsFrom ks i n → put_name ks n ≡ ks
put_name_equal ks i n d h e p =
    p ∙ ap (λ q. take i ks ++ q) (put_name-at ks i n d Equal h e ∙ sym (at_drop_more (λ xs. xs) ks i d h)) ∙ take-append-drop i ks

pub put_name_last : (ks : List (List ℕ)) (i : ℕ) (n : List ℕ) → i ≡ length ks → PutsFrom ks i n → put_name ks n ≡ ks ++ n ∷ []
put_name_last ks i n h p = p ∙ ap (λ q. take i ks ++ q) (at_drop_all (λ xs. put_name xs n) ks i (omega arith)) ∙ ap (λ q. q ++ n ∷ []) (take_all i ks (omega arith))

-- The same for a list of references.
module _ (ks : List (Bor (List ℕ))) (i : ℕ) (n k : Bor (List ℕ)) (h : i < length ks) (is : k ≡ get_or ks i k) (p : PutsFrom (held ks) i n.now) where
  name-at : get_or (held ks) i k.now ≡ k.now
  name-at = get_or-map (λ x. x.now) ks i k k.now h ∙ ap (λ x. x.now) (sym is)

  in_range : i < length (held ks)
  in_range = rw (length-map ks (λ x. x.now)) h

  pub held_less : slice_cmp nat_cmp n.now k.now ≡ Less → held (insert ks i n) ≡ put_name (held ks) n.now
  held_less e =
      map-append (λ x. x.now) (take i ks) (n ∷ drop i ks)
      ∙ ap (λ xs. xs ++ n.now ∷ held (drop i ks)) (sym (take-map (λ x. x.now) i ks))
      ∙ ap (λ xs. take i (held ks) ++ n.now ∷ xs) (sym (drop-map (λ x. x.now) i ks))
      ∙ sym (put_name_less (held ks) i n.now k.now in_range (ap (slice_cmp nat_cmp n.now) name-at ∙ e) p)

  pub held_equal : slice_cmp nat_cmp n.now k.now ≡ Equal → held ks ≡ put_name (held ks) n.now
  held_equal e = sym (put_name_equal (held ks) i n.now k.now in_range (ap (slice_cmp nat_cmp n.now) name-at ∙ e) p)

  pub held_more : slice_cmp nat_cmp n.now k.now ≡ Greater → PutsFrom (held ks) (i + 1) n.now
  held_more e = put_name_more (held ks) i n.now k.now in_range (ap (slice_cmp nat_cmp n.now) name-at ∙ e) p

pub held_last : (ks : List (Bor (List ℕ))) (i : ℕ) (n : Bor (List ℕ)) → i ≡ length ks → PutsFrom (held ks) i n.now → held (ks ++ n ∷ []) ≡ put_name (held ks) n.now
held_last ks i n h p = map-append (λ x. x.now) ks (n ∷ []) ∙ sym (put_name_last (held ks) i n.now (rw (length-map ks (λ x. x.now)) h) p)

abbrev order : List ℕ → List ℕ → Ordering
order = slice_cmp nat_cmp

pub strictly : (ks : List (List ℕ)) → IsAscending ks → IsStrictlySortedBy order ks
unfolding IsStrictlySortedBy
strictly [] rise = tt
strictly (k ∷ ks) rise = (rise.0, strictly ks rise.1)

inserted_last : {X : Type 0} (xs : List X) (x : X) (i : ℕ) → i ≡ length xs → insert xs i x ≡ xs ++ x ∷ []
inserted_last xs x i e = ap (λ ys. ys ++ x ∷ drop i xs) (take_all i xs (omega arith)) ∙ ap (λ ys. xs ++ x ∷ ys) (drop_all i xs (omega arith))

less_of : (o : Ordering) → is_lt o ≡ true → o ≡ Less
less_of Less e = refl
less_of Equal e = absurd (cc)
less_of Greater e = absurd (cc)

-- Rising names, searched for a name.
module _ (ks : List (Bor (List ℕ))) (n : Bor (List ℕ)) (rise : IsAscending (held ks)) where
  -- A name at an index is below a name at a later index.
  below : (i j : ℕ) (d : Bor (List ℕ)) → i < j → j < length ks → order (get_or ks i d).now (get_or ks j d).now ≡ Less
  below i j d lt within =
      let long : length (held ks) ≡ length ks = length-map ks (λ x. x.now) in
      let first : get_or (held ks) i d.now ≡ (get_or ks i d).now = get_or-map (λ x. x.now) ks i d d.now (omega arith) in
      let second : get_or (held ks) j d.now ≡ (get_or ks j d).now = get_or-map (λ x. x.now) ks j d d.now within in
      rw (← first, ← second) (Less-from_sorted order (held ks) i j d.now (strictly (held ks) rise) lt (rw long within))

  -- n goes after the names below index i, if they are less.
  behind : (i : ℕ) → i ≤ length ks → ((j : ℕ) (d : Bor (List ℕ)) → j < i → order (get_or ks j d).now n.now ≡ Less) → PutsFrom (held ks) i n.now
  behind zero within less = refl
  behind (suc i) within less =
      let here : i < length ks = omega arith in
      let k = get_or ks i n in
      let more = nat_list_cmp_total.antisymm n.now k.now ∙ ap ordering_reverse (less i n (omega arith)) in
      let next = held_more ks i n k here (get_or_default ks i n k here) (behind i (omega arith) (λ j d lt. less j d (omega arith))) more in
      let same : i + 1 ≡ suc i = omega arith in
      subst (λ q. PutsFrom (held ks) q n.now) same next

  -- A name above the last of them goes after all.
  pub above_last : (i : ℕ) (e : Bor (List ℕ)) → length ks ≡ suc i → is_lt (order (get_or ks i e).now n.now) ≡ true → held (ks ++ n ∷ []) ≡ put_name (held ks) n.now
  above_last i e long lt = held_last ks (length ks) n refl (behind (length ks) (omega arith) all)
    where
      less : (d : Bor (List ℕ)) → order (get_or ks i d).now n.now ≡ Less
      less d = ap (λ (k : Bor (List ℕ)). order k.now n.now) (get_or_default ks i d e (omega arith)) ∙ less_of (order (get_or ks i e).now n.now) lt

      all : (j : ℕ) (d : Bor (List ℕ)) → j < length ks → order (get_or ks j d).now n.now ≡ Less
      all j d lt = elim (cases_lt j i) [
        | inl before ↦ nat_list_cmp_total.trans (get_or ks j d).now (get_or ks i d).now n.now (below j i d before (omega arith)) (less d)
        | inr past ↦ let same : i ≡ j = omega arith in subst (λ q. order (get_or ks q d).now n.now ≡ Less) same (less d)
      ]

  -- The names rise in the comparisons of a binary search with n.
  comparisons_rise : IsNonDecreasingBy (λ k. ordering_index (order k.now n.now)) ks
  comparisons_rise = searchable_from_sorted nat_list_cmp_total (λ k. k.now) ks n.now
      (λ k d low within. ap is_lt (nat_list_cmp_total.antisymm (get_or ks (k + 1) d).now (get_or ks k d).now ∙ ap ordering_reverse (below k (k + 1) d (omega arith) within)))

  -- A binary search returns the index of n, or the index at which n is to be inserted.
  pub searched : (r : Result ℕ ℕ) → IsSearchInRange r (length ks) → IsBinarySearchResult (λ k. order k.now n.now) ks r
      → MatchResult r (λ _. held ks ≡ put_name (held ks) n.now) (λ i. held (insert ks i n) ≡ put_name (held ks) n.now)
  searched (Ok i) within equal =
      let k = get_or ks i n in
      let same : k.now ≡ n.now = exact_bytes k.now n.now (equal n) in
      let less : (j : ℕ) (d : Bor (List ℕ)) → j < i → order (get_or ks j d).now n.now ≡ Less
      = λ j d lt. subst (λ (x : List ℕ). order (get_or ks j d).now x ≡ Less) (exact_bytes (get_or ks i d).now n.now (equal d)) (below j i d lt within) in
      held_equal ks i n k within (get_or_default ks i n k within) (behind i (omega arith) less) (nat_list_cmp_total.antisymm n.now k.now ∙ ap ordering_reverse (equal n))
  searched (Err i) within parted = elim (cases_lt i (length ks)) [
    | inl here ↦
        let k = get_or ks i n in
        held_less ks i n k here (get_or_default ks i n k here) (behind i (omega arith) (λ j d lt. sides.0 j d (omega arith) lt))
        (nat_list_cmp_total.antisymm n.now k.now ∙ ap ordering_reverse (sides.1 i n (omega arith) here))
    | inr past ↦
        let at_end : i ≡ length ks = omega arith in
        let last : held (ks ++ n ∷ []) ≡ put_name (held ks) n.now = held_last ks i n at_end (behind i (omega arith) (λ j d lt. sides.0 j d (omega arith) lt)) in
        subst (λ (xs : List (Bor (List ℕ))). held xs ≡ put_name (held ks) n.now) (sym (inserted_last ks n i at_end)) last
  ]
    where
      sides : IsPartitionPoint (λ (k : Bor (List ℕ)). order k.now n.now ≡ Less) (λ k. order k.now n.now ≡ Greater) ks i
      sides = parted comparisons_rise
