-- Names of levels merged: the order in which they are inserted does not matter.
use Rattle.std.proofs.Common.{◌≡◌, ◌<◌, ◌≤◌, ◌+◌, ◌-◌, ℕ, reverse, List, [], ◌∷◌, ◌++◌, take, drop, get_or, length, map, refl, sym, ap, subst, ◌∙◌, append_assoc, arith}
use Rattle.std.specs.Borrow.{Bor}
use Rattle.std.specs.List.{fold}
use Rattle.std.specs.Ordering.{match_ordering, ordering_reverse}
use Rattle.std.specs.Cmp.{alike_right}
use Rattle.std.specs.Cmp.Lexicographic.{nat_list_cmp_total}
use Rattle.std.specs.FinMap.{slice_cmp-IsAntisymmetric, nat_cmp-IsAntisymmetric}
use Rattle.std.specs.declared.cmp.Ordering.{Ordering}
use Rattle.std.specs.declared.cmp.Ordering.TheVariants.{Less, Equal, Greater}
use Rattle.std.proofs.lemmas.List.{append-nil, at_drop_all, at_drop_more, length-drop, reverse-append, map-append, take_all, take-append-drop}
use Rattle.oim_report.specs.declared.data.Level.{Level}
use Rattle.oim_resolve.specs.Order.{IsAscending}
use Rattle.oim_resolve.specs.ProgramCell.{held}
use Rattle.oim_resolve.specs.Written.{put_name, names}
use Rattle.oim_resolve.proofs.Ascending.{order, Precedes, turned, earlier}

put : (k n : List ℕ) (ks : List (List ℕ)) (o : Ordering) → order n k ≡ o → put_name (k ∷ ks) n ≡ match_ordering o (n ∷ k ∷ ks) (k ∷ ks) (k ∷ put_name ks n)
put k n ks o e = ap (λ q. match_ordering q (n ∷ k ∷ ks) (k ∷ ks) (k ∷ put_name ks n)) e

same_name : (m k : List ℕ) → order m k ≡ Equal → m ≡ k
same_name m k e = slice_cmp-IsAntisymmetric nat_cmp-IsAntisymmetric m k e

-- a precedes b.
module _ (a b : List ℕ) (less : order a b ≡ Less) where
  more : order b a ≡ Greater
  more = nat_list_cmp_total.antisymm b a ∙ ap ordering_reverse less

  after : (k : List ℕ) (ks : List (List ℕ)) → put_name (a ∷ k ∷ ks) b ≡ a ∷ put_name (k ∷ ks) b
  after k ks = put a b (k ∷ ks) Greater more

  swap_first : (k : List ℕ) (ks : List (List ℕ)) (o p : Ordering) → order b k ≡ o → order a k ≡ p → put_name (put_name ks a) b ≡ put_name (put_name ks b) a
      → put_name (put_name (k ∷ ks) a) b ≡ put_name (put_name (k ∷ ks) b) a
  swap_first k ks Less p eb ea h =
      let first = nat_list_cmp_total.trans a b k less eb in
      ap (λ xs. put_name xs b) (put k a ks Less first) ∙ after k ks ∙ ap (λ xs. a ∷ xs) (put k b ks Less eb)
      ∙ sym (ap (λ xs. put_name xs a) (put k b ks Less eb) ∙ put b a (k ∷ ks) Less less)
  swap_first k ks Equal p eb ea h =
      let first = sym (alike_right nat_list_cmp_total b k a eb) ∙ less in
      ap (λ xs. put_name xs b) (put k a ks Less first) ∙ after k ks ∙ ap (λ xs. a ∷ xs) (put k b ks Equal eb)
      ∙ sym (ap (λ xs. put_name xs a) (put k b ks Equal eb) ∙ put k a ks Less first)
  swap_first k ks Greater Less eb ea h =
      ap (λ xs. put_name xs b) (put k a ks Less ea) ∙ after k ks ∙ ap (λ xs. a ∷ xs) (put k b ks Greater eb)
      ∙ sym (ap (λ xs. put_name xs a) (put k b ks Greater eb) ∙ put k a (put_name ks b) Less ea)
  swap_first k ks Greater Equal eb ea h =
      ap (λ xs. put_name xs b) (put k a ks Equal ea) ∙ put k b ks Greater eb
      ∙ sym (ap (λ xs. put_name xs a) (put k b ks Greater eb) ∙ put k a (put_name ks b) Equal ea)
  swap_first k ks Greater Greater eb ea h =
      ap (λ xs. put_name xs b) (put k a ks Greater ea) ∙ put k b (put_name ks a) Greater eb ∙ ap (λ xs. k ∷ xs) h
      ∙ sym (ap (λ xs. put_name xs a) (put k b ks Greater eb) ∙ put k a (put_name ks b) Greater ea)

  swap_less : (ks : List (List ℕ)) → put_name (put_name ks a) b ≡ put_name (put_name ks b) a
  swap_less [] = put a b [] Greater more ∙ sym (put b a [] Less less)
  swap_less (k ∷ ks) = swap_first k ks (order b k) (order a k) refl refl (swap_less ks)

swap_by : (a b : List ℕ) (ks : List (List ℕ)) (o : Ordering) → order a b ≡ o → put_name (put_name ks a) b ≡ put_name (put_name ks b) a
swap_by a b ks Less e = swap_less a b e ks
swap_by a b ks Equal e = subst (λ x. put_name (put_name ks a) x ≡ put_name (put_name ks x) a) (same_name a b e) refl
swap_by a b ks Greater e = sym (swap_less b a (nat_list_cmp_total.antisymm b a ∙ ap ordering_reverse e) ks)

-- Two names may be inserted in either order.
swap : (a b : List ℕ) (ks : List (List ℕ)) → put_name (put_name ks a) b ≡ put_name (put_name ks b) a
swap a b ks = swap_by a b ks (order a b) refl

swap_one : (a : List ℕ) (bs ks : List (List ℕ)) → fold put_name (put_name ks a) bs ≡ put_name (fold put_name ks bs) a
swap_one a [] ks = refl
swap_one a (b ∷ bs) ks = ap (λ xs. fold put_name xs bs) (swap a b ks) ∙ swap_one a bs (put_name ks b)

itself : (a : List ℕ) (o : Ordering) → order a a ≡ o → o ≡ Equal
itself a Less e = absurd (cc (e, nat_list_cmp_total.antisymm a a))
itself a Equal e = refl
itself a Greater e = absurd (cc (e, nat_list_cmp_total.antisymm a a))

-- A name that is there already is not inserted again.
again_by : (a k : List ℕ) (ks : List (List ℕ)) (o : Ordering) → order a k ≡ o → put_name (put_name ks a) a ≡ put_name ks a
    → put_name (put_name (k ∷ ks) a) a ≡ put_name (k ∷ ks) a
again_by a k ks Less e h = ap (λ xs. put_name xs a) (put k a ks Less e) ∙ put a a (k ∷ ks) Equal (itself a (order a a) refl) ∙ sym (put k a ks Less e)
again_by a k ks Equal e h = ap (λ xs. put_name xs a) (put k a ks Equal e)
again_by a k ks Greater e h =
    ap (λ xs. put_name xs a) (put k a ks Greater e) ∙ put k a (put_name ks a) Greater e ∙ ap (λ xs. k ∷ xs) h ∙ sym (put k a ks Greater e)

again : (a : List ℕ) (ks : List (List ℕ)) → put_name (put_name ks a) a ≡ put_name ks a
again a [] = put a a [] Equal (itself a (order a a) refl)
again a (k ∷ ks) = again_by a k ks (order a k) refl (again a ks)

-- A name may be inserted before or after two lists become one.
over_by : (ks ls : List (List ℕ)) (l n : List ℕ) (o : Ordering) → order n l ≡ o
    → ((js : List (List ℕ)) → fold put_name js (put_name ls n) ≡ put_name (fold put_name js ls) n)
    → fold put_name ks (match_ordering o (n ∷ l ∷ ls) (l ∷ ls) (l ∷ put_name ls n)) ≡ put_name (fold put_name ks (l ∷ ls)) n
over_by ks ls l n Less e h = swap_one n (l ∷ ls) ks
over_by ks ls l n Equal e h =
    ap (λ xs. fold put_name xs ls) (sym (again l ks)) ∙ swap_one l (l ∷ ls) ks ∙ ap (λ x. put_name (fold put_name ks (l ∷ ls)) x) (sym (same_name n l e))
over_by ks ls l n Greater e h = h (put_name ks l)

over : (ls : List (List ℕ)) (n : List ℕ) (ks : List (List ℕ)) → fold put_name ks (put_name ls n) ≡ put_name (fold put_name ks ls) n
over [] n ks = refl
over (l ∷ ls) n ks = over_by ks ls l n (order n l) refl (over ls n)

over_all : (ks ls ns : List (List ℕ)) → fold put_name ks (fold put_name ls ns) ≡ fold put_name (fold put_name ks ls) ns
over_all ks ls [] = refl
over_all ks ls (n ∷ ns) = over_all ks (put_name ls n) ns ∙ ap (λ xs. fold put_name xs ns) (over ls n ks)

names-append : (ls ms : List Level) → names (ls ++ ms) ≡ fold put_name (names ms) (names ls)
names-append [] ms = refl
names-append (l ∷ ls) ms = ap (λ xs. fold put_name xs (map (λ e. e.0) l.dimensions)) (names-append ls ms) ∙ sym (over_all (names ms) (names ls) (map (λ e. e.0) l.dimensions))

-- The names of two parts of a list of levels.
pub names_split : (xs ys zs : List Level) → zs ≡ xs ++ ys → fold put_name (names (reverse xs)) (names (reverse ys)) ≡ names (reverse zs)
names_split xs ys zs e = sym (ap (λ ls. names (reverse ls)) e ∙ ap names (reverse-append xs ys) ∙ names-append (reverse ys) (reverse xs))

-- TWO LISTS MERGED

-- A name before all that are inserted stays first.
stays : (a : List ℕ) (ks ns : List (List ℕ)) → Precedes a ns → fold put_name (a ∷ ks) ns ≡ a ∷ fold put_name ks ns
stays a ks [] h = refl
stays a ks (n ∷ ns) h =
    ap (λ xs. fold put_name xs ns) (put a n ks Greater (nat_list_cmp_total.antisymm n a ∙ ap ordering_reverse h.0)) ∙ stays a (put_name ks n) ns h.1

first_less : (a b : List ℕ) (ks ns : List (List ℕ)) → order a b ≡ Less → IsAscending (b ∷ ns) → fold put_name (a ∷ ks) (b ∷ ns) ≡ a ∷ fold put_name ks (b ∷ ns)
first_less a b ks ns e h = stays a ks (b ∷ ns) (e, earlier a b ns e h.0)

first_equal : (a b : List ℕ) (ks ns : List (List ℕ)) → order a b ≡ Equal → IsAscending (b ∷ ns) → fold put_name (a ∷ ks) (b ∷ ns) ≡ a ∷ fold put_name ks ns
first_equal a b ks ns e h =
    let same = same_name a b e in
    ap (λ xs. fold put_name xs ns) (put a b ks Equal (subst (λ x. order b x ≡ Equal) (sym same) (itself b (order b b) refl)))
    ∙ stays a ks ns (subst (λ x. Precedes x ns) (sym same) h.0)

first_more : (a b : List ℕ) (ks ns : List (List ℕ)) → order a b ≡ Greater → IsAscending (b ∷ ns) → fold put_name (a ∷ ks) (b ∷ ns) ≡ b ∷ fold put_name (a ∷ ks) ns
first_more a b ks ns e h = ap (λ xs. fold put_name xs ns) (put a b ks Less (turned b a e)) ∙ stays b (a ∷ ks) ns h.0

alone : (ns : List (List ℕ)) → IsAscending ns → fold put_name [] ns ≡ ns
alone [] h = refl
alone (n ∷ ns) h = stays n [] ns h.0 ∙ ap (λ xs. n ∷ xs) (alone ns h.1)

-- What is merged so far, and what is left of both lists.
abbrev pub IsMerged : List (List ℕ) → List (List ℕ) → List (List ℕ) → List (List ℕ) → Type 0
IsMerged ks ns out all = out ++ fold put_name ks ns ≡ all

moved : (out all rest : List (List ℕ)) (x : List ℕ) (more : List (List ℕ)) → rest ≡ x ∷ more → out ++ rest ≡ all → (out ++ x ∷ []) ++ more ≡ all
moved out all rest x more e h = append_assoc out (x ∷ []) more ∙ ap (λ xs. out ++ xs) (sym e) ∙ h

module _ (out first second : List (Bor (List ℕ))) (all : List (List ℕ)) (i j : ℕ) (rise : IsAscending (held (drop j second)))
    (so_far : IsMerged (held (drop i first)) (held (drop j second)) (held out) all) where
  module _ (d e : Bor (List ℕ)) (here : i < length first) (there : j < length second) where
    abbrev x : Bor (List ℕ)
    x = get_or first i d

    abbrev y : Bor (List ℕ)
    y = get_or second j e

    firsts : held (drop i first) ≡ x.now ∷ held (drop (i + 1) first)
    firsts = at_drop_more held first i d here

    seconds : held (drop j second) ≡ y.now ∷ held (drop (j + 1) second)
    seconds = at_drop_more held second j e there

    rises : IsAscending (y.now ∷ held (drop (j + 1) second))
    rises = subst IsAscending seconds rise

    pub later_rise : IsAscending (held (drop (j + 1) second))
    later_rise = rises.1

    both : fold put_name (held (drop i first)) (held (drop j second)) ≡ fold put_name (x.now ∷ held (drop (i + 1) first)) (y.now ∷ held (drop (j + 1) second))
    both = ap (λ xs. fold put_name xs (held (drop j second))) firsts ∙ ap (fold put_name (x.now ∷ held (drop (i + 1) first))) seconds

    longer : (new : List (Bor (List ℕ))) (z : Bor (List ℕ)) (rest : List (List ℕ)) → new ≡ out ++ z ∷ []
        → fold put_name (held (drop i first)) (held (drop j second)) ≡ z.now ∷ rest → held new ++ rest ≡ all
    longer new z rest is e =
        ap (λ xs. held xs ++ rest) is ∙ ap (λ xs. xs ++ rest) (map-append (λ x. x.now) out (z ∷ [])) ∙ moved (held out) all _ z.now rest e so_far

    pub took_first : (new : List (Bor (List ℕ))) → new ≡ out ++ x ∷ [] → Less ≡ order x.now y.now → IsMerged (held (drop (i + 1) first)) (held (drop j second)) (held new) all
    took_first new is less =
        subst (λ xs. IsMerged (held (drop (i + 1) first)) xs (held new) all) (sym seconds)
        (longer new x _ is (both ∙ first_less x.now y.now (held (drop (i + 1) first)) (held (drop (j + 1) second)) (sym less) rises))

    pub took_both : (new : List (Bor (List ℕ))) → new ≡ out ++ x ∷ [] → Equal ≡ order x.now y.now → IsMerged (held (drop (i + 1) first)) (held (drop (j + 1) second)) (held new) all
    took_both new is equal = longer new x _ is (both ∙ first_equal x.now y.now (held (drop (i + 1) first)) (held (drop (j + 1) second)) (sym equal) rises)

    pub took_second : (new : List (Bor (List ℕ))) → new ≡ out ++ y ∷ [] → Greater ≡ order x.now y.now → IsMerged (held (drop i first)) (held (drop (j + 1) second)) (held new) all
    took_second new is greater =
        subst (λ xs. IsMerged xs (held (drop (j + 1) second)) (held new) all) (sym firsts)
        (longer new y _ is (both ∙ first_more x.now y.now (held (drop (i + 1) first)) (held (drop (j + 1) second)) (sym greater) rises))

  -- One of the two lists is at its end, and the rests are appended.
  module _ (new whole : List (Bor (List ℕ))) (new_is : new ≡ out ++ drop i first) (whole_is : whole ≡ new ++ drop j second) where
    parts : held whole ≡ held out ++ (held (drop i first) ++ held (drop j second))
    parts =
        ap held whole_is ∙ map-append (λ x. x.now) new (drop j second)
        ∙ ap (λ xs. held xs ++ held (drop j second)) new_is ∙ ap (λ xs. xs ++ held (drop j second)) (map-append (λ x. x.now) out (drop i first))
        ∙ append_assoc (held out) (held (drop i first)) (held (drop j second))

    pub first_ended : length first ≤ i → held whole ≡ all
    first_ended h =
        let none : held (drop i first) ≡ [] = at_drop_all held first i h in
        parts ∙ ap (λ xs. held out ++ (xs ++ held (drop j second))) none
        ∙ ap (λ xs. held out ++ xs) (sym (alone (held (drop j second)) rise) ∙ ap (λ xs. fold put_name xs (held (drop j second))) (sym none)) ∙ so_far

    pub second_ended : length second ≤ j → held whole ≡ all
    second_ended h =
        let none : held (drop j second) ≡ [] = at_drop_all held second j h in
        parts ∙ ap (λ xs. held out ++ (held (drop i first) ++ xs)) none
        ∙ ap (λ xs. held out ++ xs) (append-nil (held (drop i first)) ∙ ap (fold put_name (held (drop i first))) (sym none)) ∙ so_far

pub rest_is : {X : Type 0} (xs : List X) (i : ℕ) → take (length xs - i) (drop i xs) ≡ drop i xs
rest_is xs i = take_all (length xs - i) (drop i xs) (omega (arith, length-drop i xs))

-- The names of the parts of a list of levels, merged.
pub names_parted : (ls front back : List (Bor Level)) (m : ℕ) (v w : List (Bor (List ℕ))) → front ≡ take m ls → back ≡ drop m ls
    → held v ≡ names (reverse (held front)) → held w ≡ names (reverse (held back)) → fold put_name (held v) (held w) ≡ names (reverse (held ls))
names_parted ls front back m v w front_is back_is v_is w_is =
    let whole : held ls ≡ held front ++ held back =
    ap held (sym (take-append-drop m ls)) ∙ map-append (λ x. x.now) (take m ls) (drop m ls)
    ∙ ap (λ xs. held xs ++ held (drop m ls)) (sym front_is) ∙ ap (λ xs. held front ++ held xs) (sym back_is) in
    ap (λ xs. fold put_name xs (held w)) v_is ∙ ap (fold put_name (names (reverse (held front)))) w_is ∙ names_split (held front) (held back) (held ls) whole
