-- A binding inserted at its place.
use Rattle.std.proofs.Common.{◌≡◌, ℕ, suc, ◌+◌, ◌≤◌, List, [], ◌∷◌, ◌++◌, refl, sym, ap, subst, ◌∙◌, Bool, true, false, ◌||◌, cond, arith, length, Option, Some, is_some, map, Ordering}
use Rattle.std.specs.declared.cmp.Ordering.TheVariants.{Less, Equal, Greater}
use Rattle.std.specs.List.{filter, prefix_len, insert, AllByRecursion, IsDistinct}
use Rattle.std.specs.List.Sorted.{IsStrictlySortedBy}
use Rattle.std.specs.Map.{keys_of, values_of}
use Rattle.std.specs.Cmp.Lexicographic.{slice_cmp}
use Rattle.std.specs.Ordering.{nat_cmp, is_lt, is_eq, ordering_reverse}
use Rattle.std.specs.Str.{bytes_eq}
use Rattle.std.proofs.lemmas.Cmp.{nat_list_cmp_total, nat_list_eq_equiv}
use Rattle.std.proofs.lemmas.Map.Text.{is_eq-slice_cmp}
use Rattle.std.proofs.lemmas.Slice.Eq.{bytes_eq-Decides}
use Rattle.oim_names.specs.Bindings.{Bindings, AreInOrder, HaveOwnUris, IsNamespaces, uri_of, has_uri, is_before, bound, Extends}
use Rattle.oim_names.specs.Names.{is_ncname}

abbrev order : List ℕ → List ℕ → Ordering
order = slice_cmp nat_cmp

-- The texts are after a text, in byte order.
abbrev AllAfter : List ℕ → List (List ℕ) → Type 0
AllAfter x ys = AllByRecursion (λ y. order x y ≡ Less) ys

turned : (x y : List ℕ) → order x y ≡ Less → order y x ≡ Greater
turned x y h = nat_list_cmp_total.antisymm y x ∙ ap ordering_reverse h

turned_back : (x y : List ℕ) → order x y ≡ Greater → order y x ≡ Less
turned_back x y h = nat_list_cmp_total.antisymm y x ∙ ap ordering_reverse h

-- A binding before the place, and one after it.
before_is : (x y : List ℕ) → order x y ≡ Less → (is_before x y ≡ true) × (is_before y x ≡ false)
before_is x y h = (ap is_lt h, ap is_lt (turned x y h))

farther : (x y : List ℕ) (zs : List (List ℕ)) → order x y ≡ Less → AllAfter y zs → AllAfter x zs
farther x y [] h a = tt
farther x y (z ∷ zs) h a = (nat_list_cmp_total.trans x y z h a.0, farther x y zs h a.1)

none_before : (p : List ℕ) (es : Bindings) → AllAfter p (keys_of es) → filter (λ e. is_before e.0 p) es ≡ []
none_before p [] a = refl
none_before p (e ∷ es) a = rw ((before_is p e.0 a.0).1) (none_before p es a.1)

all_behind : (p : List ℕ) (es : Bindings) → AllAfter p (keys_of es) → filter (λ e. is_before p e.0) es ≡ es
all_behind p [] a = refl
all_behind p (e ∷ es) a = rw ((before_is p e.0 a.0).0) (ap (λ r. e ∷ r) (all_behind p es a.1))

-- One step towards the place.
bound_later : (e : List ℕ × List ℕ) (es : Bindings) (p u : List ℕ) → order e.0 p ≡ Less → bound (e ∷ es) p u ≡ e ∷ bound es p u
unfolding bound
bound_later e es p u h = let i = before_is e.0 p h in rw (i.0, i.1) refl

bound_here : (e : List ℕ × List ℕ) (es : Bindings) (p u : List ℕ) → order p e.0 ≡ Less → AllAfter e.0 (keys_of es) → bound (e ∷ es) p u ≡ (p, u) ∷ e ∷ es
unfolding bound
bound_here e es p u h a =
    let i = before_is p e.0 h in
    let f = farther p e.0 (keys_of es) h a in
    rw (i.0, i.1, none_before p es f, all_behind p es f) refl

-- A prefix that is not bound differs from each one that is.
other_key : (e : List ℕ × List ℕ) (es : Bindings) (p : List ℕ) → is_some (uri_of (e ∷ es) p) ≡ false → (order e.0 p ≡ Equal → ⊥) × (is_some (uri_of es p) ≡ false)
other_key e es p h = by (bytes_eq e.0 p) refl h
  where
    by : (b : Bool) → bytes_eq e.0 p ≡ b → is_some (cond b (Some e.1) (uri_of es p)) ≡ false → (order e.0 p ≡ Equal → ⊥) × (is_some (uri_of es p) ≡ false)
    by true q k = absurd (cc)
    by false q k = (λ s. let w = sym (is_eq-slice_cmp e.0 p) ∙ ap is_eq s in absurd (cc), k)

-- The three orders of two texts.
by_order : (P : Type 0) (x y : List ℕ) → (order x y ≡ Less → P) → (order x y ≡ Equal → P) → (order y x ≡ Less → P) → P
by_order P x y l q g = at (order x y) refl
  where
    at : (o : Ordering) → order x y ≡ o → P
    at Less h = l h
    at Equal h = q h
    at Greater h = g (turned_back x y h)

-- A property of each prefix, or of each URI, and of the new one.
abbrev AllOf : {A : Type 0} → (A → List ℕ) → (List ℕ → Type 0) → List A → Type 0
AllOf f P es = AllByRecursion P (map f es)

all_kept : (f : List ℕ × List ℕ → List ℕ) (P : List ℕ → Type 0) (q : List ℕ × List ℕ → Bool) (es : Bindings) → AllByRecursion P (map f es) → AllByRecursion P (map f (filter q es))
all_kept f P q [] a = tt
all_kept f P q (e ∷ es) a = by (q e) (all_kept f P q es a.1)
  where
    by : (b : Bool) → AllByRecursion P (map f (filter q es)) → AllByRecursion P (map f (cond b (e ∷ filter q es) (filter q es)))
    by true r = (a.0, r)
    by false r = r

all_joined : (f : List ℕ × List ℕ → List ℕ) (P : List ℕ → Type 0) (xs ys : Bindings) → AllByRecursion P (map f xs) → AllByRecursion P (map f ys) → AllByRecursion P (map f (xs ++ ys))
all_joined f P [] ys a b = b
all_joined f P (x ∷ xs) ys a b = (a.0, all_joined f P xs ys a.1 b)

all_bound : (f : List ℕ × List ℕ → List ℕ) (P : List ℕ → Type 0) (es : Bindings) (p u : List ℕ) → AllByRecursion P (map f es) → P (f (p, u)) → AllByRecursion P (map f (bound es p u))
unfolding bound
all_bound f P es p u a h =
    all_joined f P (filter (λ e. is_before e.0 p) es) ((p, u) ∷ filter (λ e. is_before p e.0) es)
    (all_kept f P (λ e. is_before e.0 p) es a) (h, all_kept f P (λ e. is_before p e.0) es a)

-- The prefixes are still in order.
pub bound_in_order : (es : Bindings) (p u : List ℕ) → AreInOrder es → is_some (uri_of es p) ≡ false → AreInOrder (bound es p u)
unfolding bound IsStrictlySortedBy
bound_in_order [] p u s n = (tt, tt)
bound_in_order (e ∷ es) p u s n =
    let k = other_key e es p n in
    by_order (AreInOrder (bound (e ∷ es) p u)) e.0 p
    (λ h. subst AreInOrder (sym (bound_later e es p u h)) (all_bound (λ e. e.0) (λ y. order e.0 y ≡ Less) es p u s.0 h, bound_in_order es p u s.1 k.1))
    (λ h. absurd (k.0 h))
    (λ h. subst AreInOrder (sym (bound_here e es p u h s.0)) ((h, farther p e.0 (keys_of es) h s.0), s))

rest_lacks : (e : List ℕ × List ℕ) (es : Bindings) (u : List ℕ) → has_uri (e ∷ es) u ≡ false → has_uri es u ≡ false
rest_lacks e es u h = by (bytes_eq e.1 u) h
  where
    by : (b : Bool) → (b || has_uri es u) ≡ false → has_uri es u ≡ false
    by true k = absurd (cc)
    by false k = k

-- A URI that is not bound differs from each one that is.
other_uris : (es : Bindings) (u : List ℕ) → has_uri es u ≡ false → AllByRecursion (λ y. bytes_eq y u ≡ false) (values_of es)
other_uris [] u h = tt
other_uris (e ∷ es) u h = by (bytes_eq e.1 u) refl h (λ k. other_uris es u k)
  where
    by : (b : Bool) → bytes_eq e.1 u ≡ b → (b || has_uri es u) ≡ false → (has_uri es u ≡ false → AllByRecursion (λ y. bytes_eq y u ≡ false) (values_of es))
        → AllByRecursion (λ y. bytes_eq y u ≡ false) (values_of (e ∷ es))
    by true q k r = absurd (cc)
    by false q k r = (q, r k)

turned_round : (u : List ℕ) (ys : List (List ℕ)) → AllByRecursion (λ y. bytes_eq y u ≡ false) ys → AllByRecursion (λ y. bytes_eq u y ≡ false) ys
turned_round u [] a = tt
turned_round u (y ∷ ys) a = (nat_list_eq_equiv.symm u y ∙ a.0, turned_round u ys a.1)

-- The URIs still differ.
pub bound_own_uris : (es : Bindings) (p u : List ℕ) → AreInOrder es → HaveOwnUris es → is_some (uri_of es p) ≡ false → has_uri es u ≡ false → HaveOwnUris (bound es p u)
unfolding bound IsDistinct IsStrictlySortedBy
bound_own_uris [] p u s d n m = (tt, tt)
bound_own_uris (e ∷ es) p u s d n m =
    let k = other_key e es p n in
    let o = other_uris (e ∷ es) u m in
    by_order (HaveOwnUris (bound (e ∷ es) p u)) e.0 p
    (λ h. subst HaveOwnUris (sym (bound_later e es p u h)) (all_bound (λ e. e.1) (λ y. bytes_eq e.1 y ≡ false) es p u d.0 o.0, bound_own_uris es p u s.1 d.1 k.1 (rest_lacks e es u m)))
    (λ h. absurd (k.0 h))
    (λ h. subst HaveOwnUris (sym (bound_here e es p u h s.0)) (turned_round u (values_of (e ∷ es)) o, d))

-- The place at which the binding is inserted.
pub place_le : (es : Bindings) (q : List ℕ × List ℕ → Bool) → prefix_len q es ≤ length es
place_le [] q = omega arith
place_le (e ∷ es) q = by (q e) (place_le es q)
  where
    by : (b : Bool) → prefix_len q es ≤ length es → cond b (1 + prefix_len q es) 0 ≤ suc (length es)
    by true h = omega arith
    by false h = omega arith

pub placed : (es : Bindings) (p u : List ℕ) → AreInOrder es → is_some (uri_of es p) ≡ false → insert es (prefix_len (λ e. is_before e.0 p) es) (p, u) ≡ bound es p u
unfolding bound IsStrictlySortedBy
placed [] p u s n = refl
placed (e ∷ es) p u s n =
    let k = other_key e es p n in
    let q = λ (e : List ℕ × List ℕ). is_before e.0 p in
    by_order (insert (e ∷ es) (prefix_len q (e ∷ es)) (p, u) ≡ bound (e ∷ es) p u) e.0 p
    (λ h. let i : prefix_len q (e ∷ es) ≡ suc (prefix_len q es) = rw ((before_is e.0 p h).0) (omega arith) in
    ap (λ n. insert (e ∷ es) n (p, u)) i ∙ ap (λ r. e ∷ r) (placed es p u s.1 k.1) ∙ sym (bound_later e es p u h))
    (λ h. absurd (k.0 h))
    (λ h. let i : prefix_len q (e ∷ es) ≡ 0 = rw ((before_is p e.0 h).1) refl in
    ap (λ n. insert (e ∷ es) n (p, u)) i ∙ sym (bound_here e es p u h s.0))

-- The bindings after an insertion that succeeded or failed.
pub kept : (b : Bool) (es new : Bindings) (p u : List ℕ) → IsNamespaces es → is_ncname p ≡ true → is_some (uri_of es p) ≡ false → has_uri es u ≡ false
    → new ≡ cond b (bound es p u) es → IsNamespaces new
kept true es new p u are name n m e =
    rw e (bound_in_order es p u are.0 n, bound_own_uris es p u are.0 are.1 n m, all_bound (λ e. e.0) (λ prefix. is_ncname prefix ≡ true) es p u are.2 name)
kept false es new p u are name n m e = rw e are

-- The bindings as a map: the new prefix has the new URI, any other what it had.
one_of_two : (a b : Bool) (x y : Option (List ℕ)) (z : Option (List ℕ)) → (a ≡ true → b ≡ true → ⊥) → cond a x (cond b y z) ≡ cond b y (cond a x z)
one_of_two true true x y z n = absurd (n refl refl)
one_of_two true false x y z n = refl
one_of_two false b x y z n = refl

two_keys : (x y q : List ℕ) → order x y ≡ Less → bytes_eq x q ≡ true → bytes_eq y q ≡ true → ⊥
two_keys x y q h e f =
    let d : x ≡ y = (bytes_eq-Decides x q).0 e ∙ sym ((bytes_eq-Decides y q).0 f) in
    let s : bytes_eq x y ≡ true = (bytes_eq-Decides x y).1 d in
    let w = sym (is_eq-slice_cmp x y) ∙ ap is_eq h in
    absurd (cc)

pub bound_extends : (es : Bindings) (p u : List ℕ) → AreInOrder es → is_some (uri_of es p) ≡ false → Extends es p u (bound es p u)
unfolding bound IsStrictlySortedBy
bound_extends [] p u s n = λ q. refl
bound_extends (e ∷ es) p u s n =
    let k = other_key e es p n in
    by_order (Extends (e ∷ es) p u (bound (e ∷ es) p u)) e.0 p
    (λ h. subst (Extends (e ∷ es) p u) (sym (bound_later e es p u h))
    (λ q. ap (λ r. cond (bytes_eq e.0 q) (Some e.1) r) (bound_extends es p u s.1 k.1 q) ∙ one_of_two (bytes_eq e.0 q) (bytes_eq p q) (Some e.1) (Some u) (uri_of es q) (two_keys e.0 p q h)))
    (λ h. absurd (k.0 h))
    (λ h. subst (Extends (e ∷ es) p u) (sym (bound_here e es p u h s.0)) (λ q. refl))
