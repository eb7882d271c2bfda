-- A text's parts are a set of members exactly if each is, in turn, empty or a new member.
use Rattle.std.proofs.Common.{◌≡◌, ◌&&◌, ◌||◌, ℕ, Bool, true, false, not, List, [], ◌∷◌, Option, Some, None, refl, sym, ap, ◌∙◌, cond, length, bytes_eq, Ordering, Less, Equal, Greater}
use Rattle.std.specs.Borrow.{Bor}
use Rattle.std.specs.BTreeMap.{is_at}
use Rattle.std.specs.BTreeSet.{BTreeSet, Updates, contains}
use Rattle.std.specs.Cmp.Lexicographic.{slice_cmp}
use Rattle.std.specs.List.{list_any}
use Rattle.std.specs.Option.{option_map_or}
use Rattle.std.specs.Ordering.{is_eq, nat_cmp, ordering_then}
use Rattle.std.proofs.lemmas.Map.Text.{is_eq-slice_cmp}
use Rattle.oim_names.specs.Bindings.{Bindings}
use Rattle.oim_names.specs.QName.{Name, qname_of}
use Rattle.oim_schema.specs.Members.{are_members, is_same_name, names_one}
use Rattle.oim_schema.specs.state.HeldMembers.{holds, holds_after, is_unheld}
use Rattle.oim_schema.proofs.MemberLaws.{no_name}

-- No part names a member that is held.
unfoldable pub free : Bindings → (Name → Bool) → List (List ℕ) → Bool
free b held [] = true
free b held (part ∷ parts) = not (option_map_or held (qname_of b part) false) && free b held parts

de_morgan : (s t u v : Bool) → (not (s || t) && (not u && v)) ≡ (not (s || u) && (not t && v))
de_morgan true t u v = refl
de_morgan false true true v = refl
de_morgan false true false v = refl
de_morgan false false true v = refl
de_morgan false false false v = refl

shuffle : (p a q f : Bool) → ((p && a) && (q && f)) ≡ (q && (a && (p && f)))
shuffle true true true f = refl
shuffle true true false f = refl
shuffle true false true f = refl
shuffle true false false f = refl
shuffle false true true f = refl
shuffle false true false f = refl
shuffle false false true f = refl
shuffle false false false f = refl

pub and_true : (a : Bool) → (a && true) ≡ a
and_true true = refl
and_true false = refl

-- One more name is held.
one_more : (b : Bindings) (held : Name → Bool) (n : Name) (parts : List (List ℕ))
    → free b (λ m. is_same_name n (Some m) || held m) parts ≡ (not (names_one b n parts) && free b held parts)
unfolding free
one_more b held n [] = refl
one_more b held n (part ∷ parts) = by (qname_of b part) refl (one_more b held n parts)
  where
    by : (o : Option Name) → qname_of b part ≡ o
        → free b (λ m. is_same_name n (Some m) || held m) parts ≡ (not (names_one b n parts) && free b held parts)
        → free b (λ m. is_same_name n (Some m) || held m) (part ∷ parts) ≡ (not (names_one b n (part ∷ parts)) && free b held (part ∷ parts))
    by None q h = rw (q, h) refl
    by (Some m) q h = rw (q, h) (de_morgan (is_same_name n (Some m)) (held m) (names_one b n parts) (free b held parts))

pub free_same : (b : Bindings) (held other : Name → Bool) → ((n : Name) → held n ≡ other n) → (parts : List (List ℕ)) → free b held parts ≡ free b other parts
unfolding free
free_same b held other same [] = refl
free_same b held other same (part ∷ parts) = by (qname_of b part) refl (free_same b held other same parts)
  where
    by : (o : Option Name) → qname_of b part ≡ o → free b held parts ≡ free b other parts → free b held (part ∷ parts) ≡ free b other (part ∷ parts)
    by None q h = rw (q, h) refl
    by (Some m) q h = rw (q, h, same m) refl

held_same : (b : Bindings) (held : Name → Bool) (n : Name) → held n ≡ holds_after b held [] n
held_same b held n = sym (ap (λ (o : Option Name). option_map_or (λ other. is_same_name other (Some n)) o false || held n) (no_name b))

pub empty_same : (b : Bindings) (held : Name → Bool) (part : List ℕ) → length part ≡ 0 → (n : Name) → held n ≡ holds_after b held part n
empty_same b held [] e n = held_same b held n
empty_same b held (c ∷ cs) e n = cc e

-- The first part, and the others after it.
pub first_part : (b : Bindings) (held : Name → Bool) (part : List ℕ) (parts : List (List ℕ))
    → (are_members b (part ∷ parts) && free b held (part ∷ parts)) ≡ (is_unheld b held part && (are_members b parts && free b (holds_after b held part) parts))
unfolding free
first_part b held [] parts =
    rw (no_name b) (ap (λ (x : Bool). are_members b parts && x) (free_same b held (holds_after b held []) (held_same b held) parts))
first_part b held (c ∷ cs) parts = by (qname_of b (c ∷ cs)) refl
  where
    by : (o : Option Name) → qname_of b (c ∷ cs) ≡ o
        → (are_members b ((c ∷ cs) ∷ parts) && free b held ((c ∷ cs) ∷ parts)) ≡ (is_unheld b held (c ∷ cs) && (are_members b parts && free b (holds_after b held (c ∷ cs)) parts))
    by None q = rw q refl
    by (Some n) q =
        let held_too = λ (m : Name). ap (λ (o : Option Name). option_map_or (λ other. is_same_name other (Some m)) o false || held m) q in
        let after = free_same b (holds_after b held (c ∷ cs)) (λ m. is_same_name n (Some m) || held m) held_too parts ∙ one_more b held n parts in
        rw q (shuffle (not (names_one b n parts)) (are_members b parts) (not (held n)) (free b held parts)
        ∙ ap (λ (x : Bool). not (held n) && (are_members b parts && x)) (sym after))

-- After a part that is empty or new, what is left decides; any other part decides.
pub next_members : (b : Bindings) (held other : Name → Bool) (part : List ℕ) (parts : List (List ℕ)) → is_unheld b held part ≡ true
    → ((n : Name) → other n ≡ holds_after b held part n)
    → (are_members b (part ∷ parts) && free b held (part ∷ parts)) ≡ (are_members b parts && free b other parts)
next_members b held other part parts new same =
    first_part b held part parts ∙ ap (λ (x : Bool). x && (are_members b parts && free b (holds_after b held part) parts)) new
    ∙ ap (λ (x : Bool). are_members b parts && x) (sym (free_same b other (holds_after b held part) same parts))

pub no_members : (b : Bindings) (held : Name → Bool) (part : List ℕ) (parts : List (List ℕ)) → is_unheld b held part ≡ false
    → (are_members b (part ∷ parts) && free b held (part ∷ parts)) ≡ false
no_members b held part parts old =
    first_part b held part parts ∙ ap (λ (x : Bool). x && (are_members b parts && free b (holds_after b held part) parts)) old

pub last_part : (b : Bindings) (held : Name → Bool) (part : List ℕ) → (are_members b (part ∷ []) && free b held (part ∷ [])) ≡ is_unheld b held part
unfolding free
last_part b held part = first_part b held part [] ∙ and_true (is_unheld b held part)

pub free_none : (b : Bindings) (held : Name → Bool) → ((n : Name) → held n ≡ false) → (parts : List (List ℕ)) → free b held parts ≡ true
unfolding free
free_none b held none [] = refl
free_none b held none (part ∷ parts) = by (qname_of b part) refl (free_none b held none parts)
  where
    by : (o : Option Name) → qname_of b part ≡ o → free b held parts ≡ true → free b held (part ∷ parts) ≡ true
    by None q h = rw (q, h) refl
    by (Some m) q h = rw (q, h, none m) refl

-- THE ORDERED SET of local parts with their URIs.
abbrev pub Member : Type 0
Member = Bor (List ℕ) × Bor (List ℕ)

abbrev pub member_cmp : Member → Member → Ordering
member_cmp x y = ordering_then (slice_cmp nat_cmp x.0.now y.0.now) (slice_cmp nat_cmp x.1.now y.1.now)

both_equal : (a b : Ordering) → is_eq (ordering_then a b) ≡ (is_eq a && is_eq b)
both_equal Less b = refl
both_equal Equal b = refl
both_equal Greater b = refl

equal_members : (x y : Member) → is_eq (member_cmp x y) ≡ (bytes_eq x.0.now y.0.now && bytes_eq x.1.now y.1.now)
equal_members x y =
    both_equal (slice_cmp nat_cmp x.0.now y.0.now) (slice_cmp nat_cmp x.1.now y.1.now)
    ∙ rw (is_eq-slice_cmp x.0.now y.0.now, is_eq-slice_cmp x.1.now y.1.now) refl

any_same : {A : Type 0} (f g : A → Bool) → ((x : A) → f x ≡ g x) → (xs : List A) → list_any f xs ≡ list_any g xs
any_same f g same [] = refl
any_same f g same (x ∷ xs) = rw (same x, any_same f g same xs) refl

pub contains_is : (s : BTreeSet Member) (k : Member) → contains member_cmp s k ≡ holds s (k.1.now, k.0.now)
contains_is s k = any_same (is_at (member_cmp k)) _ (equal_members k) s.keys

as_member : Name → Member
as_member name = (record { ref_ptr = (0, 0); now = name.1 }, record { ref_ptr = (0, 0); now = name.0 })

swap : (a b c : Bool) → cond (a && b) true c ≡ ((b && a) || c)
swap true true c = refl
swap true false c = refl
swap false true c = refl
swap false false c = refl

pub holds_more : (s n : BTreeSet Member) (k : Member) → Updates member_cmp s n k true → (name : Name)
    → holds n name ≡ (is_same_name (k.1.now, k.0.now) (Some name) || holds s name)
unfolding as_member
holds_more s n k updates name =
    let q = as_member name in
    sym (contains_is n q) ∙ updates.0 q ∙ rw (contains_is s q, equal_members k q) (swap (bytes_eq k.0.now name.1) (bytes_eq k.1.now name.0) (holds s name))

-- A part that is a QName is empty or new exactly if its name is not held.
pub unheld_name : (b : Bindings) (held : Name → Bool) (part : List ℕ) (n : Name) → qname_of b part ≡ Some n → is_unheld b held part ≡ not (held n)
unheld_name b held [] n q = let none : None ≡ Some n = sym (no_name b) ∙ q in cc none
unheld_name b held (c ∷ cs) n q = rw q refl
