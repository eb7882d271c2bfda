-- The test of sets of members agrees with their definition.
use Rattle.std.proofs.Common.{◌≡◌, ◌≢◌, inl, inr, ◌||◌, ℕ, Bool, true, false, not, Decides, List, [], ◌∷◌, ◌++◌, Option, Some, None, codes, refl, sym, ap, ◌∙◌, bytes_eq}
use Rattle.std.specs.List.{AllByRecursion}
use Rattle.std.specs.Str.{IsUtf8, is_utf8, chars}
use lib.Utf8.{encode}
use Rattle.std.proofs.lemmas.Bool.{cases_Bool}
use Rattle.std.proofs.lemmas.Slice.Eq.{bytes_eq-Decides}
use Rattle.std.proofs.lemmas.Str.{IsUtf8-append, IsUtf8-from_is_utf8}
use Rattle.oim_names.specs.Bindings.{Bindings}
use Rattle.oim_names.specs.Names.{is_ncname}
use Rattle.oim_names.specs.QName.{Name, IsQName, qname, qname_of}
use Rattle.oim_names.proofs.Colons.{qname_sound, qname_value, qname_uncut}
use Rattle.oim_period.proofs.Found.{both, both_yes}
use Rattle.oim_schema.specs.Members.{AreMembers, end, blank, member, IsMemberSet, parts_of, is_same_name, names_one, is_member, is_part, are_members, is_member_set}

-- A QName is a text.
name_is_text : (t : List ℕ) → is_ncname t ≡ true → IsUtf8 t
unfolding is_ncname
name_is_text t e = IsUtf8-from_is_utf8 t (both (is_utf8 t) _ e).0

colon_is_text : is_utf8 (codes ":") ≡ true
unfolding is_utf8 chars encode
colon_is_text = refl

qname_is_text : {b : Bindings} {t : List ℕ} {x : Name} → IsQName b t x → IsUtf8 t
qname_is_text (qname b p l u n m e) = IsUtf8-append (p ++ codes ":") l (IsUtf8-append p (codes ":") (name_is_text p n) (IsUtf8-from_is_utf8 (codes ":") colon_is_text)) (name_is_text l m)

value : {b : Bindings} {t : List ℕ} {x : Name} → IsQName b t x → qname_of b t ≡ Some x
value {b = b} {t = t} {x = x} q = qname_value b t x (qname_is_text q) q

pub no_name : (b : Bindings) → qname_of b [] ≡ None
no_name b = sym (qname_uncut b [] refl)

same_yes : (name other : Name) → other ≡ name → is_same_name name (Some other) ≡ true
same_yes name other e = both_yes _ _ ((bytes_eq-Decides name.0 other.0).1 (ap (λ n. n.0) (sym e))) ((bytes_eq-Decides name.1 other.1).1 (ap (λ n. n.1) (sym e)))

same_is : (name other : Name) → is_same_name name (Some other) ≡ true → other ≡ name
same_is name other e =
    let h = both (bytes_eq name.0 other.0) _ e in
    let u = (bytes_eq-Decides name.0 other.0).0 h.0 in
    let v = (bytes_eq-Decides name.1 other.1).0 h.1 in
    let first : ◌≡◌ {A = Name} (other.0, other.1) (name.0, other.1) = ap (λ (a : List ℕ). (a, other.1)) (sym u) in
    let second : ◌≡◌ {A = Name} (name.0, other.1) (name.0, name.1) = ap (λ (a : List ℕ). (name.0, a)) (sym v) in
    first ∙ second

same_no : (name other : Name) → other ≢ name → is_same_name name (Some other) ≡ false
same_no name other n =
    elim (cases_Bool (is_same_name name (Some other))) [ inl e ↦ absurd (n (same_is name other e)) | inr e ↦ e ]

neither : (a b : Bool) → (a || b) ≡ false → (a ≡ false) × (b ≡ false)
neither true b e = absurd (cc)
neither false b e = (refl, e)

both_no : (a b : Bool) → a ≡ false → b ≡ false → (a || b) ≡ false
both_no a b e f = rw (e, f) refl

-- No part names the name exactly if no member is it.
none_from : {b : Bindings} (name : Name) {parts : List (List ℕ)} {ms : List Name} → AreMembers b parts ms → names_one b name parts ≡ false → AllByRecursion (λ other. other ≢ name) ms
none_from name (end b) e = tt
none_from name (blank b parts ms r) e = none_from name r (neither (is_same_name name (qname_of b [])) (names_one b name parts) e).1
none_from name (member b part parts n ms q a r) e =
    let h = neither (is_same_name name (qname_of b part)) (names_one b name parts) e in
    let k : is_same_name name (Some n) ≡ false = sym (ap (is_same_name name) (value q)) ∙ h.0 in
    (λ w. let y = same_yes name n w in absurd (cc), none_from name r h.1)

none_to : {b : Bindings} (name : Name) {parts : List (List ℕ)} {ms : List Name} → AreMembers b parts ms → AllByRecursion (λ other. other ≢ name) ms → names_one b name parts ≡ false
none_to name (end b) a = refl
none_to name (blank b parts ms r) a = both_no _ _ (ap (is_same_name name) (no_name b)) (none_to name r a)
none_to name (member b part parts n ms q x r) a = both_no _ _ (ap (is_same_name name) (value q) ∙ same_no name n a.0) (none_to name r a.1)

not_true : (a : Bool) → not a ≡ true → a ≡ false
not_true true e = absurd (cc)
not_true false e = refl

member_by : (b : Bindings) (part : List ℕ) (parts : List (List ℕ)) (ms : List Name) (o : Option Name) → qname_of b part ≡ o → is_member b o parts ≡ true → AreMembers b parts ms
    → (members : List Name) × AreMembers b (part ∷ parts) members
member_by b part parts ms None q e r = absurd (cc)
member_by b part parts ms (Some n) q e r =
    (n ∷ ms, member b part parts n ms (qname_sound b part n q) (none_from n r (not_true (names_one b n parts) e)) r)

members_from : (b : Bindings) (parts : List (List ℕ)) → are_members b parts ≡ true → (members : List Name) × AreMembers b parts members
members_from b [] e = ([], end b)
members_from b ([] ∷ parts) e = let r = members_from b parts e in (r.0, blank b parts r.0 r.1)
members_from b ((c ∷ cs) ∷ parts) e =
    let h = both (is_part b (c ∷ cs) parts) _ e in
    let r = members_from b parts h.1 in
    member_by b (c ∷ cs) parts r.0 (qname_of b (c ∷ cs)) refl h.0 r.1

part_to : (b : Bindings) (part : List ℕ) (parts : List (List ℕ)) (n : Name) → qname_of b part ≡ Some n → names_one b n parts ≡ false → is_part b part parts ≡ true
part_to b [] parts n q e = refl
part_to b (c ∷ cs) parts n q e = ap (λ o. is_member b o parts) q ∙ ap not e

members_to : {b : Bindings} {parts : List (List ℕ)} {ms : List Name} → AreMembers b parts ms → are_members b parts ≡ true
members_to (end b) = refl
members_to (blank b parts ms r) = members_to r
members_to (member b part parts n ms q a r) = both_yes _ _ (part_to b part parts n (value q) (none_to n r a)) (members_to r)

pub set_Decides : (b : Bindings) (t : List ℕ) → Decides (is_member_set b t) (IsMemberSet b t)
unfolding is_member_set
set_Decides b t = (λ e. members_from b (parts_of t) e, λ h. members_to h.1)
