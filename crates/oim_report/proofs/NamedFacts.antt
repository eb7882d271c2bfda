-- Values by name: a lookup, an addition, and an addition to a group.
use Rattle.std.proofs.Common.{◌≡◌, ◌==◌, ℕ, List, [], ◌∷◌, ◌++◌, Option, Some, None, Bool, true, false, ◌&&◌, if◌then◌else◌, refl, sym, ◌∙◌, ap, length, map, subst, Result, Ok, Err, OnOk}
use Rattle.std.proofs.Math.Dec.{eqb-suc-zero}
use Rattle.std.proofs.lemmas.Cmp.{nat_list_eq_equiv}
use Rattle.std.proofs.lemmas.Map.Entries.{lookup_clone}
use Rattle.std.proofs.lemmas.Map.Text.{is_eq-slice_cmp}
use Rattle.std.proofs.lemmas.Slice.Eq.{bytes_eq-Decides}
use Rattle.std.specs.Cmp.Lexicographic.{slice_cmp}
use Rattle.std.specs.List.{AllByRecursion, AllZip}
use Rattle.std.specs.Map.{lookup}
use Rattle.std.specs.Option.{IsSomeAnd, MatchOption, option_and_then, option_map, unwrap_or}
use Rattle.std.specs.Ordering.{is_eq, nat_cmp}
use Rattle.std.specs.Str.{bytes_eq}
use Rattle.oim_names.specs.Lookup.{value_at}
use Rattle.oim_report.specs.state.Named.{AreFound, ExtendsUnder, copied, found_more, value_under, with_value}

pub same-bytes : (a b : List ℕ) → bytes_eq a b ≡ true → a ≡ b
same-bytes a b e = (bytes_eq-Decides a b).0 e

-- A text that is equal to one and not to the other.
apart-bytes : (e u v : List ℕ) → bytes_eq e u ≡ false → bytes_eq e v ≡ true → bytes_eq u v ≡ false
apart-bytes e u v unlike like = by (bytes_eq u v) refl
  where
    by : (b : Bool) → bytes_eq u v ≡ b → bytes_eq u v ≡ false
    by true h =
        let eu : e ≡ u = same-bytes e v like ∙ sym (same-bytes u v h) in
        let wrong : bytes_eq u u ≡ false = rw eu at unlike in
        let right : bytes_eq u u ≡ true = nat_list_eq_equiv.refl u in
        cc (wrong, right)
    by false h = h

-- A lookup after an addition of a new name.
value-extended : {V : Type 0} (name : List ℕ) (v : V) (es : List (List ℕ × V)) (n : List ℕ) → value_at name es ≡ None
    → value_at n (es ++ (name, v) ∷ []) ≡ (if bytes_eq name n then Some v else value_at n es)
value-extended name v [] n none = refl
value-extended {V} name v (e ∷ es) n none = by (bytes_eq e.0 name) (bytes_eq e.0 n) refl refl (value-extended name v es n)
  where
    by : (a b : Bool) → bytes_eq e.0 name ≡ a → bytes_eq e.0 n ≡ b
        → (value_at name es ≡ None → value_at n (es ++ (name, v) ∷ []) ≡ (if bytes_eq name n then Some v else value_at n es))
        → value_at n ((e ∷ es) ++ (name, v) ∷ []) ≡ (if bytes_eq name n then Some v else value_at n (e ∷ es))
    by true b h i more = let some : Some e.1 ≡ None = rw h at none in cc some
    by false true h i more = let apart : bytes_eq name n ≡ false = apart-bytes e.0 name n h i in rw (i, apart) refl
    by false false h i more = rw i (more (rw h at none))

-- What holds if a result is `Ok`, from what does.
pub on-ok : {T E : Type 0} (r : Result T E) (P Q : Type 0) → (P → Q) → OnOk r P → OnOk r Q
on-ok (Ok x) P Q f h = f h
on-ok (Err x) P Q f h = tt

-- A lookup that lends nothing finds nothing.
pub none-lent : {A B : Type 0} (f : A → B) (o : Option A) → ((x : A) → o ≡ Some x → ⊥) → option_map f o ≡ None
none-lent f None h = refl
none-lent f (Some x) h = absurd (h x refl)

-- There are entries if and only if values were added.
pub none-added : {K V : Type 0} (bytes : K → List ℕ) (entries : List (K × V)) (added : List (List ℕ × V))
    → AreFound (λ n. lookup (λ k. is_eq (slice_cmp nat_cmp n (bytes k))) entries) added → (length entries == 0) ≡ (length added == 0)
none-added bytes [] [] found = refl
none-added bytes [] (a ∷ rest) found = cc found.1.0
none-added {V = V} bytes (e ∷ es) [] found =
    let here : is_eq (slice_cmp nat_cmp (bytes e.0) (bytes e.0)) ≡ true = is_eq-slice_cmp (bytes e.0) (bytes e.0) ∙ nat_list_eq_equiv.refl (bytes e.0) in
    let first : lookup (λ k. is_eq (slice_cmp nat_cmp (bytes e.0) (bytes k))) (e ∷ es) ≡ None = found.0 (bytes e.0) in
    let wrong : Some e.1 ≡ None = rw here at first in
    cc wrong
none-added bytes (e ∷ es) (a ∷ rest) found = eqb-suc-zero (length es) ∙ sym (eqb-suc-zero (length rest))

-- A value that was added under a new name.
added-each : {V : Type 0} (find find2 : List ℕ → Option V) (name : List ℕ) (v : V) (es : List (List ℕ × V)) → find name ≡ None
    → ((n : List ℕ) → find2 n ≡ found_more find name v n) → AllByRecursion (λ e. find e.0 ≡ Some e.1) es
    → AllByRecursion (λ e. find2 e.0 ≡ Some e.1) (es ++ (name, v) ∷ [])
added-each find find2 name v [] none more each =
    let same : bytes_eq name name ≡ true = nat_list_eq_equiv.refl name in
    (more name ∙ rw same refl, tt)
added-each {V} find find2 name v (e ∷ es) none more each = (more e.0 ∙ by (bytes_eq name e.0) refl, added-each find find2 name v es none more each.1)
  where
    by : (b : Bool) → bytes_eq name e.0 ≡ b → (if b then Some v else find e.0) ≡ Some e.1
    by true h =
        let wrong : find name ≡ Some e.1 = rw (same-bytes name e.0 h) each.0 in
        let both : None ≡ Some e.1 = sym none ∙ wrong in
        cc both
    by false h = each.0

pub found-added : {V : Type 0} (find find2 : List ℕ → Option V) (name : List ℕ) (v : V) (added : List (List ℕ × V)) → AreFound find added → value_at name added ≡ None
    → ((n : List ℕ) → find2 n ≡ found_more find name v n) → AreFound find2 (added ++ (name, v) ∷ [])
found-added {V} find find2 name v added found none more = (
  λ n. more n ∙ ap (λ (o : Option V). if bytes_eq name n then Some v else o) (found.0 n) ∙ sym (value-extended name v added n none),
  added-each find find2 name v added (found.0 name ∙ none) more found.1,
)

pub found-same : {V : Type 0} (find find2 : List ℕ → Option V) (added : List (List ℕ × V)) → AreFound find added → ((n : List ℕ) → find2 n ≡ find n) → AreFound find2 added
found-same {V} find find2 added found same = (λ n. same n ∙ found.0 n, each added found.1)
  where
    each : (es : List (List ℕ × V)) → AllByRecursion (λ e. find e.0 ≡ Some e.1) es → AllByRecursion (λ e. find2 e.0 ≡ Some e.1) es
    each [] h = tt
    each (e ∷ es) h = (same e.0 ∙ h.0, each es h.1)

-- A lookup after each value was changed.
value-mapped : {V : Type 0} (f : List ℕ → V → V) (n : List ℕ) (es : List (List ℕ × V)) → value_at n (map (λ e. (e.0, f e.0 e.1)) es) ≡ option_map (f n) (value_at n es)
value-mapped f n [] = refl
value-mapped {V} f n (e ∷ es) = by (bytes_eq e.0 n) refl (value-mapped f n es)
  where
    by : (b : Bool) → bytes_eq e.0 n ≡ b → value_at n (map (λ e. (e.0, f e.0 e.1)) es) ≡ option_map (f n) (value_at n es)
        → (if b then Some (f e.0 e.1) else value_at n (map (λ e. (e.0, f e.0 e.1)) es)) ≡ option_map (f n) (if b then Some e.1 else value_at n es)
    by true h more = ap (λ k. Some (f k e.1)) (same-bytes e.0 n h)
    by false h more = more

-- Another value of a name that was added.
pub value-with : {V : Type 0} (name : List ℕ) (old v : V) (es : List (List ℕ × V)) (n : List ℕ) → value_at name es ≡ Some old
    → value_at n (with_value es name v) ≡ found_more (λ k. value_at k es) name v n
value-with {V} name old v es n there = value-mapped (λ k x. if bytes_eq name k then v else x) n es ∙ by (bytes_eq name n) refl
  where
    keep : (o : Option V) → option_map (λ x. x) o ≡ o
    keep None = refl
    keep (Some x) = refl

    by : (b : Bool) → bytes_eq name n ≡ b → option_map (λ x. if b then v else x) (value_at n es) ≡ (if b then Some v else value_at n es)
    by true h = let here : value_at n es ≡ Some old = rw (← same-bytes name n h) there in rw here refl
    by false h = keep (value_at n es)

pub found-with : {V : Type 0} (find find2 : List ℕ → Option V) (name : List ℕ) (old v : V) (added : List (List ℕ × V)) → AreFound find added → value_at name added ≡ Some old
    → ((n : List ℕ) → find2 n ≡ found_more find name v n) → AreFound find2 (with_value added name v)
found-with {V} find find2 name old v added found there more =
    (λ n. more n ∙ ap (λ (o : Option V). if bytes_eq name n then Some v else o) (found.0 n) ∙ sym (value-with name old v added n there), each added found.1)
  where
    each : (es : List (List ℕ × V)) → AllByRecursion (λ e. find e.0 ≡ Some e.1) es → AllByRecursion (λ e. find2 e.0 ≡ Some e.1) (with_value es name v)
    each [] h = tt
    each (e ∷ es) h = (more e.0 ∙ by (bytes_eq name e.0), each es h.1)
      where
        by : (b : Bool) → (if b then Some v else find e.0) ≡ Some (if b then v else e.1)
        by true = refl
        by false = h.0

-- Clones of the values that a lookup finds.
module _ {V : Type 0} (is_clone : V → V → Type 0) (find find2 : List ℕ → Option V)
    (clones : (n : List ℕ) → MatchOption (find n) (find2 n ≡ None) (λ v. IsSomeAnd (find2 n) (is_clone v))) where
  clone-of : (a b : Option V) (v : V) → a ≡ Some v → MatchOption a (b ≡ None) (λ v. IsSomeAnd b (is_clone v)) → (b ≡ Some (unwrap_or b v)) × is_clone v (unwrap_or b v)
  clone-of None b v e h = cc e
  clone-of (Some u) None v e h = absurd h
  clone-of (Some u) (Some w) v e h = let same : u ≡ v = cc e in (refl, subst (λ x. is_clone x w) same h)

  pub zip-copied : (es : List (List ℕ × V)) → AllByRecursion (λ e. find e.0 ≡ Some e.1) es → AllZip (λ p q. (q.0 ≡ p.0) × is_clone p.1 q.1) es (copied find2 es)
  zip-copied [] h = tt
  zip-copied (e ∷ es) h = ((refl, (clone-of (find e.0) (find2 e.0) e.1 h.0 (clones e.0)).1), zip-copied es h.1)

  each-copied : (es : List (List ℕ × V)) → AllByRecursion (λ e. find e.0 ≡ Some e.1) es → AllByRecursion (λ e. find2 e.0 ≡ Some e.1) (copied find2 es)
  each-copied [] h = tt
  each-copied (e ∷ es) h = ((clone-of (find e.0) (find2 e.0) e.1 h.0 (clones e.0)).0, each-copied es h.1)

  pub found-copied : (added : List (List ℕ × V)) → AreFound find added → AreFound find2 (copied find2 added)
  found-copied added found =
      (λ n. by (find n) (find2 n) (clones n) ∙ ap (option_map (λ v. unwrap_or (find2 n) v)) (found.0 n) ∙ sym (value-mapped (λ k v. unwrap_or (find2 k) v) n added), each-copied added found.1)
    where
      by : (a b : Option V) → MatchOption a (b ≡ None) (λ v. IsSomeAnd b (is_clone v)) → b ≡ option_map (λ v. unwrap_or b v) a
      by None b h = h
      by (Some v) None h = absurd h
      by (Some v) (Some w) h = refl

-- A lookup in the clone of a map.
pub clones-found : {K V : Type 0} (bytes : K → List ℕ) (is_clone : V → V → Type 0) (es fs : List (K × V)) → AllZip (λ p q. (bytes q.0 ≡ bytes p.0) × is_clone p.1 q.1) es fs
    → (n : List ℕ) → MatchOption (lookup (λ k. is_eq (slice_cmp nat_cmp n (bytes k))) es) (lookup (λ k. is_eq (slice_cmp nat_cmp n (bytes k))) fs ≡ None)
    (λ v. IsSomeAnd (lookup (λ k. is_eq (slice_cmp nat_cmp n (bytes k))) fs) (is_clone v))
clones-found bytes is_clone es fs h n =
    lookup_clone (λ x y. bytes y ≡ bytes x) is_clone (λ k. is_eq (slice_cmp nat_cmp n (bytes k))) (λ x y same. ap (λ b. is_eq (slice_cmp nat_cmp n b)) same) es fs h

-- An addition to a group that exists.
pub under-with : {V : Type 0} (group name : List ℕ) (v : V) (es : List (List ℕ × List (List ℕ × V))) (old : List (List ℕ × V)) → value_at group es ≡ Some old → value_at name old ≡ None
    → ExtendsUnder es group name v (with_value es group (old ++ (name, v) ∷ []))
under-with {V} group name v es old there none = λ g n. ap (option_and_then (value_at n)) (value-with group old (old ++ (name, v) ∷ []) es g there) ∙ by g n (bytes_eq group g) refl
  where
    by : (g n : List ℕ) (b : Bool) → bytes_eq group g ≡ b
        → option_and_then (value_at n) (if b then Some (old ++ (name, v) ∷ []) else value_at g es) ≡ (if b && bytes_eq name n then Some v else value_under es g n)
    by g n true h =
        let here : value_at g es ≡ Some old = rw (← same-bytes group g h) there in
        rw here (value-extended name v old n none)
    by g n false h = refl

-- An addition to a new group.
pub under-new : {V : Type 0} (group name : List ℕ) (v : V) (es new : List (List ℕ × List (List ℕ × V))) → value_at group es ≡ None
    → new ≡ es ++ (group, (name, v) ∷ []) ∷ [] → ExtendsUnder es group name v new
under-new {V} group name v es new none e = λ g n. rw (e, value-extended group ((name, v) ∷ []) es g none) (by g n (bytes_eq group g) refl)
  where
    by : (g n : List ℕ) (b : Bool) → bytes_eq group g ≡ b
        → option_and_then (value_at n) (if b then Some ((name, v) ∷ []) else value_at g es) ≡ (if b && bytes_eq name n then Some v else value_under es g n)
    by g n true h = let absent : value_at g es ≡ None = rw (← same-bytes group g h) none in rw absent refl
    by g n false h = refl

-- A name that is not under a group is not among its entries.
pub lacks-under : {V : Type 0} (group name : List ℕ) (es : List (List ℕ × List (List ℕ × V))) (old : List (List ℕ × V))
    → value_under es group name ≡ None → value_at group es ≡ Some old
    → value_at name old ≡ None
lacks-under group name es old none there = rw there at none

-- Clones that are equal make equal entries.
pub same-clones : {V : Type 0} (is_clone : V → V → Type 0) → ((v w : V) → is_clone v w → w ≡ v) → (xs ys : List (List ℕ × V)) → AllZip (λ p q. (q.0 ≡ p.0) × is_clone p.1 q.1) xs ys → ys ≡ xs
same-clones is_clone same [] [] h = refl
same-clones is_clone same [] (y ∷ ys) h = absurd h
same-clones is_clone same (x ∷ xs) [] h = absurd h
same-clones is_clone same (x ∷ xs) (y ∷ ys) h =
    let rest : ys ≡ xs = same-clones is_clone same xs ys h.1 in
    λ j. (h.0.0 j, same x.1 y.1 h.0.1 j) ∷ rest j
