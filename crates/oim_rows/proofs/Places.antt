-- One step of a loop over the indexes of a list.
use Rattle.std.proofs.Common.{◌≡◌, ◌≤◌, ◌+◌, ℕ, zero, suc, List, [], ◌∷◌, ◌++◌, length, take, drop, Some, None, Bool, true, false, refl, ap, arith, map, add-zero}
use Rattle.std.specs.List.{list_any, position_from, range_with_len, slice_get}
use Rattle.std.specs.Str.{is_utf8}
use Rattle.std.specs.Prelude.{IsUtf8, ◌||◌}
use Rattle.std.proofs.lemmas.Str.{IsUtf8-from_is_utf8}
use Rattle.csv.specs.Records.{field_at}
use Rattle.oim_rows.specs.RowFacts.{is_not_text}

-- The field at an index is the first of those from it on.
pub drop-field_at : (xs : List (List ℕ)) (i : ℕ) (x : List ℕ) → field_at xs i ≡ Some x → drop i xs ≡ x ∷ drop (i + 1) xs
unfolding field_at
drop-field_at [] i x e = cc e
drop-field_at (f ∷ fs) zero x e = let same : f ≡ x = cc in rw same refl
drop-field_at (f ∷ fs) (suc i) x e = rw (suc-add i) (drop-field_at fs i x e)
  where
    suc-add : (n : ℕ) → suc n + 1 ≡ suc (n + 1)
    suc-add n = omega arith

pub take-field_at : (xs : List (List ℕ)) (i : ℕ) (x : List ℕ) → field_at xs i ≡ Some x → take (i + 1) xs ≡ take i xs ++ x ∷ []
unfolding field_at
take-field_at [] i x e = cc e
take-field_at (f ∷ fs) zero x e = let same : f ≡ x = cc in rw same refl
take-field_at (f ∷ fs) (suc i) x e = rw (suc-add i) (ap (λ (t : List (List ℕ)). f ∷ t) (take-field_at fs i x e))
  where
    suc-add : (n : ℕ) → suc n + 1 ≡ suc (n + 1)
    suc-add n = omega arith

-- The field at an index is the item there.
pub field_there : (xs : List (List ℕ)) (i : ℕ) → field_at xs i ≡ slice_get xs i
unfolding field_at
field_there [] i = refl
field_there (f ∷ fs) zero = refl
field_there (f ∷ fs) (suc i) = field_there fs i

-- An index below the length has a field.
pub field_at-none : (xs : List (List ℕ)) (i : ℕ) → field_at xs i ≡ None → length xs ≤ i
unfolding field_at
field_at-none [] i e = omega arith
field_at-none (f ∷ fs) zero e = cc e
field_at-none (f ∷ fs) (suc i) e = let more : length fs ≤ i = field_at-none fs i e in omega arith

-- The search continues past a field that fails the test, and stops at one that passes.
pub position_from-next : (t : List ℕ → Bool) (xs : List (List ℕ)) (i : ℕ) (x : List ℕ) → field_at xs i ≡ Some x → t x ≡ false
    → position_from t i (drop i xs) ≡ position_from t (i + 1) (drop (i + 1) xs)
position_from-next t xs i x at fails = rw (drop-field_at xs i x at, fails) refl

pub position_from-here : (t : List ℕ → Bool) (xs : List (List ℕ)) (i : ℕ) (x : List ℕ) → field_at xs i ≡ Some x → t x ≡ true → position_from t i (drop i xs) ≡ Some i
position_from-here t xs i x at passes = rw (drop-field_at xs i x at, passes) refl

-- A record of texts has a text at each index.
pub utf8-field_at : (n i : ℕ) (r : List (List ℕ)) (f : List ℕ) → position_from is_not_text n r ≡ None → field_at r i ≡ Some f → IsUtf8 f
unfolding field_at
utf8-field_at n i [] f none at = cc at
utf8-field_at n i (g ∷ gs) f none at = by (is_utf8 g) refl i none at (λ (k : ℕ). utf8-field_at (n + 1) k gs f)
  where
    by : (b : Bool) → is_utf8 g ≡ b → (j : ℕ) → position_from is_not_text n (g ∷ gs) ≡ None → field_at (g ∷ gs) j ≡ Some f
        → ((k : ℕ) → position_from is_not_text (n + 1) gs ≡ None → field_at gs k ≡ Some f → IsUtf8 f) → IsUtf8 f
    by true e zero none at more = let same : g ≡ f = cc in IsUtf8-from_is_utf8 f (rw (← same) e)
    by true e (suc j) none at more = more j (rw e at none) at
    by false e j none at more = let some : Some n ≡ None = rw e at none in cc some

pub list_any-map : {A B : Type 0} (t : B → Bool) (f : A → B) (xs : List A) → list_any t (map f xs) ≡ list_any (λ x. t (f x)) xs
list_any-map t f [] = refl
list_any-map t f (x ∷ xs) = ap (λ (b : Bool). t (f x) || b) (list_any-map t f xs)

pub range_with_len-more : (a n : ℕ) → range_with_len a (n + 1) ≡ range_with_len a n ++ (a + n) ∷ []
range_with_len-more a zero = rw (add-zero a) refl
range_with_len-more a (suc n) =
    let one : suc n + 1 ≡ suc (n + 1) = omega arith in
    let moved : (a + 1) + n ≡ a + suc n = omega arith in
    rw one (rw (← moved) (ap (λ (t : List ℕ). a ∷ t) (range_with_len-more (a + 1) n)))
