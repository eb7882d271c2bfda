-- The index of a prefix of a header, and columns that occur in one.
use Rattle.std.proofs.Common.{◌≡◌, ℕ, ◌+◌, ◌<◌, suc, [], ◌∷◌, ◌++◌, length, take, drop, get_or, Option, Some, None, Bool, true, false, refl, sym, ap, ◌∙◌, arith, ◌≢◌, true≢false, is_some}
use Rattle.std.specs.Prelude.{◌==◌, if◌then◌else◌, nat_eq}
use Rattle.std.specs.List.{list_any, position_from}
use Rattle.std.proofs.lemmas.Bool.{eqb-true, eqb-false}
use Rattle.std.proofs.Math.Seq.{drop-cons}
use Rattle.std.proofs.lemmas.List.{length-take-le, take_more}
use Rattle.indexmap.specs.IndexMap.{IndexMap, get}
use Rattle.oim_rows.specs.Header.{Header, is_column, repeat_from, repeats}
use Rattle.oim_rows.specs.RowFacts.{source_of_column}
use Rattle.oim_rows.specs.state.Decoding.{IsIndexOf}

-- EQUAL NUMBERS

is_other : (c x : ℕ) → c ≢ x → (c == x) ≡ false
is_other c x apart = by (c == x) refl
  where
    by : (b : Bool) → (c == x) ≡ b → (c == x) ≡ false
    by true e = absurd (apart (eqb-true c x e))
    by false e = e

itself : (n : ℕ) → (n == n) ≡ true
itself n = by (n == n) refl
  where
    by : (b : Bool) → (n == n) ≡ b → (n == n) ≡ true
    by true e = e
    by false e = absurd (eqb-false n n e refl)

-- THE INDEX OF A PREFIX

-- The first answer, or the second if it does not exist.
abbrev or_last : Option ℕ → Option ℕ → Option ℕ
or_last None last = last
or_last (Some k) last = Some k

-- Where the first item that passes is, once one more item is last.
with_last : (p : Option ℕ → Bool) (n : ℕ) (front : Header) (o : Option ℕ)
    → position_from p n (front ++ o ∷ []) ≡ or_last (position_from p n front) (if p o then Some (n + length front) else None)
with_last p n [] o = rw (zero_last n) refl
  where
    zero_last : (m : ℕ) → m + 0 ≡ m
    zero_last m = omega arith
with_last p n (x ∷ xs) o = by (p x) refl (rw moved at (with_last p (n + 1) xs o))
  where
    moved : n + 1 + length xs ≡ n + suc (length xs)
    moved = omega arith

    last : Option ℕ
    last = if p o then Some (n + suc (length xs)) else None

    by : (b : Bool) → p x ≡ b → position_from p (n + 1) (xs ++ o ∷ []) ≡ or_last (position_from p (n + 1) xs) last
        → position_from p n (x ∷ xs ++ o ∷ []) ≡ or_last (position_from p n (x ∷ xs)) last
    by true e rest = rw e refl
    by false e rest = rw e rest

-- Whether an item passes, and where.
occurs : (p : Option ℕ → Bool) (n : ℕ) (xs : Header) → is_some (position_from p n xs) ≡ list_any p xs
occurs p n [] = refl
occurs p n (x ∷ xs) = by (p x) refl (occurs p (n + 1) xs)
  where
    by : (b : Bool) → p x ≡ b → is_some (position_from p (n + 1) xs) ≡ list_any p xs → is_some (position_from p n (x ∷ xs)) ≡ list_any p (x ∷ xs)
    by true e rest = rw e refl
    by false e rest = rw e rest

-- A header has a column if the column has a place in it.
pub named_if_placed : (h : Header) (c : ℕ) → is_some (source_of_column h c) ≡ list_any (is_column c) h
named_if_placed h c = occurs (is_column c) 0 h

more_placed : (header : Header) (i : ℕ) (o d : Option ℕ) → i < length header → get_or header i d ≡ o → (c : ℕ)
    → source_of_column (take (i + 1) header) c ≡ or_last (source_of_column (take i header) c) (if is_column c o then Some i else None)
more_placed header i o d lt at c =
    let longer : take (i + 1) header ≡ take i header ++ o ∷ [] = take_more header i d lt ∙ ap (λ p. take i header ++ p ∷ []) at in
    let size : length (take i header) ≡ i = length-take-le i header (omega (arith, lt)) in
    let last : 0 + length (take i header) ≡ i = omega (arith, size) in
    ap (position_from (is_column c) 0) longer ∙ rw last at (with_last (is_column c) 0 (take i header) o)

none_last : (o : Option ℕ) → or_last o None ≡ o
none_last None = refl
none_last (Some x) = refl

-- A cell that names no column changes nothing.
pub index_stays : {S : Type 0} (index : IndexMap ℕ ℕ S) (header : Header) (i : ℕ) (d : Option ℕ) → i < length header → get_or header i d ≡ None
    → IsIndexOf (take i header) index → IsIndexOf (take (i + 1) header) index
index_stays index header i d lt at are c = are c ∙ sym (more_placed header i None d lt at c ∙ none_last (source_of_column (take i header) c))

-- A cell that names a column for the first time is its place.
pub index_more : {S : Type 0} (old new : IndexMap ℕ ℕ S) (header : Header) (i x : ℕ) (d : Option ℕ) → i < length header → get_or header i d ≡ Some x
    → is_some (get nat_eq old x) ≡ false → ((c : ℕ) → get nat_eq new c ≡ (if nat_eq x c then Some i else get nat_eq old c))
    → IsIndexOf (take i header) old → IsIndexOf (take (i + 1) header) new
index_more old new header i x d lt at fresh adds are c = adds c ∙ one (nat_eq x c) refl ∙ sym (more_placed header i (Some x) d lt at c)
  where
    none : (o : Option ℕ) → is_some o ≡ false → o ≡ None
    none None e = refl
    none (Some k) e = absurd (true≢false e)

    one : (b : Bool) → nat_eq x c ≡ b → (if b then Some i else get nat_eq old c) ≡ or_last (source_of_column (take i header) c) (if c == x then Some i else None)
    one true h =
        let same : x ≡ c = eqb-true x c h in
        rw (← are c, ← same, none (get nat_eq old x) fresh, itself x) refl
    one false h =
        let apart : (c == x) ≡ false = is_other c x (λ e. eqb-false x c h (sym e)) in
        rw (apart, none_last (source_of_column (take i header) c)) (are c)

-- A column that the index has occurs in the prefix.
pub was_there : {S : Type 0} (index : IndexMap ℕ ℕ S) (front : Header) (x : ℕ) → IsIndexOf front index → is_some (get nat_eq index x) ≡ repeats front (Some x)
was_there index front x are = ap is_some (are x) ∙ named_if_placed front x

-- ONE STEP OF THE SEARCH

turn : (header : Header) (i : ℕ) (o d : Option ℕ) → i < length header → get_or header i d ≡ o
    → repeat_from i (take i header) (drop i header) ≡ (if repeats (take i header) o then Some i else repeat_from (i + 1) (take (i + 1) header) (drop (i + 1) header))
turn header i o d lt at =
    let one : suc i ≡ i + 1 = omega arith in
    let rest : drop i header ≡ o ∷ drop (i + 1) header =
    drop-cons header i d lt ∙ ap (λ (p : Option ℕ). p ∷ drop (suc i) header) at ∙ ap (λ (k : ℕ). o ∷ drop k header) one in
    let front : take (i + 1) header ≡ take i header ++ o ∷ [] = take_more header i d lt ∙ ap (λ (p : Option ℕ). take i header ++ p ∷ []) at in
    rw (rest, front) refl

pub stops_here : (header : Header) (i : ℕ) (o d : Option ℕ) → i < length header → get_or header i d ≡ o → repeat_from 0 [] header ≡ repeat_from i (take i header) (drop i header)
    → repeats (take i header) o ≡ true → Some i ≡ repeat_from 0 [] header
stops_here header i o d lt at whole h = sym (whole ∙ turn header i o d lt at ∙ rw h refl)

pub goes_on : (header : Header) (i : ℕ) (o d : Option ℕ) → i < length header → get_or header i d ≡ o → repeat_from 0 [] header ≡ repeat_from i (take i header) (drop i header)
    → repeats (take i header) o ≡ false → repeat_from 0 [] header ≡ repeat_from (i + 1) (take (i + 1) header) (drop (i + 1) header)
goes_on header i o d lt at whole h = whole ∙ turn header i o d lt at ∙ rw h refl

-- A cell that is not any column gives `None`.
pub no_column_there : (o : Option ℕ) → ((x : ℕ) → o ≡ Some x → ⊥) → o ≡ None
no_column_there None h = refl
no_column_there (Some x) h = absurd (h x refl)
