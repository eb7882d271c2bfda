-- A prefix of rows: their facts, where they end, and the stretch in which they end.
use Rattle.std.proofs.Common.{◌≡◌, ◌++◌, ◌+◌, ◌-◌, ◌≤◌, ◌<◌, ℕ, zero, suc, List, [], ◌∷◌, length, take, drop, get_or, refl, sym, ap, ◌∙◌, arith, append-nil, append_assoc, length-append}
use Rattle.std.proofs.lemmas.Grind.{flat_map-append}
use Rattle.std.proofs.lemmas.List.{get_or_default, get_or_past, take-append-drop, take-append-le, take_at, take_more}
use Rattle.std.proofs.Math.Seq.{drop-cons, take-append-add}
use Rattle.oim_resolve.specs.FactParts.{FactParts as Fact}
use Rattle.oim_rows.specs.Streams.{facts_of_rows}
use Rattle.oim_decode.specs.state.RowEnds.{counts_from, stretches}

pub counts_length : (n : ℕ) (rows : List (List Fact)) → length (counts_from n rows) ≡ length rows
unfolding counts_from
counts_length n [] = refl
counts_length n (row ∷ rows) = ap suc (counts_length (n + length row) rows)

pub counts_take : (k n : ℕ) (rows : List (List Fact)) → take k (counts_from n rows) ≡ counts_from n (take k rows)
unfolding counts_from
counts_take zero n rows = refl
counts_take (suc k) n [] = refl
counts_take (suc k) n (row ∷ rows) = ap (λ t. (n + length row) ∷ t) (counts_take k (n + length row) rows)

counts_at : (i n : ℕ) (rows : List (List Fact)) (d : ℕ) → i < length rows → get_or (counts_from n rows) i d ≡ n + length (facts_of_rows (take (suc i) rows))
unfolding counts_from
counts_at i n [] d lt = absurd (omega (arith, lt))
counts_at zero n (row ∷ rows) d lt = ap (λ k. n + k) (sym (ap length (append-nil row)))
counts_at (suc i) n (row ∷ rows) d lt =
    let rest = facts_of_rows (take (suc i) rows) in
    omega (arith, counts_at i (n + length row) rows d (omega (arith, lt)), length-append row rest)

-- Where the first k rows end.
pub count_of_first : (k : ℕ) (rows : List (List Fact)) (ends : List ℕ) (at : ℕ) → ends ≡ counts_from 0 rows → 1 ≤ k → k ≤ length rows → at ≡ get_or ends (k - 1) at → at ≡ length (facts_of_rows (take k rows))
count_of_first k rows ends at is some within got =
    let one : suc (k - 1) ≡ k = omega (arith, some) in
    let here : at ≡ length (facts_of_rows (take (suc (k - 1)) rows)) =
    omega (arith, got ∙ ap (λ (xs : List ℕ). get_or xs (k - 1) at) is ∙ counts_at (k - 1) 0 rows at (omega (arith, some, within))) in
    here ∙ ap (λ i. length (facts_of_rows (take i rows))) one

facts_cut : (k : ℕ) (rows : List (List Fact)) → facts_of_rows rows ≡ facts_of_rows (take k rows) ++ facts_of_rows (drop k rows)
facts_cut k rows = ap facts_of_rows (sym (take-append-drop k rows)) ∙ flat_map-append (λ (row : List Fact). row) (take k rows) (drop k rows)

-- The facts of the first k rows.
pub facts_of_first : (k at : ℕ) (rows : List (List Fact)) (facts : List Fact) → facts ≡ facts_of_rows rows → at ≡ length (facts_of_rows (take k rows)) → take at facts ≡ facts_of_rows (take k rows)
facts_of_first k at rows facts is here = ap (take at) (is ∙ facts_cut k rows) ∙ take_at (facts_of_rows (take k rows)) (facts_of_rows (drop k rows)) at (sym here)

pub first_within : (k at : ℕ) (rows : List (List Fact)) (facts : List Fact) → facts ≡ facts_of_rows rows → at ≡ length (facts_of_rows (take k rows)) → at ≤ length facts
first_within k at rows facts is here =
    omega (arith, here, ap length is, ap length (facts_cut k rows), length-append (facts_of_rows (take k rows)) (facts_of_rows (drop k rows)))

-- STRETCHES

-- The rows up to a count, from a stretch on.
abbrev pub EndsIn : List (List (List Fact)) → ℕ → ℕ → ℕ → Type 0
EndsIn full count i left = (last : List (List Fact)) → take count (stretches full ++ last) ≡ stretches (take i full) ++ take left (stretches (drop i full) ++ last)

-- A stretch with fewer rows is passed.
pub stretch_passed : (full : List (List (List Fact))) (count i left : ℕ) (rows : List (List Fact)) → EndsIn full count i left → i < length full → rows ≡ get_or full i rows → length rows < left
    → EndsIn full count (i + 1) (left - length rows)
stretch_passed full count i left rows so lt is more last =
    let there : drop i full ≡ rows ∷ drop (i + 1) full = next in
    let here : take (i + 1) full ≡ take i full ++ rows ∷ [] = take_more full i rows lt ∙ ap (λ r. take i full ++ r ∷ []) (sym is) in
    let long : left ≡ length rows + (left - length rows) = omega (arith, more) in
    so last
    ∙ ap (λ t. stretches (take i full) ++ take left (stretches t ++ last)) there
    ∙ ap (λ t. stretches (take i full) ++ take left t) (append_assoc rows (stretches (drop (i + 1) full)) last)
    ∙ ap (λ k. stretches (take i full) ++ take k (rows ++ (stretches (drop (i + 1) full) ++ last))) long
    ∙ ap (λ t. stretches (take i full) ++ t) (take-append-add rows (stretches (drop (i + 1) full) ++ last) (left - length rows))
    ∙ sym (append_assoc (stretches (take i full)) rows (take (left - length rows) (stretches (drop (i + 1) full) ++ last)))
    ∙ ap (λ t. t ++ take (left - length rows) (stretches (drop (i + 1) full) ++ last)) (sym (front here))
  where
    next : drop i full ≡ rows ∷ drop (i + 1) full
    next =
        let one : suc i ≡ i + 1 = omega arith in
        drop-cons full i rows lt ∙ ap (λ r. r ∷ drop (suc i) full) (sym is) ∙ ap (λ k. rows ∷ drop k full) one

    front : take (i + 1) full ≡ take i full ++ rows ∷ [] → stretches (take (i + 1) full) ≡ stretches (take i full) ++ rows
    front here = ap stretches here ∙ flat_map-append (λ (r : List (List Fact)). r) (take i full) (rows ∷ []) ∙ ap (λ t. stretches (take i full) ++ t) (append-nil rows)

-- The rows end in a stretch.
pub stretch_found : (full : List (List (List Fact))) (count i left : ℕ) (rows : List (List Fact)) → EndsIn full count i left → i < length full → rows ≡ get_or full i rows → left ≤ length rows
    → (last : List (List Fact)) → take count (stretches full ++ last) ≡ stretches (take i full) ++ take left (get_or full i last)
stretch_found full count i left rows so lt is within last =
    let one : suc i ≡ i + 1 = omega arith in
    let there : drop i full ≡ rows ∷ drop (suc i) full = drop-cons full i rows lt ∙ ap (λ r. r ∷ drop (suc i) full) (sym is) in
    so last
    ∙ ap (λ t. stretches (take i full) ++ take left (stretches t ++ last)) there
    ∙ ap (λ t. stretches (take i full) ++ take left t) (append_assoc rows (stretches (drop (suc i) full)) last)
    ∙ ap (λ t. stretches (take i full) ++ t) (take-append-le left rows (stretches (drop (suc i) full) ++ last) within)
    ∙ ap (λ r. stretches (take i full) ++ take left r) (is ∙ get_or_default full i rows last lt)

-- The rows end after all stretches.
pub none_found : (full : List (List (List Fact))) (count i left : ℕ) → EndsIn full count i left → length full ≤ i → (last : List (List Fact))
    → take count (stretches full ++ last) ≡ stretches (take i full) ++ take left (get_or full i last)
none_found full count i left so past last =
    so last ∙ ap (λ t. stretches (take i full) ++ take left (stretches t ++ last)) (drop-all full i past) ∙ ap (λ r. stretches (take i full) ++ take left r) (sym (get_or_past full i last past))
  where
    drop-all : (xs : List (List (List Fact))) (k : ℕ) → length xs ≤ k → drop k xs ≡ []
    drop-all [] zero h = refl
    drop-all [] (suc k) h = refl
    drop-all (x ∷ xs) zero h = absurd (omega (arith, h))
    drop-all (x ∷ xs) (suc k) h = drop-all xs k (omega (arith, h))

-- COUNTS

pub all_taken : (rows : List (List Fact)) (k : ℕ) → length rows ≤ k → rows ≡ take k rows
all_taken [] zero h = refl
all_taken [] (suc k) h = refl
all_taken (row ∷ rows) zero h = absurd (omega (arith, h))
all_taken (row ∷ rows) (suc k) h = ap (λ (t : List (List Fact)). row ∷ t) (all_taken rows k (omega (arith, h)))

-- How many facts the first k rows have, by the end of the k-th.
pub count_before : (k : ℕ) (rows : List (List Fact)) (ends : List ℕ) (at : ℕ) → ends ≡ counts_from 0 rows → k ≤ length rows → (k ≡ 0 → at ≡ 0) → (1 ≤ k → at ≡ get_or ends (k - 1) at)
    → at ≡ length (facts_of_rows (take k rows))
count_before zero rows ends at is within none end = none refl
count_before (suc k) rows ends at is within none end = count_of_first (suc k) rows ends at is (omega arith) within (end (omega arith))

-- The last of the first stretches is taken off.
pub last_of_first : (full front : List (List (List Fact))) (rows last : List (List Fact)) (i : ℕ) → i < length full → take (i + 1) full ≡ front ++ rows ∷ [] → (front ≡ take i full) × (rows ≡ get_or full i last)
last_of_first full front rows last i lt is = by front (take i full) (sym is ∙ take_more full i last lt)
  where
    by : (a b : List (List (List Fact))) → a ++ rows ∷ [] ≡ b ++ get_or full i last ∷ [] → (a ≡ b) × (rows ≡ get_or full i last)
    by [] [] same = let one : rows ≡ get_or full i last = cc same in (refl, one)
    by [] (y ∷ []) same = cc same
    by [] (y ∷ z ∷ b) same = cc same
    by (x ∷ []) [] same = cc same
    by (x ∷ w ∷ a) [] same = cc same
    by (x ∷ a) (y ∷ b) same =
        let first : x ≡ y = cc same in
        let rest : a ++ rows ∷ [] ≡ b ++ get_or full i last ∷ [] = cc same in
        let more = by a b rest in
        (ap (λ h. h ∷ a) first ∙ ap (λ (t : List (List (List Fact))). y ∷ t) more.0, more.1)
