-- Lists of drains whose first ones were taken to their endings.
use Rattle.std.specs.Prelude.{◌≡◌, ℕ, ◌<◌, ◌≤◌, ◌+◌, zero, suc, List, [], ◌∷◌, ◌++◌, length, slice_set}
use Rattle.std.proofs.Common.{arith, refl, ap, sym, ◌∙◌, ◌≢◌, append_assoc, append-nil, get_or, get_or-set_other, get_or-set_same, below_more}
use Rattle.std.proofs.Math.ListN.{length-set}
use Rattle.oim_ring.specs.Items.{EndsOnce}
use Rattle.oim_ring.specs.Ends.{DrainView}
use Rattle.oim_merge.specs.Histories.{all_of}
use Rattle.oim_merge.specs.Merging.{taken_of, rings_of}

abbrev pub FreshFrom : List DrainView → ℕ → Type 0
FreshFrom ds i = (k : ℕ) (d : DrainView) → i ≤ k → k < length ds → (get_or ds k d).taken ≡ []

fresh_rest : (x : DrainView) (xs : List DrainView) (i : ℕ) → FreshFrom (x ∷ xs) (suc i) → FreshFrom xs i
fresh_rest x xs i fresh = λ k d le lt. fresh (suc k) d (omega arith) (omega arith)

pub fresh_all : (ds : List DrainView) → FreshFrom ds zero → all_of (taken_of ds) ≡ []
fresh_all [] fresh = refl
fresh_all (x ∷ xs) fresh =
    let first : x.taken ≡ [] = fresh zero x (omega arith) (omega arith) in
    let rest : FreshFrom xs zero = λ k d le lt. fresh (suc k) d (omega arith) (omega arith) in
    ap (λ l. l ++ all_of (taken_of xs)) first ∙ fresh_all xs rest

-- A drain taken to its ending adds its items.
pub all_set : (ds : List DrainView) (i : ℕ) (d : DrainView) → i < length ds → FreshFrom ds i → all_of (taken_of (slice_set ds i d)) ≡ all_of (taken_of ds) ++ d.taken
all_set [] i d lt fresh = absurd (omega arith)
all_set (x ∷ xs) zero d lt fresh =
    let none : all_of (taken_of (x ∷ xs)) ≡ [] = fresh_all (x ∷ xs) fresh in
    let rest : FreshFrom xs zero = λ k e le lt'. fresh (suc k) e (omega arith) (omega arith) in
    ap (λ l. d.taken ++ l) (fresh_all xs rest) ∙ (append-nil d.taken ∙ ap (λ l. l ++ d.taken) (sym none))
all_set (x ∷ xs) (suc i) d lt fresh =
    ap (λ l. x.taken ++ l) (all_set xs i d (omega arith) (fresh_rest x xs i fresh)) ∙ sym (append_assoc x.taken (all_of (taken_of xs)) d.taken)

pub rings_set : (ds : List DrainView) (i : ℕ) (d e : DrainView) → i < length ds → d.ring ≡ (get_or ds i e).ring → rings_of (slice_set ds i d) ≡ rings_of ds
rings_set [] i d e lt same = refl
rings_set (x ∷ xs) zero d e lt same = ap (λ r. r ∷ rings_of xs) same
rings_set (x ∷ xs) (suc i) d e lt same = ap (λ rs. x.ring ∷ rs) (rings_set xs i d e (omega arith) same)

pub fresh_set : (ds : List DrainView) (i : ℕ) (d : DrainView) → i < length ds → FreshFrom ds i → FreshFrom (slice_set ds i d) (i + 1)
fresh_set ds i d lt fresh = λ k e le lt'.
    let ne : k ≢ i = omega arith in
    let within : k < length ds = omega (arith, length-set ds i d) in
    rw get_or-set_other (fresh k e (omega arith) within)

pub ended_set : (ds : List DrainView) (i : ℕ) (d : DrainView) → i < length ds → ((k : ℕ) (e : DrainView) → k < i → EndsOnce (get_or ds k e).taken) → EndsOnce d.taken
    → (k : ℕ) (e : DrainView) → k < i + 1 → EndsOnce (get_or (slice_set ds i d) k e).taken
ended_set ds i d lt ended here = λ k e below.
    below_more (λ (n : ℕ). EndsOnce (get_or (slice_set ds i d) n e).taken) i
    (λ n h. let ne : n ≢ i = omega arith in rw get_or-set_other (ended n e h))
    (rw get_or-set_same here) k below
