-- Each step at the board of the claims keeps their rule.
use Rattle.std.proofs.Common.{
  ◌≡◌,
  ℕ,
  zero,
  suc,
  ◌+◌,
  ◌%◌,
  ◌^◌,
  ◌<◌,
  ◌≤◌,
  ◌≢◌,
  min,
  Bool,
  cond,
  eqb,
  List,
  [],
  ◌∷◌,
  ◌++◌,
  length,
  get_or,
  set,
  sym,
  refl,
  ap,
  ◌∙◌,
  ⊎_elim,
  subst,
  arith,
  length-set,
  length-append,
  get_or-set_same,
  lt_of_not-le,
  Option,
  Some,
  slice_get,
}
use Rattle.std.proofs.lemmas.List.Sums.{sum_by_push}
use Rattle.std.proofs.lemmas.Bool.Decides.{nat_tests}
use mathlib.Core.Logic.{dite}
use mathlib.Core.Option.{some}
use native.Mathlib.Decide.{dec_le}
use lib.ListN.{get_elem?}
use Rattle.atomic_table.specs.Table.{State, Me, keeps, takes, stepped, rest, Allows}
use Rattle.atomic_table.specs.Seated.{TableId}
use Rattle.atomic_table.proofs.Lists.{at_set, set_else}
use Rattle.oim_crew.specs.declared.view.View.{View}
use Rattle.oim_crew.specs.Numbers.{times, once_below}
use Rattle.oim_crew.specs.Claims.{Drawer}
use Rattle.oim_crew.specs.state.Views.{drawer, spent, word, all_shares, all_finished, all_times, all_lengths, Fits, Claimed, Told}
use Rattle.oim_crew.proofs.ViewSums.{sum-set, sum-le}

once_more : (n len k : ℕ) → n < len → once_below (min (n + 1) len) k ≡ once_below (min n len) k + cond (eqb n k) 1 0
once_more n len k h = grind (arith, nat_tests)

times-push : (k n : ℕ) (drawn : List ℕ) → times k (drawn ++ n ∷ []) ≡ times k drawn + cond (eqb n k) 1 0
times-push k n drawn = sum_by_push (λ (x : ℕ). cond (eqb x k) 1 0) drawn n

there : {V : Type 0} (items : List V) (n : ℕ) → n < length items → (x : V) × (slice_get items n ≡ Some x)
there [] n h = absurd (omega arith)
there (x ∷ xs) zero h = (x, refl)
there (x ∷ xs) (suc n) h = there xs n (omega arith)

module _ {V : Type 0} (items : List V) (workers : ℕ) where
  abbrev St : Type 0
  St = State (Option V) (View V)

  abbrev M : Type 0
  M = Me (Option V) (View V)

  abbrev pub AllFit : List (View V) → Type 0
  AllFit views = (id : ℕ) (v : View V) → get_elem? views id ≡ some v → Fits items workers v

  pub fit-set : (views : List (View V)) (id : ℕ) (w : View V) → AllFit views → Fits items workers w → AllFit (set views id w)
  fit-set views id w all fits j v at = ⊎_elim (λ t. subst (λ (u : View V). Fits items workers u) t.1 fits) (λ t. all j v t.1) (at_set views id j w v at)

  finished-le : (views : List (View V)) → AllFit views → all_finished views ≤ all_shares views
  finished-le views all = sum-le (λ (v : View V). v.finished) (λ (v : View V). v.share) views (λ i v at. (all i v at).0)

  -- The view after a draw of n, and after a draw that found no item.
  abbrev drew : View V → ℕ → View V
  drew v n = record v { drawn = v.drawn ++ n ∷ [] }

  abbrev ended : View V → View V
  ended v = record v { finished = v.finished + 1 }

  takes_one : (s : St) (r : Claimed items workers s) (id : ℕ) (me : M) → 0 < me.0.share → get_elem? s.views id ≡ some me.0 → word s < length items → (x : V)
      → Claimed items workers (stepped s 0 (word s + 1) id me.1 (drew me.0 (word s)) (takes (word s) (Some x)))
  takes_one s r id me share at more x =
      let n : ℕ = word s in let wide = r.one_word in let room = r.room in
      let is : get_or (set s.words 0 (n + 1)) 0 0 ≡ n + 1 = get_or-set_same s.words 0 (n + 1) 0 (omega arith) in
      let fit = r.seats id me.0 at in
      let shares = sum-set (λ (v : View V). v.share) s.views id me.0 (drew me.0 n) at in
      let ends = sum-set (λ (v : View V). v.finished) s.views id me.0 (drew me.0 n) at in
      let low = r.low in
      record {
        one_word = length-set s.words 0 (n + 1) ∙ wide;
        room = room;
        shares = (let old = r.shares in omega arith);
        seats = fit-set s.views id (drew me.0 n) r.seats (fit.0, (λ none. absurd (omega arith)), fit.2);
        numbers = (λ k.
            let draws = sum-set (λ (v : View V). times k v.drawn) s.views id me.0 (drew me.0 n) at in let old = r.numbers k in
            subst (λ (m : ℕ). all_times k (set s.views id (drew me.0 n)) ≡ once_below (min m (length items)) k) (sym is)
            (omega (arith, once_more n (length items) k more, times-push k n me.0.drawn)));
        lengths =
            (let longer = sum-set (λ (v : View V). length v.drawn) s.views id me.0 (drew me.0 n) at in let old = r.lengths in
            subst (λ (m : ℕ). all_lengths (set s.views id (drew me.0 n)) ≡ min m (length items)) (sym is)
            (omega (arith, length-append me.0.drawn (n ∷ []))));
        waits = (λ k y le slot. let other : k ≢ n = (λ e. omega arith) in set_else s.homes n k _ other ∙ r.waits k y (omega arith) slot);
        low = (λ some_ended. absurd (omega (arith, low (omega arith))));
        high = omega arith;
      }

  finds_none : (s : St) (r : Claimed items workers s) (id : ℕ) (me : M) → me.0.finished < me.0.share → get_elem? s.views id ≡ some me.0 → length items ≤ word s
      → Claimed items workers (stepped s 0 (word s + 1) id me.1 (ended me.0) keeps)
  finds_none s r id me unended at none_left =
      let n : ℕ = word s in let wide = r.one_word in let room = r.room in
      let is : get_or (set s.words 0 (n + 1)) 0 0 ≡ n + 1 = get_or-set_same s.words 0 (n + 1) 0 (omega arith) in
      let fit = r.seats id me.0 at in
      let shares = sum-set (λ (v : View V). v.share) s.views id me.0 (ended me.0) at in
      let ends = sum-set (λ (v : View V). v.finished) s.views id me.0 (ended me.0) at in
      let high = r.high in
      record {
        one_word = length-set s.words 0 (n + 1) ∙ wide;
        room = room;
        shares = (let old = r.shares in omega arith);
        seats = fit-set s.views id (ended me.0) r.seats ((omega arith), (λ none. absurd (omega arith)), fit.2);
        numbers = (λ k.
            let draws = sum-set (λ (v : View V). times k v.drawn) s.views id me.0 (ended me.0) at in let old = r.numbers k in
            let same : min (n + 1) (length items) ≡ min n (length items) = omega arith in
            subst (λ (m : ℕ). all_times k (set s.views id (ended me.0)) ≡ once_below m k) (sym (ap (λ (m : ℕ). min m (length items)) is ∙ same))
            (omega arith));
        lengths =
            (let longer = sum-set (λ (v : View V). length v.drawn) s.views id me.0 (ended me.0) at in let old = r.lengths in
            subst (λ (m : ℕ). all_lengths (set s.views id (ended me.0)) ≡ min m (length items)) (sym is) (omega arith));
        waits = (λ k y le slot. r.waits k y (omega arith) slot);
        low = (λ some_ended. omega arith);
        high = omega arith;
      }

  -- A view has at most as many numbers as were drawn.
  few : (s : St) (r : Claimed items workers s) (id : ℕ) (v : View V) → get_elem? s.views id ≡ some v → length v.drawn ≤ word s
  few s r id v at = let old = r.lengths in omega (arith, sum-set (λ (u : View V). length u.drawn) s.views id v spent at)

  -- The word stays below 2 ^ 64.
  no_wrap : (s : St) (r : Claimed items workers s) (id : ℕ) (me : M) → me.0.finished < me.0.share → get_elem? s.views id ≡ some me.0 → word s + 1 < 2 ^ 64
  no_wrap s r id me unended at =
      let fit = r.seats id me.0 at in let room = r.room in let high = r.high in let shares = r.shares in
      let share' = sum-set (λ (v : View V). v.share) s.views id me.0 (ended me.0) at in
      let ends = sum-set (λ (v : View V). v.finished) s.views id me.0 (ended me.0) at in
      let le = finished-le (set s.views id (ended me.0)) (fit-set s.views id (ended me.0) r.seats ((omega arith), (λ none. absurd (omega arith)), fit.2)) in
      omega arith

  pub draws : (slots id : ℕ) (me : M) → me.0.items ≡ items → me.0.finished < me.0.share
      → Allows (Claimed items workers) slots id me 0 (λ n. (n + 1) % 2 ^ 64) (Told me)
  draws slots id me mine unended s r _ at small =
      let n : ℕ = word s in let room = no_wrap s r id me unended at in let fits : (n + 1) % 2 ^ 64 ≡ n + 1 = omega arith in
      let same : length me.0.items ≡ length items = ap (λ (l : List V). length l) mine in
      dite (dec_le (length items) n)
      (λ none_left. (
        ended me.0,
        keeps,
        tt,
        subst (λ (m : ℕ). Claimed items workers (stepped s 0 m id me.1 (ended me.0) keeps)) (sym fits) (finds_none s r id me unended at none_left),
        ((λ some_left. absurd (omega arith)), λ _. refl),
      ))
      (λ some_left.
      let more : n < length items = lt_of_not-le some_left in
      let found = there items n more in let x : V = found.0 in let slot : slice_get items n ≡ Some x = found.1 in (
        drew me.0 n,
        takes n (Some x),
        r.waits n x (omega arith) slot,
        subst (λ (m : ℕ). Claimed items workers (stepped s 0 m id me.1 (drew me.0 n) (takes n (Some x)))) (sym fits) (takes_one s r id me (omega arith) at more x),
        ((λ _. (x, subst (λ (l : List V). slice_get l n ≡ Some x) (sym mine) slot, (omega (arith, few s r id me.0 at)), refl)), λ none_left. absurd (omega arith)),
      ))

module _ {S : Type 0} where
  -- The slot taken last is the first that the seat carries.
  pub on_top : (c d : List (ℕ × S)) (k : ℕ × S) → d ≡ k ∷ c → d ≡ k ∷ rest d
  on_top c d k e = e ∙ ap (λ (l : List (ℕ × S)). k ∷ rest l) (sym e)

-- The item taken out is the one in the slot.
pub same_item : {V : Type 0} (c d e : List (ℕ × Option V)) (j k : ℕ) (x y : V) (o : Option V) → d ≡ (k, Some x) ∷ c → d ≡ (j, o) ∷ e → o ≡ Some y → x ≡ y
same_item {V = V} c d e j k x y o p q r =
    let pair : ◌≡◌ {A = ℕ × Option V} (k, Some x) (j, o) = cc in let inner : Some x ≡ Some y = ap (λ (b : ℕ × Option V). b.1) pair ∙ r in cc

-- The seat after a draw of n.
pub drawn_one : {V : Type 0} (z y : TableId) (v w : View V) (finished : Bool) (n : ℕ) (before : Drawer V) → drawer z v finished ≡ before → y ≡ z
    → w ≡ record v { drawn = v.drawn ++ n ∷ [] } → drawer y w finished ≡ record before { numbers = before.numbers ++ n ∷ [] }
drawn_one {V = V} z y v w finished n before is same after =
    (λ i. drawer (same i) (after i) finished) ∙ ap (λ (d : Drawer V). record d { numbers = d.numbers ++ n ∷ [] }) is
