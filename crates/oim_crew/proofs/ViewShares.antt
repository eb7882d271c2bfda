-- How views are split and joined, and what the view that represents all seats has drawn at the
-- end.
use Rattle.std.proofs.Common.{
  ◌≡◌,
  ℕ,
  zero,
  suc,
  ◌+◌,
  ◌^◌,
  ◌<◌,
  min,
  cond,
  eqb,
  length-append,
  List,
  [],
  ◌∷◌,
  ◌++◌,
  map,
  length,
  set,
  sym,
  refl,
  ap,
  ◌∙◌,
  ⊎_elim,
  subst,
  arith,
  Option,
  Some,
  slice_get,
  flat_map,
}
use Rattle.std.specs.List.{sum_by}
use Rattle.std.proofs.lemmas.List.Sums.{sum_by-append, sum_by_push, sum_by-cons}
use Rattle.std.proofs.lemmas.Bool.Decides.{nat_tests}
use mathlib.Core.Option.{some, some-injective, some-ne-none}
use lib.ListN.{get_elem?}
use Rattle.atomic_table.specs.Table.{State, opening, Splits, Joins}
use Rattle.atomic_table.proofs.Lists.{at_snoc, set_else}
use Rattle.oim_crew.specs.declared.view.View.{View}
use Rattle.oim_crew.specs.Numbers.{times, once_below, EachOnceBelow}
use Rattle.oim_crew.specs.state.Views.{word, all_shares, all_finished, all_times, all_lengths, opening_view, spent, Fits, Claimed, one_less, one_seat, joined}
use Rattle.oim_crew.proofs.ViewSums.{sum-set, sum-only}
use Rattle.oim_crew.proofs.ClaimSteps.{AllFit, fit-set}

pub times-append : (k : ℕ) (xs ys : List ℕ) → times k (xs ++ ys) ≡ times k xs + times k ys
times-append k xs ys = sum_by-append (λ (x : ℕ). cond (eqb x k) 1 0) xs ys

-- The count of k in the lists of all seats.
pub times-flat_map : {X : Type 0} (f : X → List ℕ) (k : ℕ) (xs : List X) → times k (flat_map f xs) ≡ sum_by (λ (x : X). times k (f x)) xs
times-flat_map f k [] = refl
times-flat_map {X = X} f k (x ∷ xs) = omega (arith, times-append k (f x) (flat_map f xs), times-flat_map f k xs, sum_by-cons (λ (y : X). times k (f y)) x xs)

none_below : (n k : ℕ) → 0 ≡ once_below (min 0 n) k
none_below n k = grind (arith, nat_tests)

module _ {V : Type 0} where
  abbrev share_of : View V → ℕ
  share_of v = v.share

  abbrev finished_of : View V → ℕ
  finished_of v = v.finished

  abbrev times_of : ℕ → View V → ℕ
  times_of k v = times k v.drawn

  abbrev length_of : View V → ℕ
  length_of v = length v.drawn

  all_home : (items : List V) (k : ℕ) (x : V) → slice_get items k ≡ Some x → get_elem? (map some (map Some items)) k ≡ some (some (Some x))
  all_home [] k x e = cc
  all_home (y ∷ ys) zero x e = ap (λ (o : Option V). some (some o)) e
  all_home (y ∷ ys) (suc k) x e = all_home ys k x e

  at_first : (v w : View V) (id : ℕ) → get_elem? (v ∷ []) id ≡ some w → v ≡ w
  at_first v w zero e = some-injective v w e
  at_first v w (suc id) e = absurd (some-ne-none w (sym e))

module _ {V : Type 0} (items : List V) (workers : ℕ) where
  abbrev St : Type 0
  St = State (Option V) (View V)

  abbrev with_views : St → List (View V) → St
  with_views s views = record { words = s.words; homes = s.homes; views = views }

  -- The rule is about sums over the views.
  same_sums : (s : St) (views : List (View V)) → Claimed items workers s → all_shares views ≡ all_shares s.views → all_finished views ≡ all_finished s.views
      → ((k : ℕ) → all_times k views ≡ all_times k s.views) → all_lengths views ≡ all_lengths s.views → AllFit items workers views → Claimed items workers (with_views s views)
  same_sums s views r shares ends draws lengths fits = let low = r.low in let high = r.high in record {
    one_word = r.one_word;
    room = r.room;
    shares = shares ∙ r.shares;
    seats = fits;
    numbers = λ k. draws k ∙ r.numbers k;
    lengths = lengths ∙ r.lengths;
    waits = r.waits;
    low = λ some_ended. low (omega arith);
    high = omega arith;
  }

  pub begins : length items + workers < 2 ^ 64 → Claimed items workers (opening (0 ∷ []) (map Some items) (opening_view items workers))
  begins room = record {
    one_word = refl;
    room = room;
    shares = omega arith;
    seats = λ id v at. subst (λ (u : View V). Fits items workers u) (at_first (opening_view items workers) v id at) (omega arith, (λ _. refl), λ _. (refl, refl));
    numbers = λ k. none_below (length items) k;
    lengths = omega arith;
    waits = λ k x le e. all_home items k x e;
    low = λ none. absurd (omega arith);
    high = omega arith;
  }

  fit-snoc : (views : List (View V)) (w : View V) → AllFit items workers views → Fits items workers w → AllFit items workers (views ++ w ∷ [])
  fit-snoc views w all fits j v at = ⊎_elim (λ old. all j v old) (λ new. subst (λ (u : View V). Fits items workers u) new fits) (at_snoc views w v j at)

  pub cuts : (id : ℕ) (v : View V) → 1 < v.share → v.finished ≡ 0 → Splits (Claimed items workers) id v (one_less v) (one_seat v)
  cuts id v more none s r at =
      let fit = r.seats id v at in let same = fit.2 (omega arith) in let rest : List (View V) = set s.views id (one_less v) in
      let shares = sum-set share_of s.views id v (one_less v) at in let shares' = sum_by_push share_of rest (one_seat v) in
      let ends = sum-set finished_of s.views id v (one_less v) at in let ends' = sum_by_push finished_of rest (one_seat v) in
      same_sums s (rest ++ one_seat v ∷ []) r (omega arith) (omega arith)
      (λ k. omega (arith, sum-set (times_of k) s.views id v (one_less v) at, sum_by_push (times_of k) rest (one_seat v)))
      (omega (arith, sum-set length_of s.views id v (one_less v) at, sum_by_push length_of rest (one_seat v)))
      (fit-snoc rest (one_seat v) (fit-set items workers s.views id (one_less v) r.seats (omega arith, (λ none. absurd (omega arith)), λ _. same))
      (omega arith, (λ none. refl), λ _. same))

  pub sheds : (id : ℕ) (v : View V) → Splits (Claimed items workers) id v spent v
  sheds id v s r at =
      let fit = r.seats id v at in let rest : List (View V) = set s.views id spent in
      let shares = sum-set share_of s.views id v spent at in let shares' = sum_by_push share_of rest v in
      let ends = sum-set finished_of s.views id v spent at in let ends' = sum_by_push finished_of rest v in
      same_sums s (rest ++ v ∷ []) r (omega arith) (omega arith)
      (λ k. omega (arith, sum-set (times_of k) s.views id v spent at, sum_by_push (times_of k) rest v))
      (omega (arith, sum-set length_of s.views id v spent at, sum_by_push length_of rest v))
      (fit-snoc rest v (fit-set items workers s.views id spent r.seats (omega arith, (λ none. refl), λ some. absurd (omega arith))) fit)

  pub gathers : (id : ℕ) (v : View V) (other : ℕ) (w : View V) → 0 < v.share → Joins (Claimed items workers) id v other w (joined v w) spent
  gathers id v other w one s r at apart at' =
      let fit = r.seats id v at in let fit' = r.seats other w (sym (set_else s.views id other (joined v w) apart) ∙ at') in
      let left = fit.0 in let left' = fit'.0 in
      let mid : List (View V) = set s.views id (joined v w) in
      let shares = sum-set share_of s.views id v (joined v w) at in let shares' = sum-set share_of mid other w spent at' in
      let ends = sum-set finished_of s.views id v (joined v w) at in let ends' = sum-set finished_of mid other w spent at' in
      same_sums s (set mid other spent) r (omega arith) (omega arith)
      (λ k. omega (arith, sum-set (times_of k) s.views id v (joined v w) at, sum-set (times_of k) mid other w spent at', times-append k v.drawn w.drawn))
      (omega (arith, sum-set length_of s.views id v (joined v w) at, sum-set length_of mid other w spent at', length-append v.drawn w.drawn))
      (fit-set items workers mid other spent
      (fit-set items workers s.views id (joined v w) r.seats (omega arith, (λ none. absurd (omega arith)), λ _. fit.2 one))
      (omega arith, (λ none. refl), λ some. absurd (omega arith)))

  -- The view that represents all seats has drawn each number once.
  pub settles : (s : St) (id : ℕ) (v : View V) → Claimed items workers s → get_elem? s.views id ≡ some v → v.share ≡ workers → 0 < v.finished → EachOnceBelow (length items) v.drawn
  settles s id v r at whole ended k =
      let all : all_shares s.views ≡ v.share = r.shares ∙ sym whole in
      let draws = sum-only (times_of k) share_of spent refl refl s.views id v at all (λ j u e none. ap (λ (l : List ℕ). times k l) ((r.seats j u e).1 none)) in
      let ends = sum-only finished_of share_of spent refl refl s.views id v at all (λ j u e none. let le = (r.seats j u e).0 in omega arith) in
      let low = r.low (omega arith) in
      let same : min (word s) (length items) ≡ length items = omega arith in
      sym draws ∙ r.numbers k ∙ ap (λ (n : ℕ). once_below n k) same

  pub begins_with : (there : List V) (slots : List (Option V)) → there ≡ items → slots ≡ map Some items → length items + workers < 2 ^ 64
      → Claimed there workers (opening (0 ∷ []) slots (opening_view there workers))
  begins_with there slots same filled room =
      subst (λ (l : List V). Claimed l workers (opening (0 ∷ []) slots (opening_view l workers))) (sym same)
      (subst (λ (l : List (Option V)). Claimed items workers (opening (0 ∷ []) l (opening_view items workers))) (sym filled) (begins room))
