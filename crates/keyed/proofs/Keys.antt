-- Each step keeps the rule of a channel whose items match one key.
use Rattle.std.proofs.Common.{◌≡◌, ℕ, zero, suc, List, [], ◌∷◌, ◌++◌, set, Option, Some, None, sym, refl, ◌∙◌, subst, inl, inr, ⊎_elim, true≢false}
use Rattle.std.specs.Prelude.{⊤, IfSome, IsSome}
use mathlib.Core.Option.{some, some-ne-none, some-injective}
use lib.ListN.{get_elem?}
use Rattle.crossbeam_channel.specs.Fifo.{Pushes, Pops, Forks}
use Rattle.keyed.specs.state.Keyed.{AllFit, AllKnow, IsKeyed}

-- Another end that knows the key.
snoc_know : {K : Type 0} (k : K) (views : List (Option K)) → AllKnow k views → AllKnow k (views ++ Some k ∷ [])
snoc_know k [] all zero v at = sym (some-injective (Some k) v at)
snoc_know k [] all (suc j) v at = absurd (some-ne-none v (sym at))
snoc_know k (u ∷ us) all zero v at = all zero v at
snoc_know k (u ∷ us) all (suc j) v at = snoc_know k us (λ p w e. all (suc p) w e) j v at

-- An end that still knows the key.
set_know : {K : Type 0} (k : K) (views : List (Option K)) (port : ℕ) → AllKnow k views → AllKnow k (set views port (Some k))
set_know k [] port all j v at = all j v at
set_know k (u ∷ us) zero all zero v at = sym (some-injective (Some k) v at)
set_know k (u ∷ us) zero all (suc j) v at = all (suc j) v at
set_know k (u ∷ us) (suc p) all zero v at = all zero v at
set_know k (u ∷ us) (suc p) all (suc j) v at = set_know k us p (λ q w e. all (suc q) w e) j v at

-- The only end learns the key.
one_know : {K : Type 0} (k : K) (port : ℕ) (u : Option K) → get_elem? (u ∷ []) port ≡ some u → AllKnow k (set (u ∷ []) port (Some k))
one_know k zero u was zero v at = sym (some-injective (Some k) v at)
one_know k zero u was (suc j) v at = absurd (some-ne-none v (sym at))
one_know k (suc p) u was j v at = absurd (some-ne-none u (sym was))

snoc_fit : {K T : Type 0} (fits : K → T → Type 0) (k : K) (items : List T) (x : T) → AllFit fits k items → fits k x → AllFit fits k (items ++ x ∷ [])
snoc_fit fits k [] x all mine = (mine, tt)
snoc_fit fits k (y ∷ ys) x all mine = (all.0, snoc_fit fits k ys x all.1 mine)

some_is : {K : Type 0} (a b : K) → Some a ≡ Some b → a ≡ b
some_is a b is = search

from_some : {K : Type 0} → Option K → Type 0
from_some None = ⊥
from_some (Some a) = ⊤

none_is : {K : Type 0} (a : K) → None ≡ Some a → ⊥
unfolding from_some
none_is a is = subst from_some (sym is) tt

is_cons : {T : Type 0} → List T → Type 0
is_cons [] = ⊥
is_cons (x ∷ xs) = ⊤

no_item : {T : Type 0} (x : T) (xs : List T) → x ∷ xs ≡ [] → ⊥
unfolding is_cons
no_item x xs is = subst is_cons is tt

alone_none : {K : Type 0} (views : List (Option K)) (pass : ℕ) (v : Option K) → views ≡ None ∷ [] → get_elem? views pass ≡ some v → None ≡ v
alone_none views pass v is at = by pass (subst (λ l. get_elem? l pass ≡ some v) is at)
  where
    by : (p : ℕ) → get_elem? (None ∷ []) p ≡ some v → None ≡ v
    by zero at' = some-injective None v at'
    by (suc p) at' = absurd (some-ne-none v (sym at'))

module _ {K T : Type 0} (fits : K → T → Type 0) where
  -- The first item fixes the key.
  pub first_sent : (n pass : ℕ) (v : Option K) (x : T) (key : T → Option K) → v ≡ None → IsSome (key x) → IfSome (key x) (λ k. fits k x)
      → Pushes (IsKeyed fits) n pass v x (λ w. w ≡ key x)
  first_sent n pass v x key none known mine items views room holds at = by (key x) refl known mine
    where
      by : (o : Option K) → key x ≡ o → IsSome o → IfSome o (λ k. fits k x) → (w : Option K) × IsKeyed fits (items ++ x ∷ []) (set views pass w) × (w ≡ key x)
      by None is known' mine' = absurd (true≢false (sym known'))
      by (Some k) is known' mine' = ⊎_elim
          (λ (alone : (items ≡ []) × (views ≡ None ∷ [])). (
            Some k,
            inr (k, rw alone.1 (one_know k pass None (rw (alone.1, none) at at)), rw alone.0 (mine', tt)),
            sym is,
          ))
          (λ (all : (j : K) × AllKnow j views × AllFit fits j items). absurd (none_is all.0 (sym none ∙ all.1 pass v at)))
          holds

  -- A later item matches the key.
  pub more_sent : (n pass : ℕ) (v : Option K) (x : T) → IsSome v → IfSome v (λ k. fits k x) → Pushes (IsKeyed fits) n pass v x (λ w. w ≡ v)
  more_sent n pass None x known mine items views room holds at = absurd (true≢false (sym known))
  more_sent n pass (Some k) x known mine items views room holds at = ⊎_elim
      (λ (alone : (items ≡ []) × (views ≡ None ∷ [])). absurd (none_is k (alone_none views pass (Some k) alone.1 at)))
      (λ (all : (j : K) × AllKnow j views × AllFit fits j items).
      let is : all.0 ≡ k = some_is all.0 k (sym (all.1 pass (Some k) at)) in (
        Some k,
        inr (all.0, subst (λ w. AllKnow all.0 (set views pass (Some w))) is (set_know all.0 views pass all.1), snoc_fit fits all.0 items x all.2 (subst (λ j. fits j x) (sym is) mine)),
        refl,
      ))
      holds

  -- A received item matches the key.
  pub taken : (pass : ℕ) (v : Option K) → Pops (IsKeyed fits) pass v (λ x w. (w ≡ v) × IfSome v (λ k. fits k x))
  taken pass None x items views holds at = ⊎_elim
      (λ (alone : (x ∷ items ≡ []) × (views ≡ None ∷ [])). absurd (no_item x items alone.0))
      (λ (all : (j : K) × AllKnow j views × AllFit fits j (x ∷ items)). absurd (none_is all.0 (all.1 pass None at)))
      holds
  taken pass (Some k) x items views holds at = ⊎_elim
      (λ (alone : (x ∷ items ≡ []) × (views ≡ None ∷ [])). absurd (no_item x items alone.0))
      (λ (all : (j : K) × AllKnow j views × AllFit fits j (x ∷ items)).
      let is : all.0 ≡ k = some_is all.0 k (sym (all.1 pass (Some k) at)) in (
        Some k,
        inr (all.0, subst (λ w. AllKnow all.0 (set views pass (Some w))) is (set_know all.0 views pass all.1), all.2.1),
        (refl, subst (λ j. fits j x) is all.2.0),
      ))
      holds

  -- Two ends know the key that one end knew.
  pub forked : (pass : ℕ) (v : Option K) → IsSome v → Forks (IsKeyed fits) pass v v v
  forked pass None known items views holds at = absurd (true≢false (sym known))
  forked pass (Some k) known items views holds at = ⊎_elim
      (λ (alone : (items ≡ []) × (views ≡ None ∷ [])). absurd (none_is k (alone_none views pass (Some k) alone.1 at)))
      (λ (all : (j : K) × AllKnow j views × AllFit fits j items).
      let is : all.0 ≡ k = some_is all.0 k (sym (all.1 pass (Some k) at)) in
      inr (all.0, subst (λ w. AllKnow all.0 (set views pass (Some w) ++ Some w ∷ [])) is (snoc_know all.0 (set views pass (Some all.0)) (set_know all.0 views pass all.1)), all.2))
      holds

pub begins : {K T : Type 0} (fits : K → T → Type 0) → IsKeyed fits [] (None ∷ [])
begins fits = inl (refl, refl)
