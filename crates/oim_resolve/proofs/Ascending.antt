-- The names of a cell's levels ascend, and so do those of its fact.
use Rattle.std.proofs.Common.{◌≡◌, ℕ, Bool, true, false, List, [], ◌∷◌, ◌++◌, map, Option, Some, None, Result, Ok, refl, sym, ap, subst, ◌∙◌}
use Rattle.std.specs.List.{AllByRecursion, fold, flat_map}
use Rattle.std.specs.Ordering.{match_ordering, nat_cmp, ordering_reverse}
use Rattle.std.specs.Cmp.Lexicographic.{slice_cmp, nat_list_cmp_total}
use Rattle.std.specs.declared.cmp.Ordering.{Ordering}
use Rattle.std.specs.declared.cmp.Ordering.TheVariants.{Less, Equal, Greater}
use Rattle.oim_report.specs.declared.data.Level.{Level}
use Rattle.oim_report.specs.declared.kind.Kind.{Kind}
use Rattle.oim_resolve.specs.FactParts.{FactParts as Fact}
use Rattle.oim_resolve.specs.declared.fact.CellFault.{CellFault}
use Rattle.oim_resolve.specs.Cell.{Cell}
use Rattle.oim_resolve.specs.Faults.{unless}
use Rattle.oim_resolve.specs.Facts.{fact_of, cell_result, named_entry, dimension_entry, concept_kind}
use Rattle.oim_resolve.specs.Written.{put_name, names, levels}
use Rattle.oim_resolve.specs.Order.{IsAscending, HasNamesInOrder}
use Rattle.oim_resolve.proofs.Outcomes.{Together, all_given, cell_result-outcome, outcome, read_value, rest}

abbrev pub order : List ℕ → List ℕ → Ordering
order = slice_cmp nat_cmp

-- k precedes each of the names.
abbrev pub Precedes : List ℕ → List (List ℕ) → Type 0
Precedes k ks = AllByRecursion (λ j. order k j ≡ Less) ks

pub turned : (k n : List ℕ) → order n k ≡ Greater → order k n ≡ Less
turned k n e = nat_list_cmp_total.antisymm k n ∙ ap ordering_reverse e

pub earlier : (n k : List ℕ) (ks : List (List ℕ)) → order n k ≡ Less → Precedes k ks → Precedes n ks
earlier n k [] e h = tt
earlier n k (j ∷ ks) e h = (nat_list_cmp_total.trans n k j e h.0, earlier n k ks e h.1)

-- The three cases of a name inserted before, at or after the first.
put_case : (P : List (List ℕ) → Type 0) (k n : List ℕ) (ks : List (List ℕ)) (o : Ordering)
    → (o ≡ Less → P (n ∷ k ∷ ks)) → (o ≡ Equal → P (k ∷ ks)) → (o ≡ Greater → P (k ∷ put_name ks n)) → P (match_ordering o (n ∷ k ∷ ks) (k ∷ ks) (k ∷ put_name ks n))
put_case P k n ks Less a b d = a refl
put_case P k n ks Equal a b d = b refl
put_case P k n ks Greater a b d = d refl

Precedes-put : (m n : List ℕ) (ks : List (List ℕ)) → order m n ≡ Less → Precedes m ks → Precedes m (put_name ks n)
Precedes-put m n [] e h = (e, tt)
Precedes-put m n (k ∷ ks) e h =
    put_case (Precedes m) k n ks (order n k) (λ _. (e, h)) (λ _. h) (λ _. (h.0, Precedes-put m n ks e h.1))

pub IsAscending-put : (n : List ℕ) (ks : List (List ℕ)) → IsAscending ks → IsAscending (put_name ks n)
IsAscending-put n [] h = (tt, tt)
IsAscending-put n (k ∷ ks) h =
    put_case IsAscending k n ks (order n k) (λ e. ((e, earlier n k ks e h.0), h)) (λ _. h)
    (λ e. (Precedes-put k n ks (turned k n e) h.0, IsAscending-put n ks h.1))

pub IsAscending-fold : (ns ks : List (List ℕ)) → IsAscending ks → IsAscending (fold put_name ks ns)
IsAscending-fold [] ks h = h
IsAscending-fold (n ∷ ns) ks h = IsAscending-fold ns (put_name ks n) (IsAscending-put n ks h)

pub IsAscending-names : (ls : List Level) → IsAscending (names ls)
IsAscending-names [] = tt
IsAscending-names (l ∷ ls) = IsAscending-fold (map (λ e. e.0) l.dimensions) (names ls) (IsAscending-names ls)

-- Names inserted into ascending names, and the names of levels.
pub ascending_puts : (ks js ns : List (List ℕ)) → ks ≡ fold put_name js ns → IsAscending js → IsAscending ks
ascending_puts ks js ns e h = subst IsAscending (sym e) (IsAscending-fold ns js h)

pub ascending_names : (ks : List (List ℕ)) (ls : List Level) → ks ≡ names ls → IsAscending ks
ascending_names ks ls e = subst IsAscending (sym e) (IsAscending-names ls)

-- The entries of ascending names.
abbrev entries : (List ℕ → Option (Option (List ℕ))) → List (List ℕ) → List (List ℕ × Option (List ℕ))
entries f ns = flat_map (λ n. named_entry n (f n)) ns

one_more : (P : List (List ℕ) → Type 0) (n : List ℕ) (o : Option (Option (List ℕ))) (ds : List (List ℕ × Option (List ℕ)))
    → P (map (λ d. d.0) ds) → P (n ∷ map (λ d. d.0) ds) → P (map (λ d. d.0) (named_entry n o ++ ds))
one_more P n None ds a b = a
one_more P n (Some v) ds a b = b

Precedes-entries : (f : List ℕ → Option (Option (List ℕ))) (m : List ℕ) (ns : List (List ℕ)) → Precedes m ns → Precedes m (map (λ d. d.0) (entries f ns))
Precedes-entries f m [] h = tt
Precedes-entries f m (n ∷ ns) h = one_more (Precedes m) n (f n) (entries f ns) (Precedes-entries f m ns h.1) (h.0, Precedes-entries f m ns h.1)

IsAscending-entries : (f : List ℕ → Option (Option (List ℕ))) (ns : List (List ℕ)) → IsAscending ns → IsAscending (map (λ d. d.0) (entries f ns))
IsAscending-entries f [] h = tt
IsAscending-entries f (n ∷ ns) h = one_more IsAscending n (f n) (entries f ns) (IsAscending-entries f ns h.1) (Precedes-entries f n ns h.0, IsAscending-entries f ns h.1)

pub fact_ascends : (c : Cell) → IsAscending (map (λ d. d.0) (fact_of c).dimensions)
unfolding fact_of
fact_ascends c = IsAscending-entries (dimension_entry c (concept_kind c)) (names (levels c)) (IsAscending-names (levels c))

-- The dimensions that are read for a fact.
pub given_ascends : (c : Cell) (k : Kind) (w : Together) (r : Result Together CellFault) → r ≡ Ok w → r ≡ unless (rest c k) (Ok (all_given c k)) → IsAscending (map (λ d. d.0) w.0.0)
given_ascends c k w r is e =
    let parts : w ≡ all_given c k = read_value (rest c k) (all_given c k) w (sym is ∙ e) in
    subst (λ (x : Together). IsAscending (map (λ d. d.0) x.0.0)) (sym parts) (IsAscending-entries (dimension_entry c k) (names (levels c)) (IsAscending-names (levels c)))

of_outcome : (a : Bool) (x y z : Option CellFault) (f : Fact) → IsAscending (map (λ d. d.0) f.dimensions) → HasNamesInOrder (outcome a x y z f)
unfolding outcome
of_outcome true x y z f h = tt
of_outcome false (Some e) y z f h = tt
of_outcome false None (Some e) z f h = tt
of_outcome false None None (Some e) f h = tt
of_outcome false None None None f h = h

pub names_in_order : (c : Cell) → HasNamesInOrder (cell_result c)
names_in_order c = subst HasNamesInOrder (sym (cell_result-outcome c)) (of_outcome _ _ _ _ (fact_of c) (fact_ascends c))
