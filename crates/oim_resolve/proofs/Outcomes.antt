-- The result of a cell, case by case.
use Rattle.std.proofs.Common.{◌≡◌, ℕ, ℤ, List, ◌++◌, Bool, true, false, Option, Some, None, Result, Ok, Err, IfSome, refl, sym, ap, subst, ◌∙◌}
use Rattle.std.specs.Prelude.{if◌then◌else◌}
use Rattle.oim_resolve.specs.FactParts.{FactParts as Fact}
use Rattle.oim_resolve.specs.declared.fact.CellFault.{CellFault}
use Rattle.oim_resolve.specs.Cell.{Cell}
use Rattle.oim_resolve.specs.Faults.{least, unless}
use Rattle.oim_resolve.specs.state.ProgramFaults.{both, or_fault}
use Rattle.oim_resolve.specs.FactValues.{ValueParts, value_given, suffix_given, faults_in, text_in}
use Rattle.oim_resolve.specs.state.ProgramValues.{text_read, decimals_read}
use Rattle.std.specs.List.{flat_map}
use Rattle.oim_report.specs.declared.kind.Kind.{Kind}
use Rattle.oim_resolve.specs.Written.{levels, names}
use Rattle.oim_resolve.proofs.LeastFaults.{both_unless, or_fault_unless, pair}
use Rattle.oim_cells.specs.Cells.{Meaning}
use Rattle.oim_cells.specs.declared.cells.Accuracy.{Accuracy}
use Rattle.oim_resolve.specs.Values.{Stated}
use Rattle.oim_resolve.specs.Facts.{id_of, fact_value, fact_decimals, named_entry, dimension_entry, dimension_faults, decimals_faults, wanted_faults, stated, is_absent}
use Rattle.oim_resolve.specs.Facts.{fact_meaning, cell_and_group_faults, concept_faults, concept_kind, rest_faults, fact_of, rest_result, as_result, cell_result, early_result}

unfoldable pub outcome : Bool → Option CellFault → Option CellFault → Option CellFault → Fact → Result (Option Fact) CellFault
outcome absent x y z f = if absent then Ok None else unless x (unless y (as_result (unless z (Ok f))))

module _ (c : Cell) where
  abbrev pub no_cell : Bool
  no_cell = is_absent (fact_meaning c)

  abbrev pub first : Option CellFault
  first = least (cell_and_group_faults c)

  abbrev pub second : Option CellFault
  second = least (concept_faults c)

  abbrev pub third : Option CellFault
  third = least (rest_faults c (concept_kind c))

  pub cell_result-outcome : cell_result c ≡ outcome no_cell first second third (fact_of c)
  unfolding cell_result outcome
  cell_result-outcome = refl

  pub absent_cell : no_cell ≡ true → Ok None ≡ cell_result c
  unfolding outcome
  absent_cell a = sym (cell_result-outcome ∙ ap (λ x. outcome x first second third (fact_of c)) a)

  past_absent : no_cell ≡ false → cell_result c ≡ outcome false first second third (fact_of c)
  past_absent a = cell_result-outcome ∙ ap (λ x. outcome x first second third (fact_of c)) a

  pub first_fault : (f : CellFault) → no_cell ≡ false → Some f ≡ first → Err f ≡ cell_result c
  unfolding outcome
  first_fault f a h = sym (past_absent a ∙ ap (λ x. outcome false x second third (fact_of c)) (sym h))

  past_first : no_cell ≡ false → None ≡ first → cell_result c ≡ outcome false None second third (fact_of c)
  past_first a h = past_absent a ∙ ap (λ x. outcome false x second third (fact_of c)) (sym h)

  pub second_fault : (f : CellFault) → no_cell ≡ false → None ≡ first → Some f ≡ second → Err f ≡ cell_result c
  unfolding outcome
  second_fault f a h k = sym (past_first a h ∙ ap (λ x. outcome false None x third (fact_of c)) (sym k))

  past_second : no_cell ≡ false → None ≡ first → None ≡ second → cell_result c ≡ outcome false None None third (fact_of c)
  past_second a h k = past_first a h ∙ ap (λ x. outcome false None x third (fact_of c)) (sym k)

-- A reading's fault is the least fault of its set.
pub read_fault : {A : Type 0} (o : Option CellFault) (a : A) (f : CellFault) → Err f ≡ unless o (Ok a) → Some f ≡ o
read_fault None a f e = cc e
read_fault (Some g) a f e = cc e

pub read_none : {A : Type 0} (o : Option CellFault) (a b : A) → Ok b ≡ unless o (Ok a) → None ≡ o
read_none None a b e = refl
read_none (Some g) a b e = cc e

pub read_value : {A : Type 0} (o : Option CellFault) (a b : A) → Ok b ≡ unless o (Ok a) → b ≡ a
read_value None a b e = cc e
read_value (Some g) a b e = cc e

as_result-unless : (z : Option CellFault) (f : Fact) → as_result (unless z (Ok f)) ≡ outcome false None None z f
unfolding outcome
as_result-unless z f = refl

module _ (c : Cell) (here : is_absent (fact_meaning c) ≡ false) (groups : None ≡ least (cell_and_group_faults c)) (concept : None ≡ least (concept_faults c)) where
  pub last_step : (r : Result Fact CellFault) → r ≡ rest_result c → as_result r ≡ cell_result c
  last_step r e = ap as_result e ∙ as_result-unless _ _ ∙ sym (past_second c here groups concept)

  pub not_early : early_result c ≡ None
  unfolding early_result
  not_early = rw (here, ← groups, ← concept) refl

  pub no_early : (r : Result (Option Fact) CellFault) → IfSome (early_result c) (λ a. r ≡ a)
  no_early r = subst (λ o. IfSome o (λ a. r ≡ a)) (sym not_early) tt

module _ (c : Cell) where
  pub early_absent : is_absent (fact_meaning c) ≡ true → IfSome (early_result c) (λ a. Ok None ≡ a)
  unfolding early_result
  early_absent h = rw h refl

  pub early_first : (f : CellFault) → is_absent (fact_meaning c) ≡ false → Some f ≡ least (cell_and_group_faults c) → IfSome (early_result c) (λ a. Err f ≡ a)
  unfolding early_result
  early_first f h e = rw (h, ← e) refl

  pub early_second : (f : CellFault) → is_absent (fact_meaning c) ≡ false → None ≡ least (cell_and_group_faults c) → Some f ≡ least (concept_faults c) → IfSome (early_result c) (λ a. Err f ≡ a)
  unfolding early_result
  early_second f h n e = rw (h, ← n, ← e) refl

pub fact_parts : (c : Cell) (k : Kind) (id : List ℕ) (value : Option (List ℕ)) (decimals : Option ℤ) (dimensions : List (List ℕ × Option (List ℕ)))
    → k ≡ concept_kind c → id ≡ id_of c → value ≡ text_in (fact_value c k) → decimals ≡ fact_decimals c k
    → dimensions ≡ flat_map (λ n. named_entry n (dimension_entry c k n)) (names (levels c))
    → ◌≡◌ {A = Fact} (record { id = id; value = value; decimals = decimals; dimensions = dimensions }) (fact_of c)
unfolding fact_of
fact_parts c k id value decimals dimensions h a v d e =
    let of_kind : (j : Kind) → Fact = λ j. record {
      id = id_of c;
      value = text_in (fact_value c j);
      decimals = fact_decimals c j;
      dimensions = flat_map (λ n. named_entry n (dimension_entry c j n)) (names (levels c));
    } in
    let parts : ◌≡◌ {A = Fact} (record { id = id; value = value; decimals = decimals; dimensions = dimensions }) (of_kind k) =
    λ i. record { id = a i; value = v i; decimals = d i; dimensions = e i } in
    parts ∙ ap of_kind h

-- A reading's text, or its fault.
text_read-unless : (r : Result ValueParts CellFault) → text_read r ≡ unless (least (faults_in r)) (Ok (text_in r))
text_read-unless (Ok v) = refl
text_read-unless (Err f) = refl

-- The last step: dimensions, decimals and value read together.
abbrev pub Dimensions : Type 0
Dimensions = List (List ℕ × Option (List ℕ))

-- What the three give together.
abbrev pub Together : Type 0
Together = (Dimensions × Option ℤ) × Option (List ℕ)

module _ (c : Cell) (k : Kind) where
  abbrev pub given_faults : List CellFault
  given_faults = flat_map (dimension_faults c k) (names (levels c))

  abbrev pub given_dimensions : Dimensions
  given_dimensions = flat_map (λ n. named_entry n (dimension_entry c k n)) (names (levels c))

  abbrev pub all_given : Together
  all_given = ((given_dimensions, fact_decimals c k), text_in (fact_value c k))

  abbrev pub rest : Option CellFault
  rest = least (rest_faults c k)

  -- Dimensions, decimals and text, each read, and what the concept wants.
  all_three : (d : Result Dimensions CellFault) (n : Result (Option ℤ) CellFault) (w : Option CellFault) (t : Result (Option (List ℕ)) CellFault)
      → d ≡ unless (least given_faults) (Ok given_dimensions)
      → n ≡ unless (least (decimals_faults c k)) (Ok (fact_decimals c k))
      → w ≡ least (wanted_faults c k)
      → t ≡ text_read (fact_value c k)
      → both pair (or_fault (both pair d n) w) t ≡ unless rest (Ok all_given)
  unfolding rest_faults
  all_three d n w t hd hn hw ht =
      let two_faults : List CellFault = given_faults ++ decimals_faults c k in
      let two_given : Dimensions × Option ℤ = (given_dimensions, fact_decimals c k) in
      let both_given : Result (Dimensions × Option ℤ) CellFault = unless (least two_faults) (Ok two_given) in
      let wanted_given : Result (Dimensions × Option ℤ) CellFault = unless (least (two_faults ++ wanted_faults c k)) (Ok two_given) in
      ap (λ x. both pair (or_fault (both pair x n) w) t) hd
      ∙ ap (λ x. both pair (or_fault (both pair (unless (least given_faults) (Ok given_dimensions)) x) w) t) hn
      ∙ ap (λ x. both pair (or_fault x w) t) (both_unless pair given_faults (decimals_faults c k) given_dimensions (fact_decimals c k))
      ∙ ap (λ x. both pair (or_fault both_given x) t) hw
      ∙ ap (λ x. both pair x t) (or_fault_unless two_faults (wanted_faults c k) two_given)
      ∙ ap (λ x. both pair wanted_given x) (ht ∙ text_read-unless (fact_value c k))
      ∙ both_unless pair (two_faults ++ wanted_faults c k) (faults_in (fact_value c k)) two_given (text_in (fact_value c k))

  -- The same, from the steps by which a program reads them: the meaning of the cell, its reading
  -- and its suffix, the stated decimals, what the concept wants, and the three.
  pub read_together : (v : Meaning) (r : Result ValueParts CellFault) (suffix : Option Accuracy) (s : Stated) (d : Result Dimensions CellFault)
      (n : Result (Option ℤ) CellFault) (w : Option CellFault) (t : Result (Option (List ℕ)) CellFault) (two wanted : Result (Dimensions × Option ℤ) CellFault)
      (whole : Result Together CellFault)
      → v ≡ fact_meaning c → r ≡ value_given c.report k v → suffix ≡ suffix_given k v → s ≡ stated c
      → d ≡ unless (least given_faults) (Ok given_dimensions) → n ≡ decimals_read k v suffix s → w ≡ least (wanted_faults c k) → t ≡ text_read r
      → two ≡ both pair d n → wanted ≡ or_fault two w → whole ≡ both pair wanted t → whole ≡ unless rest (Ok all_given)
  read_together v r suffix s d n w t two wanted whole hv hr hsuffix hs hd hn hw ht htwo hwanted hwhole =
      let reading : r ≡ fact_value c k = hr ∙ ap (value_given c.report k) hv in
      let accuracy : suffix ≡ suffix_given k (fact_meaning c) = hsuffix ∙ ap (suffix_given k) hv in
      let decimals : n ≡ unless (least (decimals_faults c k)) (Ok (fact_decimals c k)) =
      hn ∙ ap (λ x. decimals_read k x suffix s) hv ∙ ap (λ x. decimals_read k (fact_meaning c) x s) accuracy
      ∙ ap (decimals_read k (fact_meaning c) (suffix_given k (fact_meaning c))) hs in
      hwhole ∙ ap (λ x. both pair x t) hwanted ∙ ap (λ x. both pair (or_fault x w) t) htwo ∙ all_three d n w t hd decimals hw (ht ∙ ap text_read reading)

  -- The third step, if the concept is of this kind.
  at_kind : k ≡ concept_kind c → unless rest (Ok (fact_of c)) ≡ rest_result c
  at_kind same = ap (λ j. unless (least (rest_faults c j)) (Ok (fact_of c))) same

  pub fact_fault : (f : CellFault) (r : Result Together CellFault) → k ≡ concept_kind c → r ≡ Err f → r ≡ unless rest (Ok all_given) → Err f ≡ rest_result c
  fact_fault f r same is e = ap (λ o. unless o (Ok (fact_of c))) (read_fault rest all_given f (sym is ∙ e)) ∙ at_kind same

  pub fact_whole : (id : List ℕ) (w : Together) (r : Result Together CellFault) → k ≡ concept_kind c → id ≡ id_of c
      → r ≡ Ok w → r ≡ unless rest (Ok all_given)
      → Ok (record { id = id; value = w.1; decimals = w.0.1; dimensions = w.0.0 }) ≡ rest_result c
  fact_whole id w r same a is e =
      let none : None ≡ rest = read_none rest all_given w (sym is ∙ e) in
      let parts : w ≡ all_given = read_value rest all_given w (sym is ∙ e) in
      let value = ap (λ (x : Together). x.1) parts in
      let decimals = ap (λ (x : Together). x.0.1) parts in
      let dimensions = ap (λ (x : Together). x.0.0) parts in
      ap Ok (fact_parts c k id w.1 w.0.1 w.0.0 same a value decimals dimensions) ∙ ap (λ o. unless o (Ok (fact_of c))) none ∙ at_kind same
