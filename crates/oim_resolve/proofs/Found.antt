-- Each fault of a cell has an origin.
use Rattle.std.proofs.Common.{◌≡◌, ◌⊎◌, inl, inr, ℕ, List, [], ◌∷◌, ◌++◌, Bool, true, false, ◌||◌, Option, Some, None, Result, Ok, Err, IfOk, codes, if◌then◌else◌, append_assoc, eq-eqb, refl, sym, ap, subst, ◌∙◌}
use Rattle.std.specs.Prelude.{nat_le}
use Rattle.std.specs.List.{flat_map, list_any}
use Rattle.std.specs.Option.{IsSome, option_map, option_map_or, option_or}
use Rattle.std.proofs.lemmas.Grind.{flat_map-append}
use Rattle.std.proofs.lemmas.List.{append-nil}
use Rattle.oim_report.specs.declared.kind.Concept.{Concept}
use Rattle.oim_report.specs.declared.kind.Kind.{Kind}
use Rattle.oim_resolve.specs.FactParts.{FactParts as Fact}
use Rattle.oim_resolve.specs.declared.cell.origins.FaultOrigin.{FaultOrigin}
use Rattle.oim_resolve.specs.declared.fact.CellFault.{CellFault}
use Rattle.oim_resolve.specs.declared.fact.CellFault.TheVariants.{UnknownSpecial, UnknownGroup, BadUnit, WrongPeriod}
use Rattle.oim_resolve.specs.Cell.{Cell, column, meaning_at}
use Rattle.oim_resolve.specs.Facts.{cell_and_group_faults, cell_result, concept_faults, concept_kind, decimals_faults, dimension_faults, fact_meaning, fact_of, fact_value}
use Rattle.oim_resolve.specs.Facts.{given, is_unknown, lacks_period, lacks_unit, names_no_group, rest_faults, side_given, wanted_faults, wanted_faults_of}
use Rattle.oim_resolve.specs.FactValues.{faults_in}
use Rattle.oim_resolve.specs.Faults.{fault_if, least, number_of}
use Rattle.oim_resolve.specs.Kinds.{concept_in}
use Rattle.oim_resolve.specs.Origins.{Origin, SourceFaults, OwnCell, Dimension, dimension_sources, group_faults, group_sources, is_fault, origin_in, origin_of, other_sources, own_faults, period_faults, rest_sources, unit_faults}
use Rattle.oim_resolve.specs.ProgramOrigins.{seen_origin}
use Rattle.oim_resolve.specs.Written.{levels, names}
use Rattle.oim_resolve.specs.Writers.{first_answer}
use Rattle.oim_resolve.specs.state.ProgramFaults.{least_of}
use Rattle.oim_resolve.proofs.FirstAnswers.{first_answer-append, some_first, some_second}
use Rattle.oim_resolve.proofs.LeastFaults.{least-append}
use Rattle.oim_resolve.proofs.Outcomes.{cell_result-outcome, outcome}

-- The least of two sets is that of one of them.
either_least : (a b : Option CellFault) (f : CellFault) → least_of a b ≡ Some f → (a ≡ Some f) ⊎ (b ≡ Some f)
either_least None b f e = inr e
either_least (Some g) None f e = inl e
either_least (Some g) (Some h) f e = by (nat_le (number_of g) (number_of h)) e
  where
    by : (x : Bool) → Some (if x then g else h) ≡ Some f → (Some g ≡ Some f) ⊎ (Some h ≡ Some f)
    by true k = inl k
    by false k = inr k

-- A fault is the same as itself.
is_its : (f : CellFault) (fs : List CellFault) (o : Origin) → least fs ≡ Some f → IsSome (origin_in f (fs, o))
is_its f fs o e =
    let same : is_fault f (least fs) ≡ true = ap (is_fault f) e ∙ eq-eqb (number_of f) (number_of f) refl in
    subst (λ (b : Bool). IsSome (if b then Some o else None)) (sym same) refl

abbrev faults_of : List SourceFaults → List CellFault
faults_of ss = flat_map (λ (s : SourceFaults). s.0) ss

-- The least fault of all sources is the least of one of them.
found_in : (f : CellFault) (ss : List SourceFaults) → least (faults_of ss) ≡ Some f → IsSome (first_answer (origin_in f) ss)
found_in f [] e = cc e
found_in f (s ∷ ss) e =
    elim (either_least (least s.0) (least (faults_of ss)) f (sym (least-append s.0 (faults_of ss)) ∙ e)) [
      | inl h ↦ some_first (origin_in f s) (first_answer (origin_in f) ss) (is_its f s.0 s.1 h)
      | inr h ↦ some_second (origin_in f s) (first_answer (origin_in f) ss) (found_in f ss h)
    ]

-- WHAT A CONCEPT WANTS

first_wanted : (a b : Bool) → option_or (least (fault_if BadUnit a)) (least (fault_if WrongPeriod b)) ≡ least (fault_if BadUnit a ++ fault_if WrongPeriod b)
first_wanted true true = refl
first_wanted true false = refl
first_wanted false b = refl

module _ (c : Cell) (k : Kind) where
  abbrev unit_by : Option Concept → List CellFault
  unit_by o = option_map_or (λ a. fault_if BadUnit (lacks_unit c.report a.value (given c (codes "unit")))) o []

  abbrev period_by : Option Concept → List CellFault
  period_by o = option_map_or (λ a. fault_if WrongPeriod (option_map_or (λ p. lacks_period p (side_given c (codes "period")) (given c (codes "period"))) a.period false)) o []

  abbrev wanted_by : Option Concept → List CellFault
  wanted_by o = option_map_or (λ a. wanted_faults_of c.report a (given c (codes "unit")) (side_given c (codes "period")) (given c (codes "period"))) o []

  wanted_parts : unit_faults c k ++ period_faults c k ≡ wanted_faults c k
  wanted_parts = by (concept_in k)
    where
      by : (o : Option Concept) → unit_by o ++ period_by o ≡ wanted_by o
      by None = refl
      by (Some a) = refl

  pub unit_or_period : option_or (least (unit_faults c k)) (least (period_faults c k)) ≡ least (wanted_faults c k)
  unit_or_period = by (concept_in k)
    where
      by : (o : Option Concept) → option_or (least (unit_by o)) (least (period_by o)) ≡ least (wanted_by o)
      by None = refl
      by (Some a) = first_wanted _ _

  -- THE REST

  dimensions_are : (ns : List (List ℕ)) → faults_of (dimension_sources c k ns) ≡ flat_map (dimension_faults c k) ns
  dimensions_are [] = refl
  dimensions_are (n ∷ ns) = ap (λ fs. dimension_faults c k n ++ fs) (dimensions_are ns)

  others_are : faults_of (other_sources c k) ≡ decimals_faults c k ++ (wanted_faults c k ++ faults_in (fact_value c k))
  others_are =
      ap (λ fs. decimals_faults c k ++ fs)
      (ap (λ fs. unit_faults c k ++ (period_faults c k ++ fs)) (append-nil (faults_in (fact_value c k)))
      ∙ sym (append_assoc (unit_faults c k) (period_faults c k) (faults_in (fact_value c k)))
      ∙ ap (λ fs. fs ++ faults_in (fact_value c k)) wanted_parts)

  rest_are : faults_of (rest_sources c k) ≡ rest_faults c k
  unfolding rest_faults
  rest_are =
      flat_map-append (λ (s : SourceFaults). s.0) (dimension_sources c k (names (levels c))) (other_sources c k)
      ∙ ap (λ fs. fs ++ faults_of (other_sources c k)) (dimensions_are (names (levels c)))
      ∙ ap (λ fs. flat_map (dimension_faults c k) (names (levels c)) ++ fs) others_are
      ∙ simp (← append_assoc)

-- THE CELL AND ITS GROUPS

-- Two sets of such faults together.
both_kinds : (u b v d : Bool) → least_of (least (fault_if UnknownSpecial u ++ fault_if UnknownGroup b)) (least (fault_if UnknownSpecial v ++ fault_if UnknownGroup d))
    ≡ least (fault_if UnknownSpecial (u || v) ++ fault_if UnknownGroup (b || d))
both_kinds true true true true = refl
both_kinds true true true false = refl
both_kinds true true false true = refl
both_kinds true true false false = refl
both_kinds true false true true = refl
both_kinds true false true false = refl
both_kinds true false false true = refl
both_kinds true false false false = refl
both_kinds false true true true = refl
both_kinds false true true false = refl
both_kinds false true false true = refl
both_kinds false true false false = refl
both_kinds false false v d = refl

module _ (c : Cell) where
  abbrev early : List SourceFaults
  early = (own_faults c, OwnCell) ∷ group_sources c (column c).from

  abbrev later : List SourceFaults
  later = (concept_faults c, Dimension (codes "concept")) ∷ rest_sources c (concept_kind c)

  abbrev of_groups : List ℕ → List CellFault
  of_groups is = fault_if UnknownSpecial (list_any (λ i. is_unknown (meaning_at c i)) is) ++ fault_if UnknownGroup (list_any (names_no_group c) is)

  groups_are : (is : List ℕ) → least (faults_of (group_sources c is)) ≡ least (of_groups is)
  groups_are [] = refl
  groups_are (i ∷ is) =
      least-append (group_faults c i) (faults_of (group_sources c is)) ∙ ap (least_of (least (group_faults c i))) (groups_are is) ∙ both_kinds _ _ _ _

  early_are : least (faults_of early) ≡ least (cell_and_group_faults c)
  early_are =
      least-append (own_faults c) (faults_of (group_sources c (column c).from))
      ∙ ap (least_of (least (own_faults c))) (groups_are (column c).from)
      ∙ ap (λ fs. least_of (least fs) (least (of_groups (column c).from))) (sym (append-nil (own_faults c)))
      ∙ both_kinds (is_unknown (fact_meaning c)) false _ _

  -- THE WHOLE CELL

  by_step : (f : CellFault) → (least (cell_and_group_faults c) ≡ Some f) ⊎ ((least (concept_faults c) ≡ Some f) ⊎ (least (rest_faults c (concept_kind c)) ≡ Some f)) → IsSome (origin_of c f)
  by_step f found =
      let at = origin_in f (concept_faults c, Dimension (codes "concept")) in
      let rest = first_answer (origin_in f) (rest_sources c (concept_kind c)) in
      subst IsSome (sym (first_answer-append (origin_in f) early later))
      (elim found [
        | inl h ↦ some_first (first_answer (origin_in f) early) (first_answer (origin_in f) later) (found_in f early (early_are ∙ h))
        | inr h ↦ some_second (first_answer (origin_in f) early) (first_answer (origin_in f) later)
            (elim h [
              | inl x ↦ some_first at rest (is_its f (concept_faults c) (Dimension (codes "concept")) x)
              | inr x ↦ some_second at rest (found_in f (rest_sources c (concept_kind c)) (ap least (rest_are c (concept_kind c)) ∙ x))
            ])
      ])

-- The step that gives a cell its fault.
step_of : (absent : Bool) (x y z : Option CellFault) (fact : Fact) (f : CellFault) → outcome absent x y z fact ≡ Err f → (x ≡ Some f) ⊎ ((y ≡ Some f) ⊎ (z ≡ Some f))
unfolding outcome
step_of true x y z fact f e = cc e
step_of false (Some g) y z fact f e = inl (cc e)
step_of false None (Some g) z fact f e = inr (inl (cc e))
step_of false None None (Some g) fact f e = inr (inr (cc e))
step_of false None None None fact f e = cc e

seen_some : (o : Option FaultOrigin) → IsSome (option_map seen_origin o) → IsSome o
seen_some None h = h
seen_some (Some x) h = refl

-- A fault that a cell has has an origin.
pub found_of : {E : Type 0} (c : Cell) (f : CellFault) (r : Result (Option FaultOrigin) E) → IfOk r (λ o. option_map seen_origin o ≡ origin_of c f)
    → IfOk r (λ o. cell_result c ≡ Err f → IsSome o)
found_of c f (Ok o) e = λ h. seen_some o (subst IsSome (sym e) (by_step c f (step_of _ _ _ _ (fact_of c) f (sym (cell_result-outcome c) ∙ h))))
found_of c f (Err x) e = tt
