-- What causes a fault of a cell: the first of the cell's sources whose least fault it is. The
-- sources are in the order in which a cell is read: the cell itself, the row's cells that name
-- property groups, the concept, and then the other dimensions, the decimals, the unit and the
-- period that the concept wants, and the value. (xBRL-CSV 1.0, from cells to facts)
use Rattle.std.specs.Prelude.{ℕ, codes, List, [], ◌∷◌, ◌++◌, map, Bool, false, Option, Some, None, nat_eq, if◌then◌else◌}
use Rattle.std.specs.Option.{option_map_or}
use Rattle.oim_report.specs.declared.kind.Kind.{Kind}
use Rattle.oim_resolve.specs.declared.fact.CellFault.{CellFault}
use Rattle.oim_resolve.specs.declared.fact.CellFault.TheVariants.{UnknownSpecial, UnknownGroup, BadUnit, WrongPeriod}
use Rattle.oim_resolve.specs.Cell.{Cell, column, meaning_at}
use Rattle.oim_resolve.specs.Facts.{concept_faults, concept_kind, decimals_faults, dimension_faults, fact_meaning, fact_value, given, is_unknown, lacks_period, lacks_unit, names_no_group, side_given}
use Rattle.oim_resolve.specs.Faults.{fault_if, least, number_of}
use Rattle.oim_resolve.specs.FactValues.{faults_in}
use Rattle.oim_resolve.specs.Kinds.{concept_in}
use Rattle.oim_resolve.specs.Written.{levels, names}
use Rattle.oim_resolve.specs.Writers.{first_answer}

pub data Origin : Type 0 where
  OwnCell : Origin
  GroupCell : ℕ → Origin
  Dimension : List ℕ → Origin
  Decimals : Origin

-- The faults of a source, as a set, and the origin of these faults.
abbrev pub SourceFaults : Type 0
SourceFaults = List CellFault × Origin

abbrev pub own_faults : Cell → List CellFault
own_faults c = fault_if UnknownSpecial (is_unknown (fact_meaning c))

-- The faults of the row's cell at place `i` of the template, which names a property group.
abbrev pub group_faults : Cell → ℕ → List CellFault
group_faults c i = fault_if UnknownSpecial (is_unknown (meaning_at c i)) ++ fault_if UnknownGroup (names_no_group c i)

-- The faults of the unit and of the period that the concept wants.
abbrev pub unit_faults : Cell → Kind → List CellFault
unit_faults c k = option_map_or (λ a. fault_if BadUnit (lacks_unit c.report a.value (given c (codes "unit")))) (concept_in k) []

abbrev pub period_faults : Cell → Kind → List CellFault
period_faults c k =
    option_map_or (λ a. fault_if WrongPeriod (option_map_or (λ p. lacks_period p (side_given c (codes "period")) (given c (codes "period"))) a.period false)) (concept_in k) []

-- The cell and its property groups, the concept, and the rest.
abbrev pub group_sources : Cell → List ℕ → List SourceFaults
group_sources c is = map (λ i. (group_faults c i, GroupCell i)) is

abbrev pub dimension_sources : Cell → Kind → List (List ℕ) → List SourceFaults
dimension_sources c k ns = map (λ n. (dimension_faults c k n, Dimension n)) ns

abbrev pub other_sources : Cell → Kind → List SourceFaults
other_sources c k =
    (decimals_faults c k, Decimals)
    ∷ (unit_faults c k, Dimension (codes "unit"))
    ∷ (period_faults c k, Dimension (codes "period"))
    ∷ (faults_in (fact_value c k), OwnCell)
    ∷ []

abbrev pub rest_sources : Cell → Kind → List SourceFaults
rest_sources c k = dimension_sources c k (names (levels c)) ++ other_sources c k

abbrev pub sources : Cell → Kind → List SourceFaults
sources c k = (own_faults c, OwnCell) ∷ (group_sources c (column c).from ++ (concept_faults c, Dimension (codes "concept")) ∷ rest_sources c k)

-- Whether a fault is the least of a source.
abbrev pub is_fault : CellFault → Option CellFault → Bool
is_fault f found = option_map_or (λ g. nat_eq (number_of g) (number_of f)) found false

abbrev pub origin_in : CellFault → SourceFaults → Option Origin
origin_in f s = if is_fault f (least s.0) then Some s.1 else None

abbrev pub origin_of : Cell → CellFault → Option Origin
origin_of c f = first_answer (origin_in f) (sources c (concept_kind c))
