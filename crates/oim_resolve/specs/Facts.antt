-- The result of a cell: no fact, a fault, or the fact. (xBRL-CSV 1.0, from cells to facts; Open
-- Information Model 1.0, simple facts and their dimensions) The faults of each step are a set. A
-- cell has the fault with the least number of the first step that has one.
use Rattle.std.specs.Prelude.{ℕ, ℤ, List, [], ◌∷◌, ◌++◌, Bool, true, false, ◌&&◌, ◌||◌, not, Option, Some, None, is_none, is_some, Result, Ok, Err, codes, if◌then◌else◌}
use Rattle.std.specs.List.{list_any, flat_map}
use Rattle.std.specs.Option.{option_map, option_and_then, option_map_or, option_or, unwrap_or}
use Rattle.std.specs.Str.{bytes_eq}
use Rattle.oim_names.specs.Lookup.{value_at}
use Rattle.oim_cells.specs.Blanks.{trimmed}
use Rattle.oim_cells.specs.Cells.{Meaning, accuracy_of}
use Rattle.oim_cells.specs.Cells as m
use Rattle.oim_names.specs.QName.{qname_of, sqname_of}
use Rattle.oim_names.specs.Unit.{unit_of}
use Rattle.oim_names.specs.Language.{language_of}
use Rattle.oim_period.specs.Periods.{period_of, start_of, end_of, period_text}
use Rattle.oim_report.specs.Readers.{column_of, table_of}
use Rattle.oim_cells.specs.declared.cells.Accuracy.{Accuracy}
use Rattle.oim_cells.specs.declared.cells.Accuracy.TheVariants.{Infinite, Places}
use Rattle.oim_names.specs.declared.unit_kind.UnitKind.{UnitKind}
use Rattle.oim_names.specs.declared.unit_kind.UnitKind.TheVariants as unit
use Rattle.oim_period.specs.Periods.{Reading, instant, duration}
use Rattle.oim_report.specs.declared.kind.Concept.{Concept}
use Rattle.oim_report.specs.declared.kind.Kind.{Kind}
use Rattle.oim_report.specs.declared.kind.Kind.TheVariants as kind
use Rattle.oim_report.specs.declared.kind.PeriodType.{PeriodType}
use Rattle.oim_report.specs.declared.kind.PeriodType.TheVariants.{Instant, Duration}
use Rattle.oim_report.specs.declared.kind.ValueType.{ValueType}
use Rattle.oim_report.specs.declared.kind.ValueType.TheVariants as item
use Rattle.oim_report.specs.ReportValue.{ReportValue}
use Rattle.oim_report.specs.declared.data.WrittenDecimals.{WrittenDecimals}
use Rattle.oim_report.specs.declared.data.Side.{Side}
use Rattle.oim_report.specs.declared.data.Side.TheVariants as side
use Rattle.oim_resolve.specs.FactParts.{FactParts as Fact}
use Rattle.oim_resolve.specs.declared.fact.CellFault.{CellFault}
use Rattle.oim_resolve.specs.declared.fact.CellFault.TheVariants.{UnknownSpecial, UnknownGroup, NoConcept, UnknownName, BadReference, BadValue, BadPeriod, NotDuration, BadDecimals, BadUnit, WrongPeriod, UnknownMember}
use Rattle.oim_resolve.specs.declared.role.Role.{Role}
use Rattle.oim_resolve.specs.declared.role.Role.TheVariants as role
use Rattle.oim_resolve.specs.Cell.{Cell, column, meaning_at}
use Rattle.oim_resolve.specs.Written.{levels, written, written_decimals, names}
use Rattle.oim_resolve.specs.Values.{value, side_of, decimals_value, Stated, Fixed, Read}
use Rattle.oim_resolve.specs.Faults.{fault_if, least, unless}
use Rattle.oim_schema.specs.Units.{is_currency, is_shares}
use Rattle.oim_resolve.specs.FactValues.{ValueParts, value_given, suffix_given, faults_in, text_in}
use Rattle.oim_resolve.specs.Kinds.{concept_in, concept_type_of, is_known_member, is_text_type, kind_named, numbers_of}
use Rattle.oim_resolve.specs.SimpleForms.{has_simple_form}

abbrev pub is_absent : Meaning → Bool
is_absent m.Absent = true
is_absent _ = false

abbrev pub is_unknown : Meaning → Bool
is_unknown m.Unknown = true
is_unknown _ = false

abbrev pub is_nil : Meaning → Bool
is_nil m.Nil = true
is_nil _ = false

abbrev pub is_nil_or_empty : Meaning → Bool
is_nil_or_empty m.Nil = true
is_nil_or_empty m.Empty = true
is_nil_or_empty _ = false

-- The meaning is a text that passes the test.
abbrev pub is_text : (List ℕ → Bool) → Meaning → Bool
is_text test (m.Text t) = test t
is_text test _ = false

-- The meaning of the fact cell.
abbrev pub fact_meaning : Cell → Meaning
fact_meaning c = meaning_at c c.column

-- STEP 1: the cell itself, and the cells of its row that name property groups.

-- The row's cell at index `i` is not absent and names no group of its column.
abbrev pub names_no_group : Cell → ℕ → Bool
names_no_group c i =
    is_nil_or_empty (meaning_at c i)
    || is_text (λ t. is_none (value_at t (column_of c.report c.table i).groups)) (meaning_at c i)

abbrev pub cell_and_group_faults : Cell → List CellFault
cell_and_group_faults c =
    fault_if UnknownSpecial (is_unknown (fact_meaning c) || list_any (λ i. is_unknown (meaning_at c i)) (column c).from)
    ++ fault_if UnknownGroup (list_any (names_no_group c) (column c).from)

-- STEP 2: the concept, which fixes the kind of the value.

-- The value that the row gives a dimension: Absent if no level writes it.
abbrev pub given : Cell → List ℕ → Meaning
given c n = option_map_or (value c) (written (levels c) n) m.Absent

abbrev pub side_given : Cell → List ℕ → Side
side_given c n = option_map_or side_of (written (levels c) n) side.Whole

-- The faults of a concept's value.
abbrev pub concept_faults_of : ReportValue → Meaning → List CellFault
concept_faults_of r v =
    fault_if UnknownSpecial (is_unknown v)
    ++ fault_if NoConcept (is_absent v)
    ++ fault_if BadReference (is_nil_or_empty v)
    ++ fault_if UnknownName (is_text (λ t. is_none (concept_type_of r t)) v)

abbrev pub concept_faults : Cell → List CellFault
concept_faults c = concept_faults_of c.report (given c (codes "concept"))

-- The kind of the concept that a value names.
abbrev pub text_kind : ReportValue → Meaning → Kind
text_kind r (m.Text t) = unwrap_or (concept_type_of r t) kind.Other
text_kind r _ = kind.Other

-- A concept's value read: its least fault, or the kind that it names.
abbrev pub concept_read : ReportValue → Meaning → Result Kind CellFault
concept_read r v = unless (least (concept_faults_of r v)) (Ok (text_kind r v))

abbrev pub concept_kind : Cell → Kind
concept_kind c = text_kind c.report (given c (codes "concept"))

-- STEP 3: the other dimensions, the value and the decimals.

-- Concepts whose values are numerals, and concepts of texts.
abbrev pub is_numeric : Kind → Bool
is_numeric k = is_some (numbers_of k)

abbrev pub is_of_text : Kind → Bool
is_of_text kind.Text = true
is_of_text (kind.Concept a) = is_text_type a.value
is_of_text _ = false

-- A taxonomy dimension is typed if the types table makes it typed, and explicit otherwise.
abbrev pub taxonomy_role : Option Kind → Role
taxonomy_role (Some kind.Typed) = role.Typed
taxonomy_role (Some (kind.TypedBy s)) = role.TypedBy s
taxonomy_role _ = role.Explicit

-- The role of a dimension's name.
abbrev pub role_of : ReportValue → List ℕ → Role
role_of r n =
    if bytes_eq n (codes "concept") then role.Concept
    else if bytes_eq n (codes "entity") then role.Entity
    else if bytes_eq n (codes "period") then role.Period
    else if bytes_eq n (codes "unit") then role.Unit
    else if bytes_eq n (codes "language") then role.Language
    else taxonomy_role (kind_named r n)

abbrev pub is_typed : Role → Bool
is_typed role.Typed = true
is_typed (role.TypedBy s) = true
is_typed _ = false

abbrev pub is_explicit : Role → Bool
is_explicit role.Explicit = true
is_explicit _ = false

abbrev pub is_period : Role → Bool
is_period role.Period = true
is_period _ = false

-- A unit is dropped if the concept is not numeric, a language if it is not text.
abbrev pub is_dropped : Kind → Role → Bool
is_dropped k role.Unit = not (is_numeric k)
is_dropped k role.Language = not (is_of_text k)
is_dropped k role.Concept = false
is_dropped k role.Entity = false
is_dropped k role.Period = false
is_dropped k role.Explicit = false
is_dropped k role.Typed = false
is_dropped k (role.TypedBy s) = false

-- The required form of entity, unit, language, explicit dimensions and typed ones of a simple
-- type.
abbrev pub has_form : ReportValue → Role → List ℕ → Bool
has_form r role.Entity t = is_some (sqname_of r.namespaces t)
has_form r role.Unit t = is_some (unit_of r.namespaces t)
has_form r role.Language t = is_some (language_of t)
has_form r role.Explicit t = is_some (qname_of r.namespaces t)
has_form r role.Concept t = true
has_form r role.Period t = true
has_form r role.Typed t = true
has_form r (role.TypedBy s) t = has_simple_form r.namespaces s (trimmed t)

-- The side of a period: nothing if the start or the end of an instant is asked for.
abbrev pub sided : Side → Reading → Option Reading
sided side.Whole p = Some p
sided side.Start p = start_of p
sided side.End p = end_of p

-- A text that lacks its form. The empty value of a typed dimension is the empty text.
abbrev pub lacks_form : ReportValue → Role → Meaning → Bool
lacks_form r o (m.Text t) = not (has_form r o t)
lacks_form r o m.Empty = is_typed o && not (has_form r o [])
lacks_form r o _ = false

-- The faults of a dimension that is not dropped.
abbrev pub value_faults_of : ReportValue → Role → Side → Meaning → List CellFault
value_faults_of r o s v =
    fault_if UnknownSpecial (is_unknown v)
    ++ fault_if BadReference (is_nil_or_empty v && not (is_typed o))
    ++ fault_if BadValue (lacks_form r o v)
    ++ fault_if BadPeriod (is_period o && is_text (λ t. is_none (period_of t)) v)
    ++ fault_if NotDuration (is_period o && is_text (λ t. option_map_or (λ p. is_none (sided s p)) (period_of t) false) v)
    ++ fault_if UnknownMember (is_explicit o && is_text (λ t. not (is_known_member r t)) v)

-- What a dimension gives a fact: nothing, nil, or a text.
abbrev pub entry_of : Role → Side → Meaning → Option (Option (List ℕ))
entry_of o s m.Absent = None
entry_of o s m.Unknown = None
entry_of o s m.Nil = Some None
entry_of o s m.Empty = Some (Some [])
entry_of role.Period s (m.Text t) = option_map (λ p. Some (period_text p)) (option_and_then (sided s) (period_of t))
entry_of role.Language s (m.Text t) = option_map Some (language_of t)
entry_of (role.TypedBy y) s (m.Text t) = Some (Some (trimmed t))
entry_of o s (m.Text t) = Some (Some t)

abbrev is_pure_unit : UnitKind → Bool
is_pure_unit unit.Pure = true
is_pure_unit unit.Written = false

-- A pure unit is left out.
abbrev pub is_pure : ReportValue → Role → Meaning → Bool
is_pure r role.Unit (m.Text t) = option_map_or is_pure_unit (unit_of r.namespaces t) false
is_pure r _ _ = false

-- What a dimension that is not dropped gives a fact.
abbrev pub entry_given : ReportValue → Role → Side → Meaning → Option (Option (List ℕ))
entry_given r o s v = if is_pure r o v then None else entry_of o s v

-- A dimension that is not dropped, read: its least fault, or what it gives a fact.
abbrev pub value_read : ReportValue → Role → Side → Meaning → Result (Option (Option (List ℕ))) CellFault
value_read r o s v = unless (least (value_faults_of r o s v)) (Ok (entry_given r o s v))

abbrev pub dimension_faults : Cell → Kind → List ℕ → List CellFault
dimension_faults c k n =
    if is_dropped k (role_of c.report n) then [] else value_faults_of c.report (role_of c.report n) (side_given c n) (given c n)

abbrev pub dimension_entry : Cell → Kind → List ℕ → Option (Option (List ℕ))
dimension_entry c k n =
    if is_dropped k (role_of c.report n) then None else entry_given c.report (role_of c.report n) (side_given c n) (given c n)

-- The decimals that a fact's properties state count only if its concept is numeric, it is not nil,
-- and its cell has no suffix.
abbrev pub looks_at_decimals : Kind → Meaning → Option Accuracy → Bool
looks_at_decimals k v suffix = is_numeric k && not (is_nil v) && is_none suffix

abbrev pub stated_by : Cell → Option WrittenDecimals → Stated
stated_by c o = option_map_or (decimals_value c) o (Read m.Absent)

abbrev pub stated : Cell → Stated
stated c = stated_by c (written_decimals (levels c))

abbrev pub stated_faults : Stated → List CellFault
stated_faults (Fixed a) = []
stated_faults (Read v) =
    fault_if UnknownSpecial (is_unknown v)
    ++ fault_if BadDecimals (is_nil_or_empty v || is_text (λ t. is_none (accuracy_of t)) v)

abbrev pub stated_accuracy : Stated → Option Accuracy
stated_accuracy (Fixed a) = Some a
stated_accuracy (Read (m.Text t)) = accuracy_of t
stated_accuracy (Read v) = None

-- The stated decimals, read: their least fault, or the accuracy.
abbrev pub stated_read : Stated → Result (Option Accuracy) CellFault
stated_read s = unless (least (stated_faults s)) (Ok (stated_accuracy s))

abbrev pub decimals_faults_of : Kind → Meaning → Option Accuracy → Stated → List CellFault
decimals_faults_of k v suffix s = if looks_at_decimals k v suffix then stated_faults s else []

-- The fact cell, read by the kind of its concept.
abbrev pub fact_value : Cell → Kind → Result ValueParts CellFault
fact_value c k = value_given c.report k (fact_meaning c)

abbrev pub decimals_faults : Cell → Kind → List CellFault
decimals_faults c k = decimals_faults_of k (fact_meaning c) (suffix_given k (fact_meaning c)) (stated c)

-- The unit that a concept wants, of a nil fact too: a currency or shares (XBRL 2.1, section 4.8.2).
-- A unit that is not well-formed has the lesser fault BadValue.
abbrev pub lacks_unit : ReportValue → ValueType → Meaning → Bool
lacks_unit r item.Monetary v = is_absent v || is_text (λ t. not (is_currency r.namespaces t)) v
lacks_unit r item.Shares v = is_absent v || is_text (λ t. not (is_shares r.namespaces t)) v
lacks_unit r _ v = false

-- The period that a concept wants: an instant, or a duration or none, which means for ever (XBRL
-- 2.1, sections 4.7.2 and 5.1.1.1).
abbrev pub is_of_type : PeriodType → Reading → Bool
is_of_type Instant (instant at) = true
is_of_type Instant (duration start end) = false
is_of_type Duration (instant at) = false
is_of_type Duration (duration start end) = true

abbrev pub is_instant_type : PeriodType → Bool
is_instant_type Instant = true
is_instant_type Duration = false

abbrev pub lacks_period : PeriodType → Side → Meaning → Bool
lacks_period p s m.Absent = is_instant_type p
lacks_period p s (m.Text t) = option_map_or (λ reading. not (is_of_type p reading)) (option_and_then (sided s) (period_of t)) false
lacks_period p s _ = false

-- The faults of what a concept wants of unit and period. Only one with the type of its values wants
-- anything.
abbrev pub wanted_faults_of : ReportValue → Concept → Meaning → Side → Meaning → List CellFault
wanted_faults_of r a u s v =
    fault_if BadUnit (lacks_unit r a.value u)
    ++ fault_if WrongPeriod (option_map_or (λ p. lacks_period p s v) a.period false)

abbrev pub wanted_faults : Cell → Kind → List CellFault
wanted_faults c k =
    option_map_or (λ a. wanted_faults_of c.report a (given c (codes "unit")) (side_given c (codes "period")) (given c (codes "period"))) (concept_in k) []

unfoldable pub rest_faults : Cell → Kind → List CellFault
rest_faults c k = flat_map (dimension_faults c k) (names (levels c)) ++ decimals_faults c k ++ wanted_faults c k ++ faults_in (fact_value c k)

-- THE FACT

-- The decimal places of a finite accuracy.
abbrev pub places : Accuracy → Option ℤ
places (Places n) = Some n
places Infinite = None

-- The suffix, or else the property.
abbrev pub decimals_given : Kind → Meaning → Option Accuracy → Stated → Option ℤ
decimals_given k v suffix s =
    if is_numeric k && not (is_nil v)
    then option_and_then places (if is_none suffix then stated_accuracy s else suffix)
    else None

abbrev pub fact_decimals : Cell → Kind → Option ℤ
fact_decimals c k = decimals_given k (fact_meaning c) (suffix_given k (fact_meaning c)) (stated c)

-- A name and its entry.
abbrev pub named_entry : List ℕ → Option (Option (List ℕ)) → List (List ℕ × Option (List ℕ))
named_entry n (Some v) = (n, v) ∷ []
named_entry n None = []

-- The identifiers of table, row and column, joined by dots.
abbrev pub id_of : Cell → List ℕ
id_of c = (table_of c.report c.table).id ++ codes "." ++ c.row.id ++ codes "." ++ (column c).id

unfoldable pub fact_of : Cell → Fact
fact_of c = record {
  id = id_of c;
  value = text_in (fact_value c (concept_kind c));
  decimals = fact_decimals c (concept_kind c);
  dimensions = flat_map (λ n. named_entry n (dimension_entry c (concept_kind c) n)) (names (levels c));
}

-- RESULT

-- The result of the third step: the least fault of the other dimensions, the decimals and the
-- value, or the fact.
abbrev pub rest_result : Cell → Result Fact CellFault
rest_result c = unless (least (rest_faults c (concept_kind c))) (Ok (fact_of c))

-- A fact as the result of a cell.
abbrev pub as_result : Result Fact CellFault → Result (Option Fact) CellFault
as_result (Ok f) = Ok (Some f)
as_result (Err e) = Err e

unfoldable pub cell_result : Cell → Result (Option Fact) CellFault
cell_result c =
    if is_absent (fact_meaning c) then Ok None
    else unless (least (cell_and_group_faults c))
    (unless (least (concept_faults c)) (as_result (rest_result c)))

-- The result of the first two steps, if they settle it: no fact if the cell is absent, else the
-- least fault of the first of them that has one.
unfoldable pub early_result : Cell → Option (Result (Option Fact) CellFault)
early_result c =
    if is_absent (fact_meaning c) then Some (Ok None)
    else option_map Err (option_or (least (cell_and_group_faults c)) (least (concept_faults c)))
