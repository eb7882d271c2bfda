-- What the types table says of a name: a concept, with the type of its values and of its periods, a
-- dimension or a member. (XBRL 2.1, sections 4.8.2 and 5.1.1; XBRL Dimensions 1.0)
use Rattle.std.specs.Prelude.{ℕ, List, [], ◌∷◌, Bool, true, false, ◌||◌, not, Option, Some, None, is_some}
use Rattle.std.specs.Option.{option_and_then, option_map_or}
use Rattle.oim_names.specs.QName.{qname_of}
use Rattle.oim_cells.specs.declared.cells.NumberKind.{NumberKind}
use Rattle.oim_cells.specs.declared.cells.NumberKind.TheVariants.{Integer, Decimal}
use Rattle.oim_report.specs.Readers.{kind_of}
use Rattle.oim_report.specs.ReportValue.{ReportValue}
use Rattle.oim_report.specs.Types.{has_members, is_member}
use Rattle.oim_report.specs.declared.kind.Concept.{Concept}
use Rattle.oim_report.specs.declared.kind.Kind.{Kind}
use Rattle.oim_report.specs.declared.kind.Kind.TheVariants as kind
use Rattle.oim_report.specs.declared.kind.SimpleType.{SimpleType}
use Rattle.oim_report.specs.declared.kind.SimpleType.TheVariants as simple
use Rattle.oim_report.specs.declared.kind.ValueType.{ValueType}
use Rattle.oim_report.specs.declared.kind.ValueType.TheVariants as item

-- The kind of a declared QName.
abbrev pub kind_named : ReportValue → List ℕ → Option Kind
kind_named r t = option_and_then (λ q. kind_of r q.0 q.1) (qname_of r.namespaces t)

-- Numbers, texts, booleans, dates, names and other kinds are concepts, and so are those with the
-- type of their values. Dimensions and members are not.
abbrev pub concept_type : Kind → Option Kind
concept_type (kind.Number n) = Some (kind.Number n)
concept_type kind.Text = Some kind.Text
concept_type kind.Boolean = Some kind.Boolean
concept_type kind.Date = Some kind.Date
concept_type kind.Name = Some kind.Name
concept_type kind.Other = Some kind.Other
concept_type kind.Explicit = None
concept_type kind.Typed = None
concept_type (kind.Concept a) = Some (kind.Concept a)
concept_type (kind.TypedBy s) = None
concept_type kind.Member = None

-- The concept type of a declared QName.
abbrev pub concept_type_of : ReportValue → List ℕ → Option Kind
concept_type_of r t = option_and_then concept_type (kind_named r t)

-- The concept, where the table gives the type of its values.
abbrev pub concept_in : Kind → Option Concept
concept_in (kind.Concept a) = Some a
concept_in _ = None

-- The kind of the numerals of a type. Monetary and share items are decimals.
abbrev simple_numbers : SimpleType → Option NumberKind
simple_numbers (simple.Number n) = Some n
simple_numbers (simple.Bounded b) = Some Integer
simple_numbers _ = None

abbrev value_numbers : ValueType → Option NumberKind
value_numbers (item.Simple s) = simple_numbers s
value_numbers item.Monetary = Some Decimal
value_numbers item.Shares = Some Decimal
value_numbers _ = None

-- The kind of the numerals of a numeric concept.
abbrev pub numbers_of : Kind → Option NumberKind
numbers_of (kind.Number n) = Some n
numbers_of (kind.Concept a) = value_numbers a.value
numbers_of _ = None

abbrev pub is_text_type : ValueType → Bool
is_text_type item.Text = true
is_text_type _ = false

-- Where the table names a member, a member is one that it names a member or a concept.
abbrev pub can_be_member : Kind → Bool
can_be_member k = is_member k || is_some (concept_type k)

abbrev pub is_known_member : ReportValue → List ℕ → Bool
is_known_member r t = not (has_members r.types) || option_map_or can_be_member (kind_named r t) false

-- A part between the blanks of a set: nothing, or a member.
abbrev pub is_known_part : ReportValue → List ℕ → Bool
is_known_part r [] = true
is_known_part r (c ∷ cs) = is_known_member r (c ∷ cs)
