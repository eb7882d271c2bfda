-- The value of a fact cell, read by the kind of its concept. (xBRL-CSV 1.0, special values and the
-- decimals suffix of a numeral; XML Schema Part 2, second edition: the lexical forms of the kinds;
-- Extensible Enumerations 2.0)
use Rattle.std.specs.Prelude.{ℕ, List, [], ◌∷◌, Bool, true, false, Option, Some, None, is_some, Result, Ok, Err, if◌then◌else◌}
use Rattle.std.specs.List.{list_all}
use Rattle.std.specs.Option.{option_and_then}
use Rattle.oim_names.specs.QName.{qname_of}
use Rattle.oim_cells.specs.Blanks.{trimmed}
use Rattle.oim_cells.specs.Boolean.{is_boolean_text}
use Rattle.oim_cells.specs.Cells.{Meaning, numeral_of}
use Rattle.oim_cells.specs.Cells as m
use Rattle.oim_cells.specs.declared.cells.Accuracy.{Accuracy}
use Rattle.oim_cells.specs.declared.cells.NumberKind.{NumberKind}
use Rattle.oim_cells.specs.declared.cells.NumberKind.TheVariants.{Integer, Decimal}
use Rattle.oim_period.specs.Dates.{is_date_text}
use Rattle.oim_report.specs.declared.kind.Kind.{Kind}
use Rattle.oim_report.specs.declared.kind.Kind.TheVariants as kind
use Rattle.oim_report.specs.declared.kind.SimpleType.{SimpleType}
use Rattle.oim_report.specs.declared.kind.SimpleType.TheVariants as simple
use Rattle.oim_report.specs.declared.kind.ValueType.{ValueType}
use Rattle.oim_report.specs.declared.kind.ValueType.TheVariants as item
use Rattle.oim_report.specs.ReportValue.{ReportValue}
use Rattle.oim_schema.specs.Integers.{is_bounded_integer}
use Rattle.oim_schema.specs.declared.integers.IntegerType.{IntegerType}
use Rattle.oim_schema.specs.Members.{is_member_set, joined, parts_of}
use Rattle.oim_resolve.specs.Kinds.{is_known_member, is_known_part, numbers_of}
use Rattle.oim_resolve.specs.SimpleForms.{has_simple_form}
use Rattle.oim_resolve.specs.declared.fact.CellFault.{CellFault}
use Rattle.oim_resolve.specs.declared.fact.CellFault.TheVariants.{BadNumber, BadFactValue, UnknownMember}

-- What a cell gives its fact: the value's text (`None` for nil), and the accuracy that its suffix
-- states.
pub record ValueParts : Type 0 where
  pub text : Option (List ℕ)
  pub accuracy : Option Accuracy

-- A text without a suffix.
abbrev pub plain : List ℕ → ValueParts
plain t = record { text = Some t; accuracy = None }

abbrev pub no_text : ValueParts
no_text = record { text = None; accuracy = None }

-- A numeral, with the accuracy of its suffix.
abbrev pub numeral_given : Option (List ℕ × Option Accuracy) → Result ValueParts CellFault
numeral_given (Some p) = Ok (record { text = Some p.0; accuracy = p.1 })
numeral_given None = Err BadNumber

-- A text that must have a form.
abbrev pub in_form : Bool → List ℕ → Result ValueParts CellFault
in_form true t = Ok (plain t)
in_form false t = Err BadFactValue

-- A numeral of an integer whose value is within the bounds of a type.
abbrev pub bounded_given : IntegerType → Option (List ℕ × Option Accuracy) → Result ValueParts CellFault
bounded_given b (Some p) = if is_bounded_integer b p.0 then numeral_given (Some p) else Err BadNumber
bounded_given b None = Err BadNumber

-- What a text gives by a simple type. The texts of types without numerals are trimmed of blanks.
abbrev pub simple_given : ReportValue → SimpleType → List ℕ → Result ValueParts CellFault
simple_given r (simple.Number n) t = numeral_given (numeral_of n t)
simple_given r (simple.Bounded b) t = bounded_given b (numeral_of Integer t)
simple_given r s t = in_form (has_simple_form r.namespaces s (trimmed t)) (trimmed t)

-- A member: a QName, and a known one.
abbrev pub member_given : ReportValue → List ℕ → Result ValueParts CellFault
member_given r t =
    if is_some (qname_of r.namespaces t)
    then (if is_known_member r t then Ok (plain t) else Err UnknownMember)
    else Err BadFactValue

-- A set of members, each of them known. It is written with one space between its members.
abbrev pub set_read : ReportValue → List ℕ → Result (List ℕ) CellFault
set_read r t =
    if is_member_set r.namespaces t
    then (if list_all (is_known_part r) (parts_of t) then Ok (joined t) else Err UnknownMember)
    else Err BadFactValue

abbrev pub set_given : Result (List ℕ) CellFault → Result ValueParts CellFault
set_given (Ok t) = Ok (plain t)
set_given (Err f) = Err f

-- What a text gives by the type of a concept's values.
abbrev pub typed_given : ReportValue → ValueType → List ℕ → Result ValueParts CellFault
typed_given r (item.Simple s) t = simple_given r s t
typed_given r item.Monetary t = numeral_given (numeral_of Decimal t)
typed_given r item.Shares t = numeral_given (numeral_of Decimal t)
typed_given r item.Text t = Ok (plain t)
typed_given r item.Enumeration t = member_given r (trimmed t)
typed_given r item.Enumerations t = set_given (set_read r t)
typed_given r item.Other t = Ok (plain t)

-- What a text gives by the kind. The texts of booleans, dates and names are trimmed of blanks.
abbrev pub text_given : ReportValue → Kind → List ℕ → Result ValueParts CellFault
text_given r (kind.Number n) t = numeral_given (numeral_of n t)
text_given r kind.Boolean t = in_form (is_boolean_text (trimmed t)) (trimmed t)
text_given r kind.Date t = in_form (is_date_text (trimmed t)) (trimmed t)
text_given r kind.Name t = in_form (is_some (qname_of r.namespaces (trimmed t))) (trimmed t)
text_given r kind.Text t = Ok (plain t)
text_given r kind.Other t = Ok (plain t)
text_given r kind.Explicit t = Ok (plain t)
text_given r kind.Typed t = Ok (plain t)
text_given r (kind.Concept a) t = typed_given r a.value t
text_given r (kind.TypedBy s) t = Ok (plain t)
text_given r kind.Member t = Ok (plain t)

-- The value of a kind and a meaning: its fault, or what the cell gives.
abbrev pub value_given : ReportValue → Kind → Meaning → Result ValueParts CellFault
value_given r k m.Absent = Ok no_text
value_given r k m.Nil = Ok no_text
value_given r k m.Empty = text_given r k []
value_given r k (m.Text t) = text_given r k t
value_given r k m.Unknown = Ok no_text

-- The accuracy that the suffix of a numeral states, also where its number is out of bounds.
abbrev pub suffix_in : Option (List ℕ × Option Accuracy) → Option Accuracy
suffix_in o = option_and_then (λ p. p.1) o

abbrev pub text_suffix : Option NumberKind → List ℕ → Option Accuracy
text_suffix (Some n) t = suffix_in (numeral_of n t)
text_suffix None t = None

abbrev pub suffix_given : Kind → Meaning → Option Accuracy
suffix_given k m.Absent = None
suffix_given k m.Nil = None
suffix_given k m.Empty = text_suffix (numbers_of k) []
suffix_given k (m.Text t) = text_suffix (numbers_of k) t
suffix_given k m.Unknown = None

-- The parts of a reading: the set of its fault, and the text.
abbrev pub faults_in : Result ValueParts CellFault → List CellFault
faults_in (Ok v) = []
faults_in (Err f) = f ∷ []

abbrev pub text_in : Result ValueParts CellFault → Option (List ℕ)
text_in (Ok v) = v.text
text_in (Err f) = None
