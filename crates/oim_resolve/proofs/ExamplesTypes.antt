-- Cells of concepts with the type of their values, found by computing the definitions. The answers
-- are those of XML Schema Part 2 (second edition), XBRL 2.1, XBRL Dimensions 1.0 and Extensible
-- Enumerations 2.0.
use Rattle.std.proofs.Common.{◌≡◌, ℕ, ℤ, List, [], ◌∷◌, ◌++◌, Option, Some, None, Result, Ok, Err, codes, map, refl, true, false, pos}
use Rattle.std.specs.Prelude.{⊤}
use Rattle.oim_cells.specs.Cells as m
use Rattle.oim_cells.specs.declared.cells.Accuracy.TheVariants as accuracy
use Rattle.oim_cells.specs.declared.cells.NumberKind.TheVariants as number
use Rattle.oim_report.specs.ReportValue.{ReportValue}
use Rattle.oim_report.specs.Types.{TypesValue}
use Rattle.oim_report.specs.declared.data.Column.{Column}
use Rattle.oim_report.specs.declared.data.Side.TheVariants as side
use Rattle.oim_report.specs.declared.data.Written.{Written}
use Rattle.oim_report.specs.declared.data.Written.TheVariants as w
use Rattle.oim_report.specs.declared.data.WrittenDecimals.{WrittenDecimals}
use Rattle.oim_report.specs.declared.data.WrittenDecimals.TheVariants as d
use Rattle.oim_report.specs.declared.kind.Kind.{Kind}
use Rattle.oim_report.specs.declared.kind.Kind.TheVariants as kind
use Rattle.oim_report.specs.declared.kind.PeriodType.{PeriodType}
use Rattle.oim_report.specs.declared.kind.PeriodType.TheVariants as period_type
use Rattle.oim_report.specs.declared.kind.SimpleType.{SimpleType}
use Rattle.oim_report.specs.declared.kind.SimpleType.TheVariants as simple
use Rattle.oim_report.specs.declared.kind.ValueType.{ValueType}
use Rattle.oim_report.specs.declared.kind.ValueType.TheVariants as item
use Rattle.oim_schema.specs.DatesTimes.{is_date_form}
use Rattle.oim_schema.specs.Durations.{is_duration}
use Rattle.oim_schema.specs.HexBinary.{is_hex_binary}
use Rattle.oim_schema.specs.Integers.{is_bounded_integer}
use Rattle.oim_schema.specs.Members.{is_member_set, joined}
use Rattle.oim_schema.specs.Units.{is_currency, is_shares}
use Rattle.oim_schema.specs.declared.dates.DateForm.TheVariants as form
use Rattle.oim_schema.specs.declared.integers.IntegerType.TheVariants as bounds
use Rattle.oim_resolve.specs.FactParts.{FactParts as Fact}
use Rattle.oim_resolve.specs.Facts.{cell_result, is_numeric, is_of_text, role_of, wanted_faults}
use Rattle.oim_resolve.specs.FactValues.{suffix_given}
use Rattle.oim_resolve.specs.declared.fact.CellFault.{CellFault}
use Rattle.oim_resolve.specs.declared.fact.CellFault.TheVariants as fault
use Rattle.oim_resolve.specs.declared.role.Role.TheVariants as role
use Rattle.oim_resolve.proofs.Examples.{on_literals, names, known, text, reference, base_level, fact_column, plain_column, template, table, row, fact, common, period, with_period, unit, concept, entry, quarter}

unfoldable forms_on_literals : ⊤
unfolding on_literals is_bounded_integer is_date_form is_duration is_hex_binary is_currency is_shares is_member_set joined
forms_on_literals = tt

-- Concepts of each type of values. Stock wants an instant, and Flow a duration.
abbrev of_type : ValueType → Kind
of_type v = kind.Concept (record { value = v; period = None })

abbrev of_simple : SimpleType → Kind
of_simple s = of_type (item.Simple s)

abbrev of_period : PeriodType → Kind
of_period p = kind.Concept (record { value = item.Simple (simple.Number number.Decimal); period = Some p })

abbrev concepts : TypesValue
concepts =
    known (codes "Byte") (of_simple (simple.Bounded bounds.Byte)) ∷ known (codes "Age") (of_simple (simple.Bounded bounds.UnsignedByte))
    ∷ known (codes "Owners") (of_simple (simple.Bounded bounds.NonNegativeInteger)) ∷ known (codes "Count") (of_simple (simple.Number number.Integer))
    ∷ known (codes "Cash") (of_type item.Monetary) ∷ known (codes "Issued") (of_type item.Shares)
    ∷ known (codes "Open") (of_simple simple.Boolean) ∷ known (codes "Rule") (of_simple simple.QName)
    ∷ known (codes "Day") (of_simple (simple.DateTime form.Date)) ∷ known (codes "At") (of_simple (simple.DateTime form.DateTime))
    ∷ known (codes "Year") (of_simple (simple.DateTime form.GYear)) ∷ known (codes "Term") (of_simple simple.Duration)
    ∷ known (codes "Tongue") (of_simple simple.Language) ∷ known (codes "Key") (of_simple simple.NcName)
    ∷ known (codes "Hash") (of_simple simple.HexBinary) ∷ known (codes "Note") (of_type item.Text) ∷ known (codes "Blob") (of_type item.Other)
    ∷ known (codes "Place") (of_type item.Enumeration) ∷ known (codes "Places") (of_type item.Enumerations)
    ∷ known (codes "Stock") (of_period period_type.Instant) ∷ known (codes "Flow") (of_period period_type.Duration)
    ∷ known (codes "Region") kind.Explicit ∷ known (codes "Branch") kind.Typed
    ∷ known (codes "Floor") (kind.TypedBy (simple.Bounded bounds.UnsignedByte)) ∷ known (codes "Wing") (kind.TypedBy (simple.Number number.Decimal))
    ∷ known (codes "Dialect") (kind.TypedBy simple.Language) ∷ known (codes "Code") (kind.TypedBy simple.HexBinary) ∷ []

-- The same types, and two members.
abbrev with_members : TypesValue
with_members = concepts ++ known (codes "North") kind.Member ∷ known (codes "South") kind.Member ∷ []

abbrev report_of : TypesValue → List (List ℕ × Written) → Option WrittenDecimals → List Column → ReportValue
report_of types dimensions decimals columns = record {
  info = record { base_url = None; taxonomy = [] };
  namespaces = names;
  types = types;
  level = record { dimensions = dimensions; decimals = decimals };
  templates = template columns ∷ [];
  tables = table [] ∷ [];
  parameters = [];
}

abbrev gives : TypesValue → List (List ℕ × Written) → Option WrittenDecimals → List Column → List (List ℕ) → ℕ → Result (Option Fact) CellFault
gives types dimensions decimals columns cells column =
    cell_result (record { report = report_of types dimensions decimals columns; table = 0; row = row cells; column = column })

-- A cell of one column of a concept, in the last quarter of the year 5 and in euros.
abbrev in_base : List ℕ → List ℕ → Result (Option Fact) CellFault
in_base c t = gives concepts base_level None (fact_column (codes "x") (concept c ∷ []) [] ∷ []) (t ∷ []) 0

abbrev figure : List ℕ → List ℕ → Option ℤ → Result (Option Fact) CellFault
figure c v decimals = fact (codes "x") (Some v) decimals (with_period c ++ unit (codes "iso4217:EUR"))

abbrev other : List ℕ → List ℕ → Result (Option Fact) CellFault
other c v = fact (codes "x") (Some v) None (with_period c)

-- INTEGERS WITH BOUNDS. A number out of bounds is a fault.
bytes : map (in_base (codes "eg:Byte")) (codes "127" ∷ codes "-128" ∷ codes " +007d0 " ∷ codes "128" ∷ codes "-129" ∷ codes "1.0" ∷ codes "#empty" ∷ codes "#none" ∷ [])
    ≡ figure (codes "eg:Byte") (codes "127") None ∷ figure (codes "eg:Byte") (codes "-128") None ∷ figure (codes "eg:Byte") (codes "+007") (Some (pos 0))
    ∷ Err fault.BadNumber ∷ Err fault.BadNumber ∷ Err fault.BadNumber ∷ Err fault.BadNumber ∷ Ok None ∷ []
unfolding forms_on_literals
bytes = refl

unsigned : map (in_base (codes "eg:Age")) (codes "0" ∷ codes "00255" ∷ codes "256" ∷ codes "+1" ∷ codes "-0" ∷ [])
    ≡ figure (codes "eg:Age") (codes "0") None ∷ figure (codes "eg:Age") (codes "00255") None ∷ Err fault.BadNumber ∷ Err fault.BadNumber ∷ Err fault.BadNumber ∷ []
unfolding forms_on_literals
unsigned = refl

not_negative : map (in_base (codes "eg:Owners")) (codes "-0" ∷ codes "+3" ∷ codes "-1" ∷ [])
    ≡ figure (codes "eg:Owners") (codes "-0") None ∷ figure (codes "eg:Owners") (codes "+3") None ∷ Err fault.BadNumber ∷ []
unfolding forms_on_literals
not_negative = refl

nil_number : in_base (codes "eg:Byte") (codes "#nil") ≡ fact (codes "x") None None (with_period (codes "eg:Byte") ++ unit (codes "iso4217:EUR"))
unfolding forms_on_literals
nil_number = refl

-- Behind a suffix decimals are not looked at, also where the number is out of bounds. Without one
-- their fault precedes.
abbrev with_decimals : List ℕ → List ℕ → Result (Option Fact) CellFault
with_decimals decimals t =
    gives concepts base_level (Some (d.Named (codes "d"))) (fact_column (codes "x") (concept (codes "eg:Byte") ∷ []) [] ∷ plain_column (codes "d") ∷ []) (t ∷ decimals ∷ []) 0

suffixes : with_decimals (codes "y") (codes "300d0") ∷ with_decimals (codes "y") (codes "300") ∷ with_decimals (codes "#foo") (codes "300") ∷ with_decimals (codes "#foo") (codes "300d0")
    ∷ with_decimals (codes "y") (codes "3x") ∷ with_decimals (codes "y") (codes "3d0") ∷ with_decimals (codes "2") (codes "3") ∷ []
    ≡ Err fault.BadNumber ∷ Err fault.BadDecimals ∷ Err fault.UnknownSpecial ∷ Err fault.BadNumber
    ∷ Err fault.BadDecimals ∷ figure (codes "eg:Byte") (codes "3") (Some (pos 0)) ∷ figure (codes "eg:Byte") (codes "3") (Some (pos 2)) ∷ []
unfolding forms_on_literals
suffixes = refl

suffixes_stated : map (λ k. suffix_given k (m.Text (codes "300d2")))
    (of_simple (simple.Bounded bounds.Byte) ∷ of_type item.Monetary ∷ of_type item.Shares ∷ kind.Number number.Integer ∷ of_type item.Text ∷ kind.Text ∷ [])
    ≡ Some (accuracy.Places (pos 2)) ∷ Some (accuracy.Places (pos 2)) ∷ Some (accuracy.Places (pos 2)) ∷ Some (accuracy.Places (pos 2)) ∷ None ∷ None ∷ []
unfolding forms_on_literals
suffixes_stated = refl

-- MONETARY ITEMS AND SHARES, by the unit. u is a plain column.
abbrev in_unit : List ℕ → List ℕ → List ℕ → Result (Option Fact) CellFault
in_unit c u t =
    gives concepts ((codes "entity", text (codes "eg:A1")) ∷ (codes "period", text (codes "0005Q4")) ∷ (codes "unit", reference (codes "u")) ∷ []) None
    (fact_column (codes "x") (concept c ∷ []) [] ∷ plain_column (codes "u") ∷ []) (t ∷ u ∷ []) 0

abbrev amount : List ℕ → List ℕ → Option (List ℕ) → Result (Option Fact) CellFault
amount c u v = fact (codes "x") v None (with_period c ++ unit u)

currencies : map (λ u. in_unit (codes "eg:Cash") u (codes "12.5")) (codes "iso4217:EUR" ∷ codes "iso4217:XXX" ∷ codes "iso4217:eur" ∷ codes "iso4217:EURO" ∷ codes "eg:EUR" ∷ [])
    ≡ amount (codes "eg:Cash") (codes "iso4217:EUR") (Some (codes "12.5")) ∷ amount (codes "eg:Cash") (codes "iso4217:XXX") (Some (codes "12.5"))
    ∷ Err fault.BadUnit ∷ Err fault.BadUnit ∷ Err fault.BadUnit ∷ []
unfolding forms_on_literals
currencies = refl

other_units : map (λ u. in_unit (codes "eg:Cash") u (codes "1"))
    (codes "xbrli:shares" ∷ codes "xbrli:pure" ∷ codes "(iso4217:EUR)" ∷ codes "iso4217:EUR*iso4217:EUR" ∷ codes "iso4217:EUR/xbrli:shares" ∷ [] ∷ codes "#none" ∷ [])
    ≡ Err fault.BadUnit ∷ Err fault.BadUnit ∷ Err fault.BadUnit ∷ Err fault.BadUnit ∷ Err fault.BadUnit ∷ Err fault.BadUnit ∷ Err fault.BadUnit ∷ []
unfolding forms_on_literals
other_units = refl

-- The faults of the unit's own value precede.
bad_units : map (λ u. in_unit (codes "eg:Cash") u (codes "1")) (codes "EUR" ∷ codes "zz:EUR" ∷ codes "#nil" ∷ codes "#empty" ∷ codes "#foo" ∷ [])
    ≡ Err fault.BadValue ∷ Err fault.BadValue ∷ Err fault.BadReference ∷ Err fault.BadReference ∷ Err fault.UnknownSpecial ∷ []
unfolding forms_on_literals
bad_units = refl

-- A nil fact has a unit too, and no fact has none.
units_of_nil : in_unit (codes "eg:Cash") (codes "iso4217:EUR") (codes "#nil") ∷ in_unit (codes "eg:Cash") [] (codes "#nil") ∷ in_unit (codes "eg:Cash") [] [] ∷ []
    ≡ amount (codes "eg:Cash") (codes "iso4217:EUR") None ∷ Err fault.BadUnit ∷ Ok None ∷ []
unfolding forms_on_literals
units_of_nil = refl

no_unit_written : gives concepts ((codes "period", text (codes "0005Q4")) ∷ []) None (fact_column (codes "x") (concept (codes "eg:Cash") ∷ []) [] ∷ []) (codes "1" ∷ []) 0 ≡ Err fault.BadUnit
unfolding forms_on_literals
no_unit_written = refl

shares : map (λ u. in_unit (codes "eg:Issued") u (codes "7")) (codes "xbrli:shares" ∷ codes "iso4217:EUR" ∷ codes "xbrli:pure" ∷ codes "(xbrli:shares)" ∷ codes "eg:shares" ∷ [] ∷ [])
    ≡ amount (codes "eg:Issued") (codes "xbrli:shares") (Some (codes "7")) ∷ Err fault.BadUnit ∷ Err fault.BadUnit ∷ Err fault.BadUnit ∷ Err fault.BadUnit ∷ Err fault.BadUnit ∷ []
unfolding forms_on_literals
shares = refl

-- Other numbers want no unit. The fault of a number precedes that of the unit.
units_not_wanted : in_unit (codes "eg:Count") [] (codes "7") ∷ in_unit (codes "eg:Note") [] (codes "7") ∷ in_unit (codes "eg:Cash") [] (codes "x") ∷ []
    ≡ other (codes "eg:Count") (codes "7") ∷ other (codes "eg:Note") (codes "7") ∷ Err fault.BadNumber ∷ []
unfolding forms_on_literals
units_not_wanted = refl

-- FORMS of XML Schema, trimmed of blanks.
booleans : map (in_base (codes "eg:Open")) (codes " true " ∷ codes "TRUE" ∷ codes "#empty" ∷ codes "#nil" ∷ [])
    ≡ other (codes "eg:Open") (codes "true") ∷ Err fault.BadFactValue ∷ Err fault.BadFactValue ∷ fact (codes "x") None None (with_period (codes "eg:Open")) ∷ []
unfolding forms_on_literals
booleans = refl

qnames : map (in_base (codes "eg:Rule")) (codes " eg:Cash\t" ∷ codes "zz:a" ∷ codes "Cash" ∷ codes "#empty" ∷ [])
    ≡ other (codes "eg:Rule") (codes "eg:Cash") ∷ Err fault.BadFactValue ∷ Err fault.BadFactValue ∷ Err fault.BadFactValue ∷ []
unfolding forms_on_literals
qnames = refl

dates : map (in_base (codes "eg:Day")) (codes "2024-02-29" ∷ codes "2024-02-29Z" ∷ codes " 2024-02-29+14:00" ∷ codes "2023-02-29" ∷ codes "2024-02-29+14:01" ∷ codes "#empty" ∷ [])
    ≡ other (codes "eg:Day") (codes "2024-02-29") ∷ other (codes "eg:Day") (codes "2024-02-29Z") ∷ other (codes "eg:Day") (codes "2024-02-29+14:00")
    ∷ Err fault.BadFactValue ∷ Err fault.BadFactValue ∷ Err fault.BadFactValue ∷ []
unfolding forms_on_literals
dates = refl

times : map (in_base (codes "eg:At")) (codes "2024-02-29T23:59:59.5Z" ∷ codes "9999-12-31T24:00:00" ∷ codes "2024-02-29T24:00:01" ∷ codes "2024-02-29" ∷ [])
    ≡ other (codes "eg:At") (codes "2024-02-29T23:59:59.5Z") ∷ other (codes "eg:At") (codes "9999-12-31T24:00:00") ∷ Err fault.BadFactValue ∷ Err fault.BadFactValue ∷ []
unfolding forms_on_literals
times = refl

years : map (in_base (codes "eg:Year")) (codes "2024" ∷ codes "2024Z" ∷ codes "0000" ∷ codes "24" ∷ codes "2024-01" ∷ [])
    ≡ other (codes "eg:Year") (codes "2024") ∷ other (codes "eg:Year") (codes "2024Z") ∷ Err fault.BadFactValue ∷ Err fault.BadFactValue ∷ Err fault.BadFactValue ∷ []
unfolding forms_on_literals
years = refl

durations : map (in_base (codes "eg:Term")) (codes " P1Y " ∷ codes "-P2DT0.5S" ∷ codes "P" ∷ codes "P1YT" ∷ codes "1Y" ∷ codes "#empty" ∷ [])
    ≡ other (codes "eg:Term") (codes "P1Y") ∷ other (codes "eg:Term") (codes "-P2DT0.5S") ∷ Err fault.BadFactValue ∷ Err fault.BadFactValue ∷ Err fault.BadFactValue ∷ Err fault.BadFactValue ∷ []
unfolding forms_on_literals
durations = refl

-- A language keeps the case of its letters.
languages : map (in_base (codes "eg:Tongue")) (codes " en-GB " ∷ codes "e n" ∷ codes "en-" ∷ codes "#empty" ∷ [])
    ≡ other (codes "eg:Tongue") (codes "en-GB") ∷ Err fault.BadFactValue ∷ Err fault.BadFactValue ∷ Err fault.BadFactValue ∷ []
unfolding forms_on_literals
languages = refl

keys : map (in_base (codes "eg:Key")) (codes "\na.b-1 " ∷ codes "1a" ∷ codes "a:b" ∷ codes "#empty" ∷ [])
    ≡ other (codes "eg:Key") (codes "a.b-1") ∷ Err fault.BadFactValue ∷ Err fault.BadFactValue ∷ Err fault.BadFactValue ∷ []
unfolding forms_on_literals
keys = refl

octets : map (in_base (codes "eg:Hash")) (codes " 0fB7 " ∷ codes "#empty" ∷ codes " " ∷ codes "0fB" ∷ codes "0g" ∷ [])
    ≡ other (codes "eg:Hash") (codes "0fB7") ∷ other (codes "eg:Hash") [] ∷ other (codes "eg:Hash") [] ∷ Err fault.BadFactValue ∷ Err fault.BadFactValue ∷ []
unfolding forms_on_literals
octets = refl

-- Texts and other values keep their blanks.
unchecked : map (λ c. in_base c (codes " TRUE ")) (codes "eg:Note" ∷ codes "eg:Blob" ∷ []) ∷ map (λ c. in_base c (codes "#empty")) (codes "eg:Note" ∷ codes "eg:Blob" ∷ []) ∷ []
    ≡ (other (codes "eg:Note") (codes " TRUE ") ∷ other (codes "eg:Blob") (codes " TRUE ") ∷ []) ∷ (other (codes "eg:Note") [] ∷ other (codes "eg:Blob") [] ∷ []) ∷ []
unfolding forms_on_literals
unchecked = refl

-- MEMBERS, where the types name none and where they name two. A concept may be a member.
abbrev member_of : TypesValue → List ℕ → List ℕ → Result (Option Fact) CellFault
member_of types c t = gives types base_level None (fact_column (codes "x") (concept c ∷ []) [] ∷ []) (t ∷ []) 0

any_members : map (member_of concepts (codes "eg:Place")) (codes " eg:East " ∷ codes "East" ∷ codes "zz:East" ∷ codes "eg:East eg:West" ∷ codes "#empty" ∷ [])
    ≡ other (codes "eg:Place") (codes "eg:East") ∷ Err fault.BadFactValue ∷ Err fault.BadFactValue ∷ Err fault.BadFactValue ∷ Err fault.BadFactValue ∷ []
unfolding forms_on_literals
any_members = refl

known_members : map (member_of with_members (codes "eg:Place")) (codes " eg:North " ∷ codes "eg:Cash" ∷ codes "eg:East" ∷ codes "eg:Region" ∷ codes "eg:Floor" ∷ codes "North" ∷ codes "#nil" ∷ [])
    ≡ other (codes "eg:Place") (codes "eg:North") ∷ other (codes "eg:Place") (codes "eg:Cash") ∷ Err fault.UnknownMember ∷ Err fault.UnknownMember ∷ Err fault.UnknownMember ∷ Err fault.BadFactValue
    ∷ fact (codes "x") None None (with_period (codes "eg:Place")) ∷ []
unfolding forms_on_literals
known_members = refl

any_sets : map (member_of concepts (codes "eg:Places")) (codes " eg:West\n eg:East\t" ∷ codes "#empty" ∷ codes " \t" ∷ codes "eg:East" ∷ codes "eg:East eg:East" ∷ codes "eg:East, eg:West" ∷ codes "zz:East" ∷ codes "East" ∷ [])
    ≡ other (codes "eg:Places") (codes "eg:West eg:East") ∷ other (codes "eg:Places") [] ∷ other (codes "eg:Places") [] ∷ other (codes "eg:Places") (codes "eg:East")
    ∷ Err fault.BadFactValue ∷ Err fault.BadFactValue ∷ Err fault.BadFactValue ∷ Err fault.BadFactValue ∷ []
unfolding forms_on_literals
any_sets = refl

known_sets : map (member_of with_members (codes "eg:Places")) (codes "eg:South  eg:North" ∷ codes "#empty" ∷ codes "eg:Cash eg:North" ∷ codes "eg:North eg:East" ∷ codes "eg:East eg:North" ∷ codes "eg:East eg:East" ∷ codes "#nil" ∷ [])
    ≡ other (codes "eg:Places") (codes "eg:South eg:North") ∷ other (codes "eg:Places") [] ∷ other (codes "eg:Places") (codes "eg:Cash eg:North")
    ∷ Err fault.UnknownMember ∷ Err fault.UnknownMember ∷ Err fault.BadFactValue ∷ fact (codes "x") None None (with_period (codes "eg:Places")) ∷ []
unfolding forms_on_literals
known_sets = refl

-- DIMENSIONS of a count, by the value of one of them.
abbrev along : TypesValue → List ℕ → Written → Result (Option Fact) CellFault
along types n v =
    gives types ((n, v) ∷ base_level) None (fact_column (codes "x") (concept (codes "eg:Count") ∷ []) [] ∷ plain_column (codes "b") ∷ []) (codes "1" ∷ codes "#foo" ∷ []) 0

abbrev placed : List ℕ → Option (List ℕ) → Result (Option Fact) CellFault
placed n v =
    fact (codes "x") (Some (codes "1")) None
    (entry (codes "concept") (codes "eg:Count") ∷ (n, v) ∷ entry (codes "entity") (codes "eg:A1") ∷ period quarter ++ unit (codes "iso4217:EUR"))

-- An explicit member is not trimmed.
any_explicit : map (λ t. along concepts (codes "eg:Region") (text t)) (codes "eg:East" ∷ codes " eg:East" ∷ codes "East" ∷ codes "zz:East" ∷ [])
    ≡ placed (codes "eg:Region") (Some (codes "eg:East")) ∷ Err fault.BadValue ∷ Err fault.BadValue ∷ Err fault.BadValue ∷ []
unfolding forms_on_literals
any_explicit = refl

known_explicit : map (λ t. along with_members (codes "eg:Region") (text t)) (codes "eg:North" ∷ codes "eg:Cash" ∷ codes "eg:East" ∷ codes "eg:Region" ∷ codes "East" ∷ [])
    ≡ placed (codes "eg:Region") (Some (codes "eg:North")) ∷ placed (codes "eg:Region") (Some (codes "eg:Cash")) ∷ Err fault.UnknownMember ∷ Err fault.UnknownMember ∷ Err fault.BadValue ∷ []
unfolding forms_on_literals
known_explicit = refl

known_special : map (along with_members (codes "eg:Region")) (w.Nil ∷ w.Empty ∷ reference (codes "b") ∷ []) ≡ Err fault.BadReference ∷ Err fault.BadReference ∷ Err fault.UnknownSpecial ∷ []
unfolding forms_on_literals
known_special = refl

-- Members are asked for where a value is a member, not of a typed dimension.
typed_of_any_text : along with_members (codes "eg:Branch") (text (codes " East ")) ≡ placed (codes "eg:Branch") (Some (codes " East "))
unfolding forms_on_literals
typed_of_any_text = refl

typed_integers : map (λ t. along with_members (codes "eg:Floor") (text t)) (codes " 007\t" ∷ codes "256" ∷ codes "+1" ∷ codes "7d0" ∷ codes "" ∷ [])
    ≡ placed (codes "eg:Floor") (Some (codes "007")) ∷ Err fault.BadValue ∷ Err fault.BadValue ∷ Err fault.BadValue ∷ Err fault.BadValue ∷ []
unfolding forms_on_literals
typed_integers = refl

typed_decimals : map (λ t. along concepts (codes "eg:Wing") (text t)) (codes " -1.50 " ∷ codes "1.5d0" ∷ codes "1e2" ∷ [])
    ≡ placed (codes "eg:Wing") (Some (codes "-1.50")) ∷ Err fault.BadValue ∷ Err fault.BadValue ∷ []
unfolding forms_on_literals
typed_decimals = refl

typed_languages : map (λ t. along concepts (codes "eg:Dialect") (text t)) (codes "en-GB" ∷ codes "e n" ∷ []) ≡ placed (codes "eg:Dialect") (Some (codes "en-GB")) ∷ Err fault.BadValue ∷ []
unfolding forms_on_literals
typed_languages = refl

-- Nil is nil, absent is absent, and empty is the empty text, which few types have.
typed_special : map (along concepts (codes "eg:Floor")) (w.Nil ∷ w.Absent ∷ w.Empty ∷ reference (codes "b") ∷ []) ++ map (along concepts (codes "eg:Code")) (w.Empty ∷ w.Nil ∷ [])
    ≡ placed (codes "eg:Floor") None ∷ figure (codes "eg:Count") (codes "1") None ∷ Err fault.BadValue ∷ Err fault.UnknownSpecial
    ∷ placed (codes "eg:Code") (Some []) ∷ placed (codes "eg:Code") None ∷ []
unfolding forms_on_literals
typed_special = refl

-- PERIODS by the type of a concept. p is a plain column, and a side may be asked of it.
abbrev in_period : List ℕ → Written → List ℕ → Result (Option Fact) CellFault
in_period c p t =
    gives concepts ((codes "entity", text (codes "eg:A1")) ∷ (codes "period", p) ∷ []) None
    (fact_column (codes "x") (concept c ∷ []) [] ∷ plain_column (codes "p") ∷ []) (codes "1" ∷ t ∷ []) 0

abbrev at : List ℕ → List ℕ → Result (Option Fact) CellFault
at c p = fact (codes "x") (Some (codes "1")) None (common c ++ period p)

abbrev for_ever : List ℕ → Result (Option Fact) CellFault
for_ever c = fact (codes "x") (Some (codes "1")) None (common c)

instants : map (in_period (codes "eg:Stock") (reference (codes "p"))) (codes "0005-12-31T00:00:00" ∷ codes "0005Q4@end" ∷ codes "0005Q4" ∷ codes "0005-12-31" ∷ [] ∷ codes "#none" ∷ [])
    ≡ at (codes "eg:Stock") (codes "0005-12-31T00:00:00") ∷ at (codes "eg:Stock") (codes "0006-01-01T00:00:00")
    ∷ Err fault.WrongPeriod ∷ Err fault.WrongPeriod ∷ Err fault.WrongPeriod ∷ Err fault.WrongPeriod ∷ []
unfolding forms_on_literals
instants = refl

whole_periods : map (in_period (codes "eg:Flow") (reference (codes "p"))) (codes "0005Q4" ∷ [] ∷ codes "0005-12-31T00:00:00" ∷ codes "0005Q4@start" ∷ [])
    ≡ at (codes "eg:Flow") quarter ∷ for_ever (codes "eg:Flow") ∷ Err fault.WrongPeriod ∷ Err fault.WrongPeriod ∷ []
unfolding forms_on_literals
whole_periods = refl

-- The side of a duration is an instant.
sides : in_period (codes "eg:Stock") (w.Named (codes "p") side.Start) (codes "0005Q4") ∷ in_period (codes "eg:Stock") (w.Named (codes "p") side.End) (codes "0005Q4")
    ∷ in_period (codes "eg:Flow") (w.Named (codes "p") side.End) (codes "0005Q4") ∷ []
    ≡ at (codes "eg:Stock") (codes "0005-10-01T00:00:00") ∷ at (codes "eg:Stock") (codes "0006-01-01T00:00:00") ∷ Err fault.WrongPeriod ∷ []
unfolding forms_on_literals
sides = refl

-- The faults of the period's own value stay. A concept without a type of periods takes each.
period_faults : map (in_period (codes "eg:Stock") (reference (codes "p"))) (codes "nope" ∷ codes "#nil" ∷ codes "#empty" ∷ codes "#foo" ∷ [])
    ++ map (in_period (codes "eg:Stock") (w.Named (codes "p") side.End)) (codes "0005-12-31T00:00:00" ∷ codes "nope" ∷ [])
    ++ map (in_period (codes "eg:Count") (reference (codes "p"))) (codes "0005Q4" ∷ codes "0005-12-31T00:00:00" ∷ [] ∷ [])
    ≡ Err fault.BadPeriod ∷ Err fault.BadReference ∷ Err fault.BadReference ∷ Err fault.UnknownSpecial ∷ Err fault.NotDuration ∷ Err fault.BadPeriod
    ∷ at (codes "eg:Count") quarter ∷ at (codes "eg:Count") (codes "0005-12-31T00:00:00") ∷ for_ever (codes "eg:Count") ∷ []
unfolding forms_on_literals
period_faults = refl

no_period_written : map (λ c. gives concepts [] None (fact_column (codes "x") (concept c ∷ []) [] ∷ []) (codes "#nil" ∷ []) 0) (codes "eg:Stock" ∷ codes "eg:Flow" ∷ [])
    ≡ Err fault.WrongPeriod ∷ fact (codes "x") None None (entry (codes "concept") (codes "eg:Flow") ∷ []) ∷ []
unfolding forms_on_literals
no_period_written = refl

-- ORDER: a bad form, the unit, the period, a member.
abbrev wants_all : TypesValue
wants_all =
    with_members
    ++ known (codes "Fund") (kind.Concept (record { value = item.Monetary; period = Some period_type.Instant }))
    ∷ known (codes "Town") (kind.Concept (record { value = item.Enumeration; period = Some period_type.Instant })) ∷ []

abbrev wanted : List ℕ → List ℕ → Result (Option Fact) CellFault
wanted c t = gives wants_all ((codes "period", text (codes "0005Q4")) ∷ []) None (fact_column (codes "x") (concept c ∷ []) [] ∷ []) (t ∷ []) 0

order : wanted (codes "eg:Fund") (codes "1") ∷ wanted (codes "eg:Fund") (codes "x") ∷ wanted (codes "eg:Town") (codes "eg:East") ∷ wanted (codes "eg:Town") (codes "East") ∷ []
    ≡ Err fault.BadUnit ∷ Err fault.BadNumber ∷ Err fault.WrongPeriod ∷ Err fault.BadFactValue ∷ []
unfolding forms_on_literals
order = refl

both_wanted : wanted_faults (record { report = report_of wants_all [] None (fact_column (codes "x") (concept (codes "eg:Fund") ∷ []) [] ∷ []); table = 0; row = row (codes "1" ∷ []); column = 0 })
    (kind.Concept (record { value = item.Monetary; period = Some period_type.Instant })) ≡ fault.BadUnit ∷ fault.WrongPeriod ∷ []
unfolding forms_on_literals
both_wanted = refl

-- A MEMBER is neither a concept nor a dimension, and a typed dimension no concept.
no_concepts : map (λ c. gives with_members base_level None (fact_column (codes "x") (concept c ∷ []) [] ∷ []) (codes "1" ∷ []) 0) (codes "eg:North" ∷ codes "eg:Floor" ∷ codes "eg:Region" ∷ [])
    ≡ Err fault.UnknownName ∷ Err fault.UnknownName ∷ Err fault.UnknownName ∷ []
unfolding forms_on_literals
no_concepts = refl

roles : map (role_of (report_of with_members [] None [])) (codes "eg:Floor" ∷ codes "eg:Branch" ∷ codes "eg:Region" ∷ codes "eg:North" ∷ codes "eg:Cash" ∷ [])
    ≡ role.TypedBy (simple.Bounded bounds.UnsignedByte) ∷ role.Typed ∷ role.Explicit ∷ role.Explicit ∷ role.Explicit ∷ []
unfolding forms_on_literals
roles = refl

-- KINDS of numbers and of texts.
abbrev kinds : List Kind
kinds =
    of_simple (simple.Number number.Double) ∷ of_simple (simple.Bounded bounds.Long) ∷ of_type item.Monetary ∷ of_type item.Shares ∷ of_type item.Text ∷ of_simple simple.Boolean
    ∷ of_simple simple.Language ∷ of_type item.Enumeration ∷ of_type item.Enumerations ∷ of_type item.Other ∷ kind.TypedBy (simple.Bounded bounds.Long) ∷ kind.Member ∷ []

numbers : map is_numeric kinds ≡ true ∷ true ∷ true ∷ true ∷ false ∷ false ∷ false ∷ false ∷ false ∷ false ∷ false ∷ false ∷ []
numbers = refl

texts : map is_of_text kinds ≡ false ∷ false ∷ false ∷ false ∷ true ∷ false ∷ false ∷ false ∷ false ∷ false ∷ false ∷ false ∷ []
texts = refl
