-- Cells whose results are known, found by computing the definitions. The years of periods are early
-- ones, because their days are counted fast.
use Rattle.std.proofs.Common.{◌≡◌, ℕ, ℤ, List, [], ◌∷◌, ◌++◌, Option, Some, None, Result, Ok, Err, codes, map, decimal, refl, true, false, pos, negsuc}
use Rattle.std.specs.Prelude.{⊤}
use Rattle.std.specs.Fmt.{digits}
use Rattle.std.specs.Str.{chars, is_utf8}
use lib.Utf8.{encode}
use Rattle.oim_names.specs.Bindings.{Bindings}
use Rattle.oim_names.specs.Names.{is_ncname, is_name_char, is_name_start}
use Rattle.oim_names.specs.QName.{qname_of, sqname_of}
use Rattle.oim_names.specs.Unit.{unit_of}
use Rattle.oim_names.specs.Language.{language_of}
use Rattle.oim_cells.specs.Cells.{meaning_of, numeral_of, accuracy_of}
use Rattle.oim_cells.specs.Cells as m
use Rattle.oim_cells.specs.declared.cells.NumberKind.TheVariants as number
use Rattle.oim_cells.specs.declared.cells.Accuracy.TheVariants as accuracy
use Rattle.oim_period.specs.Calendar.{days_of_years, days_of_months, day_number, is_date, is_week, is_clock}
use Rattle.oim_period.specs.Dates.{is_date_text}
use Rattle.oim_period.specs.Digits.{one_at, two_at, four_at}
use Rattle.oim_period.specs.Periods.{start_of, end_of, found, first_some, moment_by, moment_of, days_by, days_of, whole_days, in_order, pair_of}
use Rattle.oim_period.specs.Periods.{duration_of, without, period_of, first_number, year_of, month_of, date_in_year, day_text, moment_text, period_text}
use Rattle.oim_report.specs.ReportValue.{ReportValue}
use Rattle.oim_report.specs.Types.{TypesValue}
use Rattle.oim_report.specs.declared.data.Column.{Column}
use Rattle.oim_report.specs.declared.data.ColumnKind.TheVariants as column
use Rattle.oim_report.specs.declared.data.Level.{Level}
use Rattle.oim_report.specs.declared.data.Side.TheVariants as side
use Rattle.oim_report.specs.declared.data.Table.{Table}
use Rattle.oim_report.specs.declared.data.Template.{Template}
use Rattle.oim_report.specs.declared.data.Written.{Written}
use Rattle.oim_report.specs.declared.data.Written.TheVariants as w
use Rattle.oim_report.specs.declared.data.WrittenDecimals.{WrittenDecimals}
use Rattle.oim_report.specs.declared.data.WrittenDecimals.TheVariants as d
use Rattle.oim_report.specs.declared.kind.Kind.{Kind}
use Rattle.oim_report.specs.declared.kind.Kind.TheVariants as kind
use Rattle.oim_report.specs.declared.typed_name.TypedName.{TypedName}
use Rattle.oim_resolve.specs.declared.fact.Row.{Row}
use Rattle.oim_resolve.specs.FactParts.{FactParts as Fact}
use Rattle.oim_resolve.specs.declared.fact.CellFault.{CellFault}
use Rattle.oim_resolve.specs.declared.fact.CellFault.TheVariants as fault
use Rattle.oim_resolve.specs.declared.role.Role.TheVariants as role
use Rattle.oim_resolve.specs.Facts.{cell_result, early_result, rest_faults, fact_of, is_numeric, is_of_text, role_of, value_faults_of}
use Rattle.oim_resolve.specs.Faults.{name_of, number_of}
use Rattle.oim_resolve.specs.state.ProgramFaults.{both, least_of}
use Rattle.oim_resolve.specs.Order.{IsAscending, HasNamesInOrder}
use Rattle.oim_resolve.specs.Values.{literal_of, side_of}

-- What is unfolded to compute with names, with periods and with cells that are written out.
unfoldable names_on_literals : ⊤
unfolding chars is_utf8 encode is_ncname is_name_char is_name_start qname_of sqname_of unit_of language_of
names_on_literals = tt

unfoldable days_on_literals : ⊤
unfolding days_of_years days_of_months day_number is_date is_week is_clock is_date_text one_at two_at four_at
days_on_literals = tt

unfoldable periods_on_literals : ⊤
unfolding days_on_literals start_of end_of found first_some moment_by moment_of days_by days_of whole_days in_order pair_of duration_of without period_of
periods_on_literals = tt

unfoldable short_forms_on_literals : ⊤
unfolding first_number year_of month_of date_in_year day_text moment_text period_text
short_forms_on_literals = tt

unfoldable pub on_literals : ⊤
unfolding cell_result rest_faults fact_of meaning_of numeral_of accuracy_of names_on_literals periods_on_literals short_forms_on_literals
on_literals = tt

abbrev pub names : Bindings
names =
    (codes "eg", codes "http://example.com/eg")
    ∷ (codes "iso4217", codes "http://www.xbrl.org/2003/iso4217")
    ∷ (codes "xbrli", codes "http://www.xbrl.org/2003/instance")
    ∷ []

abbrev pub known : List ℕ → Kind → TypedName
known local k = record { uri = codes "http://example.com/eg"; local = local; kind = k }

abbrev types : TypesValue
types =
    known (codes "Blob") kind.Other ∷ known (codes "Branch") kind.Typed ∷ known (codes "Cash") (kind.Number number.Integer)
    ∷ known (codes "Due") kind.Date ∷ known (codes "Mass") (kind.Number number.Double) ∷ known (codes "Note") kind.Text
    ∷ known (codes "Open") kind.Boolean ∷ known (codes "Rate") (kind.Number number.Decimal) ∷ known (codes "Region") kind.Explicit
    ∷ known (codes "Rule") kind.Name ∷ []

-- A text, and a reference.
abbrev pub text : List ℕ → Written
text t = w.Text t

abbrev pub reference : List ℕ → Written
reference n = w.Named n side.Whole

abbrev level : List (List ℕ × Written) → Level
level dimensions = record { dimensions = dimensions; decimals = None }

abbrev pub base_level : List (List ℕ × Written)
base_level = (codes "entity", text (codes "eg:A1")) ∷ (codes "period", text (codes "0005Q4")) ∷ (codes "unit", text (codes "iso4217:EUR")) ∷ []

abbrev pub fact_column : List ℕ → List (List ℕ × Written) → List ℕ → Column
fact_column id dimensions from = record { id = id; kind = column.Fact; level = level dimensions; groups = []; from = from }

abbrev pub plain_column : List ℕ → Column
plain_column id = record { id = id; kind = column.Plain; level = level []; groups = []; from = [] }

abbrev pub template : List Column → Template
template columns = record { id = codes "p"; columns = columns; row_id_column = None; level = level [] }

abbrev pub table : List (List ℕ × List ℕ) → Table
table parameters = record { id = codes "t1"; url = codes "t1.csv"; is_optional = false; template = 0; parameters = parameters }

-- A report of one table t1: report dimensions and decimals, columns, the table's and the report's
-- parameters.
abbrev report : (dimensions : List (List ℕ × Written)) → Option WrittenDecimals → (columns : List Column) → (of_table of_report : List (List ℕ × List ℕ)) → ReportValue
report dimensions decimals columns of_table of_report = record {
  info = record { base_url = None; taxonomy = [] };
  namespaces = names;
  types = types;
  level = record { dimensions = dimensions; decimals = decimals };
  templates = template columns ∷ [];
  tables = table of_table ∷ [];
  parameters = of_report;
}

abbrev pub row : List (List ℕ) → Row
row cells = record { number = 1; id = codes "r_1"; cells = cells }

-- What a cell of a report of these parts gives.
abbrev gives : (dimensions : List (List ℕ × Written)) → Option WrittenDecimals → (columns : List Column) → (of_table of_report : List (List ℕ × List ℕ))
    → List (List ℕ) → ℕ → Result (Option Fact) CellFault
gives dimensions decimals columns of_table of_report cells column =
    cell_result (record { report = report dimensions decimals columns of_table of_report; table = 0; row = row cells; column = column })

abbrev pub entry : List ℕ → List ℕ → List ℕ × Option (List ℕ)
entry n t = (n, Some t)

-- Concept, entity and period of each fact.
abbrev pub common : List ℕ → List (List ℕ × Option (List ℕ))
common concept = entry (codes "concept") concept ∷ entry (codes "entity") (codes "eg:A1") ∷ []

abbrev pub period : List ℕ → List (List ℕ × Option (List ℕ))
period t = entry (codes "period") t ∷ []

abbrev pub quarter : List ℕ
quarter = codes "0005-10-01T00:00:00/0006-01-01T00:00:00"

abbrev pub with_period : List ℕ → List (List ℕ × Option (List ℕ))
with_period concept = common concept ++ period quarter

abbrev pub unit : List ℕ → List (List ℕ × Option (List ℕ))
unit u = entry (codes "unit") u ∷ []

abbrev pub fact : List ℕ → Option (List ℕ) → Option ℤ → List (List ℕ × Option (List ℕ)) → Result (Option Fact) CellFault
fact column value decimals dimensions = Ok (Some (record { id = codes "t1.r_1." ++ column; value = value; decimals = decimals; dimensions = dimensions }))

abbrev cash : List ℕ → List ℕ → List (List ℕ × Option (List ℕ)) → Result (Option Fact) CellFault
cash column value more = fact column (Some value) None (with_period (codes "eg:Cash") ++ more)

abbrev pub concept : List ℕ → List ℕ × Written
concept t = (codes "concept", text t)

-- A cell of one column of a concept.
abbrev in_base : List ℕ → List ℕ → Result (Option Fact) CellFault
in_base c t = gives base_level None (fact_column (codes "x") (concept c ∷ []) [] ∷ []) [] [] (t ∷ []) 0

abbrev note : Option (List ℕ) → Result (Option Fact) CellFault
note value = fact (codes "x") value None (with_period (codes "eg:Note"))

plain_number : in_base (codes "eg:Cash") (codes "100") ≡ cash (codes "x") (codes "100") (unit (codes "iso4217:EUR"))
unfolding on_literals
plain_number = refl

text_cell : in_base (codes "eg:Note") (codes "first") ≡ note (Some (codes "first"))
unfolding on_literals
text_cell = refl

-- SPECIAL VALUES in a text column (xBRL-CSV 1.0, special values).

special_empty : in_base (codes "eg:Note") (codes "#empty") ≡ note (Some [])
unfolding on_literals
special_empty = refl

special_nil : in_base (codes "eg:Note") (codes "#nil") ≡ note None
unfolding on_literals
special_nil = refl

special_doubled : in_base (codes "eg:Note") (codes "##x") ≡ note (Some (codes "#x"))
unfolding on_literals
special_doubled = refl

special_none : in_base (codes "eg:Note") (codes "#none") ≡ Ok None
unfolding on_literals
special_none = refl

special_nothing : in_base (codes "eg:Note") ([]) ≡ Ok None
unfolding on_literals
special_nothing = refl

special_unknown : in_base (codes "eg:Note") (codes "#foo") ≡ Err fault.UnknownSpecial
unfolding on_literals
special_unknown = refl

-- NUMERALS, with report decimals 0 (xBRL-CSV 1.0, the decimals suffix).
abbrev in_rate : List ℕ → Result (Option Fact) CellFault
in_rate t = gives base_level (Some (d.Fixed (accuracy.Places (pos 0)))) (fact_column (codes "x") (concept (codes "eg:Rate") ∷ []) [] ∷ []) [] [] (t ∷ []) 0

abbrev rate : List ℕ → Option ℤ → Result (Option Fact) CellFault
rate value decimals = fact (codes "x") (Some value) decimals (with_period (codes "eg:Rate") ++ unit (codes "iso4217:EUR"))

numeral_suffix : in_rate (codes "1250.5d-2") ≡ rate (codes "1250.5") (Some (negsuc 1))
unfolding on_literals
numeral_suffix = refl

numeral_plain : in_rate (codes " 7 ") ≡ rate (codes "7") (Some (pos 0))
unfolding on_literals
numeral_plain = refl

numeral_exact : in_rate (codes "1dINF") ≡ rate (codes "1") None
unfolding on_literals
numeral_exact = refl

numeral_bad : in_rate (codes "d3") ≡ Err fault.BadNumber
unfolding on_literals
numeral_bad = refl

numeral_empty : in_rate (codes "#empty") ≡ Err fault.BadNumber
unfolding on_literals
numeral_empty = refl

-- A nil fact has no decimals.
numeral_nil : in_rate (codes "#nil") ≡ fact (codes "x") None None (with_period (codes "eg:Rate") ++ unit (codes "iso4217:EUR"))
unfolding on_literals
numeral_nil = refl

-- GROUPS (xBRL-CSV 1.0, property groups): g names the group. Column a has the unit `#none`, b takes
-- the group's, c keeps its own.
abbrev group_columns : List Column
group_columns =
    fact_column (codes "a") (concept (codes "eg:Cash") ∷ (codes "unit", w.Absent) ∷ []) (3 ∷ [])
    ∷ fact_column (codes "b") (concept (codes "eg:Cash") ∷ []) (3 ∷ [])
    ∷ fact_column (codes "c") (concept (codes "eg:Cash") ∷ (codes "unit", text (codes "iso4217:GBP")) ∷ []) (3 ∷ [])
    ∷ record { id = codes "g"; kind = column.Groups; level = level []; groups = (codes "usd", level ((codes "unit", text (codes "iso4217:USD")) ∷ [])) ∷ []; from = [] }
    ∷ []

abbrev in_groups : List ℕ → List ℕ → ℕ → Result (Option Fact) CellFault
in_groups g t = gives base_level None group_columns [] [] (t ∷ t ∷ t ∷ g ∷ [])

group_unit_taken_away : in_groups (codes "usd") (codes "1") 0 ≡ cash (codes "a") (codes "1") []
unfolding on_literals
group_unit_taken_away = refl

group_unit_taken : in_groups (codes "usd") (codes "2") 1 ≡ cash (codes "b") (codes "2") (unit (codes "iso4217:USD"))
unfolding on_literals
group_unit_taken = refl

group_below_column : in_groups (codes "usd") (codes "3") 2 ≡ cash (codes "c") (codes "3") (unit (codes "iso4217:GBP"))
unfolding on_literals
group_below_column = refl

group_not_named : in_groups [] (codes "2") 1 ≡ cash (codes "b") (codes "2") (unit (codes "iso4217:EUR"))
unfolding on_literals
group_not_named = refl

group_unknown : in_groups (codes "gbp") (codes "2") 1 ≡ Err fault.UnknownGroup
unfolding on_literals
group_unknown = refl

group_unknown_of_no_fact : in_groups (codes "gbp") [] 1 ≡ Ok None
unfolding on_literals
group_unknown_of_no_fact = refl

-- An unknown special value precedes an unknown group.
group_order : in_groups (codes "gbp") (codes "#foo") 1 ≡ Err fault.UnknownSpecial
unfolding on_literals
group_order = refl

group_special_values : map (λ g. in_groups g (codes "2") 1) (codes "#none" ∷ codes "#nil" ∷ codes "#empty" ∷ codes "#foo" ∷ [])
    ≡ cash (codes "b") (codes "2") (unit (codes "iso4217:EUR")) ∷ Err fault.UnknownGroup ∷ Err fault.UnknownGroup ∷ Err fault.UnknownSpecial ∷ []
unfolding on_literals
group_special_values = refl

-- REFERENCES (xBRL-CSV 1.0, column and parameter references): the concept of x is that of column c,
-- or of the parameter c.
abbrev referring : (of_table of_report : List (List ℕ × List ℕ)) → List ℕ → Result (Option Fact) CellFault
referring of_table of_report c =
    gives base_level None (plain_column (codes "c") ∷ fact_column (codes "x") ((codes "concept", reference (codes "c")) ∷ []) [] ∷ []) of_table of_report (c ∷ codes "1" ∷ []) 1

abbrev parameter : List ℕ → List (List ℕ × List ℕ)
parameter t = (codes "c", t) ∷ []

reference_row_first : referring (parameter (codes "eg:Mass")) [] (codes "eg:Cash") ≡ cash (codes "x") (codes "1") (unit (codes "iso4217:EUR"))
unfolding on_literals
reference_row_first = refl

reference_table_first : referring (parameter (codes "eg:Cash")) (parameter (codes "eg:Mass")) [] ≡ cash (codes "x") (codes "1") (unit (codes "iso4217:EUR"))
unfolding on_literals
reference_table_first = refl

reference_none : referring (parameter (codes "eg:Cash")) [] (codes "#none") ≡ Err fault.NoConcept
unfolding on_literals
reference_none = refl

reference_unknown_name : referring [] [] (codes "eg:Region") ≡ Err fault.UnknownName
unfolding on_literals
reference_unknown_name = refl

-- A typed dimension, a name that the types table lacks, one without a prefix, one of a prefix that
-- is not declared, and a text that is not a name.
no_concepts : map (referring [] []) (codes "eg:Branch" ∷ codes "eg:Nowhere" ∷ codes "Cash" ∷ codes "zz:Cash" ∷ codes "1" ∷ [])
    ≡ Err fault.UnknownName ∷ Err fault.UnknownName ∷ Err fault.UnknownName ∷ Err fault.UnknownName ∷ Err fault.UnknownName ∷ []
unfolding on_literals
no_concepts = refl

reference_report_last : referring [] (parameter (codes "eg:Cash")) [] ≡ cash (codes "x") (codes "1") (unit (codes "iso4217:EUR"))
unfolding on_literals
reference_report_last = refl

-- DROPPED DIMENSIONS: units of texts and languages of numbers are dropped before they are read.
abbrev spoken : Written → List ℕ → List ℕ → Result (Option Fact) CellFault
spoken u c t =
    gives ((codes "entity", text (codes "eg:A1")) ∷ (codes "language", text (codes "en-GB")) ∷ (codes "period", text (codes "0005Q4")) ∷ (codes "unit", u) ∷ []) None
    (plain_column (codes "u") ∷ fact_column (codes "x") (concept c ∷ []) [] ∷ []) [] [] (codes "#foo" ∷ t ∷ []) 1

dropped_unit_is_not_read : spoken (reference (codes "u")) (codes "eg:Note") (codes "say")
    ≡ fact (codes "x") (Some (codes "say")) None (common (codes "eg:Note") ++ entry (codes "language") (codes "en-gb") ∷ period quarter)
unfolding on_literals
dropped_unit_is_not_read = refl

kept_unit_is_read : spoken (reference (codes "u")) (codes "eg:Cash") (codes "1") ≡ Err fault.UnknownSpecial
unfolding on_literals
kept_unit_is_read = refl

-- A unit without a prefix, and one of a prefix that is not declared.
bad_units : map (λ u. spoken (text u) (codes "eg:Cash") (codes "1")) (codes "EUR" ∷ codes "zz:EUR" ∷ []) ≡ Err fault.BadValue ∷ Err fault.BadValue ∷ []
unfolding on_literals
bad_units = refl

pure_unit : spoken (text (codes "xbrli:pure")) (codes "eg:Cash") (codes "1") ≡ cash (codes "x") (codes "1") []
unfolding on_literals
pure_unit = refl

-- TYPED AND EXPLICIT DIMENSIONS, AND SIDES. b is the plain column.
abbrev with_b : List (List ℕ × Written) → List ℕ → Result (Option Fact) CellFault
with_b dimensions b = gives dimensions None (plain_column (codes "b") ∷ fact_column (codes "x") (concept (codes "eg:Cash") ∷ []) [] ∷ []) [] [] (b ∷ codes "1" ∷ []) 1

abbrev typed : List ℕ → List (List ℕ × Written)
typed region = (codes "eg:Branch", reference (codes "b")) ∷ (codes "eg:Region", text region) ∷ base_level

abbrev sided : List (List ℕ × Written)
sided = (codes "entity", text (codes "eg:A1")) ∷ (codes "period", w.Named (codes "b") side.End) ∷ (codes "unit", text (codes "iso4217:EUR")) ∷ []

typed_nil : with_b (typed (codes "eg:North")) (codes "#nil")
    ≡ fact (codes "x") (Some (codes "1")) None
    (entry (codes "concept") (codes "eg:Cash") ∷ (codes "eg:Branch", None) ∷ entry (codes "eg:Region") (codes "eg:North") ∷ entry (codes "entity") (codes "eg:A1")
    ∷ period quarter ++ unit (codes "iso4217:EUR"))
unfolding on_literals
typed_nil = refl

explicit_bad : with_b (typed (codes "North")) [] ≡ Err fault.BadValue
unfolding on_literals
explicit_bad = refl

side_end : with_b sided (codes "0005Q4") ≡ fact (codes "x") (Some (codes "1")) None (common (codes "eg:Cash") ++ period (codes "0006-01-01T00:00:00") ++ unit (codes "iso4217:EUR"))
unfolding on_literals
side_end = refl

side_of_an_instant : with_b sided (codes "0005-12-31T00:00:00") ≡ Err fault.NotDuration
unfolding on_literals
side_of_an_instant = refl

-- A BAD PERIOD in the report is a fault only if a cell has a fact. It precedes a bad number.
abbrev bad_period : List ℕ → Result (Option Fact) CellFault
bad_period t = gives ((codes "period", text (codes "nope")) ∷ []) None (fact_column (codes "x") (concept (codes "eg:Cash") ∷ []) [] ∷ []) [] [] (t ∷ []) 0

bad_period_met : bad_period (codes "x") ≡ Err fault.BadPeriod
unfolding on_literals
bad_period_met = refl

bad_period_not_met : bad_period [] ≡ Ok None
unfolding on_literals
bad_period_not_met = refl

-- MORE GENERAL AND MORE SPECIFIC LEVELS (xBRL-CSV 1.0, dimensions).
abbrev with_parameters : (of_table of_report : List (List ℕ × List ℕ)) → (report template : Level) → List Column → List (List ℕ) → Result (Option Fact) CellFault
with_parameters of_table of_report report template columns cells = cell_result (record {
  report = record {
    info = record { base_url = None; taxonomy = [] };
    namespaces = names;
    types = types;
    level = report;
    templates = record { id = codes "p"; columns = columns; row_id_column = None; level = template } ∷ [];
    tables = table of_table ∷ [];
    parameters = of_report;
  };
  table = 0;
  row = row cells;
  column = 0;
})

abbrev with_levels : (of_report of_template : Level) → List Column → List (List ℕ) → Result (Option Fact) CellFault
with_levels = with_parameters [] []

abbrev groups_column : List ℕ → List ℕ → Level → Column
groups_column id name of_group = record { id = id; kind = column.Groups; level = level []; groups = (name, of_group) ∷ []; from = [] }

abbrev of_unit : List ℕ → Level
of_unit u = level ((codes "unit", text u) ∷ [])

template_over_report : with_levels (level base_level) (of_unit (codes "iso4217:USD")) (fact_column (codes "x") (concept (codes "eg:Cash") ∷ []) [] ∷ []) (codes "1" ∷ [])
    ≡ cash (codes "x") (codes "1") (unit (codes "iso4217:USD"))
unfolding on_literals
template_over_report = refl

-- x takes its properties from g and h, in the order that it names them. The first group is the more
-- specific.
abbrev two_groups : List ℕ → Result (Option Fact) CellFault
two_groups from =
    with_levels (level base_level) (of_unit (codes "iso4217:CHF"))
    (fact_column (codes "x") (concept (codes "eg:Cash") ∷ []) from
    ∷ groups_column (codes "g") (codes "a") (of_unit (codes "iso4217:USD")) ∷ groups_column (codes "h") (codes "a") (of_unit (codes "iso4217:GBP")) ∷ [])
    (codes "1" ∷ codes "a" ∷ codes "a" ∷ [])

first_group_first : two_groups (1 ∷ 2 ∷ []) ≡ cash (codes "x") (codes "1") (unit (codes "iso4217:USD"))
unfolding on_literals
first_group_first = refl

groups_in_the_order_named : two_groups (2 ∷ 1 ∷ []) ≡ cash (codes "x") (codes "1") (unit (codes "iso4217:GBP"))
unfolding on_literals
groups_in_the_order_named = refl

-- DECIMALS that report, template, group and column write (xBRL-CSV 1.0, decimals). d is a plain
-- column.
abbrev decimals_with : (of_table of_report : List (List ℕ × List ℕ)) → (report template group written : Option WrittenDecimals) → List ℕ → Result (Option Fact) CellFault
decimals_with of_table of_report report template group written d =
    with_parameters of_table of_report (record { dimensions = base_level; decimals = report }) (record { dimensions = []; decimals = template })
    (record { id = codes "x"; kind = column.Fact; level = record { dimensions = concept (codes "eg:Rate") ∷ []; decimals = written }; groups = []; from = 1 ∷ [] }
    ∷ groups_column (codes "g") (codes "a") (record { dimensions = []; decimals = group }) ∷ plain_column (codes "d") ∷ [])
    (codes "7" ∷ codes "a" ∷ d ∷ [])

abbrev with_decimals : (report template group column : Option WrittenDecimals) → List ℕ → Result (Option Fact) CellFault
with_decimals = decimals_with [] []

abbrev fixed : ℕ → Option WrittenDecimals
fixed n = Some (d.Fixed (accuracy.Places (pos n)))

decimals_of_each_level : with_decimals (fixed 1) None None None [] ∷ with_decimals (fixed 1) (fixed 2) None None [] ∷ with_decimals (fixed 1) (fixed 2) (fixed 3) None []
    ∷ with_decimals (fixed 1) (fixed 2) (fixed 3) (fixed 4) [] ∷ with_decimals (fixed 1) (fixed 2) (fixed 3) (Some d.Absent) [] ∷ with_decimals (fixed 1) (Some d.Absent) None None [] ∷ []
    ≡ rate (codes "7") (Some (pos 1)) ∷ rate (codes "7") (Some (pos 2)) ∷ rate (codes "7") (Some (pos 3)) ∷ rate (codes "7") (Some (pos 4)) ∷ rate (codes "7") None ∷ rate (codes "7") None ∷ []
unfolding on_literals
decimals_of_each_level = refl

decimals_by_reference : map (with_decimals (fixed 1) None None (Some (d.Named (codes "d")))) (codes "2" ∷ codes "INF" ∷ codes "#none" ∷ codes "#nil" ∷ codes "#empty" ∷ codes "x" ∷ codes "#foo" ∷ [])
    ≡ rate (codes "7") (Some (pos 2)) ∷ rate (codes "7") None ∷ rate (codes "7") None ∷ Err fault.BadDecimals ∷ Err fault.BadDecimals ∷ Err fault.BadDecimals ∷ Err fault.UnknownSpecial ∷ []
unfolding on_literals
decimals_by_reference = refl

decimals_by_row_number : with_decimals None None None (Some d.RowNumber) [] ≡ rate (codes "7") (Some (pos 1))
unfolding digits on_literals
decimals_by_row_number = refl

-- A level with `#none` removes the decimals of the more general levels. A more specific level still
-- writes its own.
abbrev none : Option WrittenDecimals
none = Some d.Absent

decimals_taken_away :
    with_decimals None None None None [] ∷ with_decimals none None None None [] ∷ with_decimals (fixed 1) (fixed 2) none None [] ∷ []
    ≡ rate (codes "7") None ∷ rate (codes "7") None ∷ rate (codes "7") None ∷ []
unfolding on_literals
decimals_taken_away = refl

decimals_given_again :
    with_decimals none (fixed 2) None None [] ∷ with_decimals (fixed 1) none (fixed 3) None [] ∷ with_decimals (fixed 1) (fixed 2) none (fixed 4) []
    ∷ with_decimals none None None (fixed 4) [] ∷ []
    ≡ rate (codes "7") (Some (pos 2)) ∷ rate (codes "7") (Some (pos 3)) ∷ rate (codes "7") (Some (pos 4)) ∷ rate (codes "7") (Some (pos 4)) ∷ []
unfolding on_literals
decimals_given_again = refl

-- Infinite decimals override and are overridden too. A fact of an exact value has no decimals.
abbrev exact : Option WrittenDecimals
exact = Some (d.Fixed accuracy.Infinite)

decimals_infinite : with_decimals (fixed 1) exact None None [] ∷ with_decimals (fixed 1) None exact None [] ∷ with_decimals exact None (fixed 3) None [] ∷ []
    ≡ rate (codes "7") None ∷ rate (codes "7") None ∷ rate (codes "7") (Some (pos 3)) ∷ []
unfolding on_literals
decimals_infinite = refl

-- A reference at each of the more general levels, to the plain column d: a number, no cell, and the
-- special values.
abbrev by_name : Option WrittenDecimals
by_name = Some (d.Named (codes "d"))

abbrev cells_of_decimals : List (List ℕ)
cells_of_decimals = codes "-3" ∷ [] ∷ codes "#none" ∷ codes "#nil" ∷ codes "#empty" ∷ codes "#foo" ∷ []

abbrev answers_of_decimals : List (Result (Option Fact) CellFault)
answers_of_decimals =
    rate (codes "7") (Some (negsuc 2)) ∷ rate (codes "7") None ∷ rate (codes "7") None ∷ Err fault.BadDecimals ∷ Err fault.BadDecimals ∷ Err fault.UnknownSpecial ∷ []

decimals_by_reference_of_a_group : map (with_decimals (fixed 1) (fixed 2) by_name None) cells_of_decimals ≡ answers_of_decimals
unfolding on_literals
decimals_by_reference_of_a_group = refl

decimals_by_reference_of_a_template : map (with_decimals (fixed 1) by_name None None) cells_of_decimals ≡ answers_of_decimals
unfolding on_literals
decimals_by_reference_of_a_template = refl

decimals_by_reference_of_a_report : map (with_decimals by_name None None None) cells_of_decimals ≡ answers_of_decimals
unfolding on_literals
decimals_by_reference_of_a_report = refl

-- A reference that a more specific level overrides is not read.
decimals_overridden :
    with_decimals by_name (fixed 2) None None (codes "x") ∷ with_decimals None by_name (fixed 3) None (codes "x") ∷ with_decimals None None by_name (fixed 4) (codes "x")
    ∷ with_decimals by_name by_name none None (codes "x") ∷ []
    ≡ rate (codes "7") (Some (pos 2)) ∷ rate (codes "7") (Some (pos 3)) ∷ rate (codes "7") (Some (pos 4)) ∷ rate (codes "7") None ∷ []
unfolding on_literals
decimals_overridden = refl

-- If the row's cell is empty, the parameter d is used: the table's, else the report's. A parameter
-- may be `#none` too.
abbrev parameter_d : List ℕ → List (List ℕ × List ℕ)
parameter_d t = (codes "d", t) ∷ []

decimals_by_parameter_of_a_table :
    map (λ t. decimals_with (parameter_d t) (parameter_d (codes "5")) (fixed 1) None by_name None []) (codes "3" ∷ codes "#none" ∷ codes "#nil" ∷ codes "#empty" ∷ [])
    ≡ rate (codes "7") (Some (pos 3)) ∷ rate (codes "7") None ∷ Err fault.BadDecimals ∷ Err fault.BadDecimals ∷ []
unfolding on_literals
decimals_by_parameter_of_a_table = refl

decimals_by_parameter_of_a_report :
    map (λ t. decimals_with [] (parameter_d t) by_name None None None []) (codes "3" ∷ codes "#none" ∷ codes "#nil" ∷ codes "#empty" ∷ [])
    ≡ rate (codes "7") (Some (pos 3)) ∷ rate (codes "7") None ∷ Err fault.BadDecimals ∷ Err fault.BadDecimals ∷ []
unfolding on_literals
decimals_by_parameter_of_a_report = refl

decimals_by_parameter_of_a_template :
    map (decimals_with (parameter_d (codes "3")) (parameter_d (codes "5")) (fixed 1) by_name None None) ([] ∷ codes "2" ∷ codes "#none" ∷ [])
    ≡ rate (codes "7") (Some (pos 3)) ∷ rate (codes "7") (Some (pos 2)) ∷ rate (codes "7") None ∷ []
unfolding on_literals
decimals_by_parameter_of_a_template = refl

-- Decimals are not read for a nil fact, for a numeral with a suffix, and for a concept that is not
-- numeric.
abbrev with_bad_decimals : List ℕ → List ℕ → Result (Option Fact) CellFault
with_bad_decimals c t =
    gives base_level (Some (d.Named (codes "d"))) (fact_column (codes "x") (concept c ∷ []) [] ∷ plain_column (codes "d") ∷ []) [] [] (t ∷ codes "y" ∷ []) 0

decimals_not_read :
    with_bad_decimals (codes "eg:Rate") (codes "#nil") ∷ with_bad_decimals (codes "eg:Rate") (codes "7d1") ∷ with_bad_decimals (codes "eg:Note") (codes "7") ∷ []
    ≡ fact (codes "x") None None (with_period (codes "eg:Rate") ++ unit (codes "iso4217:EUR")) ∷ rate (codes "7") (Some (pos 1)) ∷ note (Some (codes "7")) ∷ []
unfolding on_literals
decimals_not_read = refl

-- A fact that is not numeric has none, whatever a level writes.
decimals_of_a_text : gives base_level (fixed 1) (fact_column (codes "x") (concept (codes "eg:Note") ∷ []) [] ∷ []) [] [] (codes "7" ∷ []) 0 ≡ note (Some (codes "7"))
unfolding on_literals
decimals_of_a_text = refl

-- NIL AND EMPTY for each role, by reference to the plain column b (xBRL-CSV 1.0, special values).
abbrev referred : List ℕ → List ℕ → List ℕ → Result (Option Fact) CellFault
referred c n t = gives base_level None (plain_column (codes "b") ∷ fact_column (codes "x") (concept c ∷ (n, reference (codes "b")) ∷ []) [] ∷ []) [] [] (t ∷ codes "1" ∷ []) 1

abbrev roles : List (List ℕ)
roles = codes "entity" ∷ codes "period" ∷ codes "unit" ∷ codes "eg:Region" ∷ []

abbrev refused : List (Result (Option Fact) CellFault)
refused = Err fault.BadReference ∷ Err fault.BadReference ∷ Err fault.BadReference ∷ Err fault.BadReference ∷ []

abbrev with_branch : Option (List ℕ) → Result (Option Fact) CellFault
with_branch v =
    fact (codes "x") (Some (codes "1")) None
    (entry (codes "concept") (codes "eg:Cash") ∷ (codes "eg:Branch", v) ∷ entry (codes "entity") (codes "eg:A1") ∷ period quarter ++ unit (codes "iso4217:EUR"))

nil_by_reference : map (λ n. referred (codes "eg:Cash") n (codes "#nil")) roles ≡ refused
unfolding on_literals
nil_by_reference = refl

empty_by_reference : map (λ n. referred (codes "eg:Cash") n (codes "#empty")) roles ≡ refused
unfolding on_literals
empty_by_reference = refl

language_by_reference : map (referred (codes "eg:Note") (codes "language")) (codes "#nil" ∷ codes "#empty" ∷ codes "#none" ∷ codes "e n" ∷ [])
    ≡ Err fault.BadReference ∷ Err fault.BadReference ∷ fact (codes "x") (Some (codes "1")) None (with_period (codes "eg:Note")) ∷ Err fault.BadValue ∷ []
unfolding on_literals
language_by_reference = refl

typed_by_reference : map (referred (codes "eg:Cash") (codes "eg:Branch")) (codes "#nil" ∷ codes "#empty" ∷ []) ≡ with_branch None ∷ with_branch (Some []) ∷ []
unfolding on_literals
typed_by_reference = refl

-- Literals, the same in every row, and references.
literals : map literal_of (w.Absent ∷ w.Nil ∷ w.Empty ∷ text (codes "a") ∷ reference (codes "a") ∷ w.RowNumber side.Whole ∷ [])
    ≡ Some m.Absent ∷ Some m.Nil ∷ Some m.Empty ∷ Some (m.Text (codes "a")) ∷ None ∷ None ∷ []
literals = refl

-- Nil and empty as literals.
literal_branches : map (λ x. with_b ((codes "eg:Branch", x) ∷ base_level) []) (w.Nil ∷ w.Empty ∷ w.Absent ∷ [])
    ≡ with_branch None ∷ with_branch (Some []) ∷ cash (codes "x") (codes "1") (unit (codes "iso4217:EUR")) ∷ []
unfolding on_literals
literal_branches = refl

-- A reference to neither a cell nor a parameter writes nothing.
unanswered_reference : with_b ((codes "eg:Branch", reference (codes "z")) ∷ base_level) [] ≡ cash (codes "x") (codes "1") (unit (codes "iso4217:EUR"))
unfolding on_literals
unanswered_reference = refl

literal_regions : map (λ x. with_b ((codes "eg:Region", x) ∷ base_level) []) (w.Nil ∷ w.Empty ∷ []) ≡ Err fault.BadReference ∷ Err fault.BadReference ∷ []
unfolding on_literals
literal_regions = refl

concept_by_reference : map (referring [] []) (codes "#nil" ∷ codes "#empty" ∷ codes "#foo" ∷ []) ≡ Err fault.BadReference ∷ Err fault.BadReference ∷ Err fault.UnknownSpecial ∷ []
unfolding on_literals
concept_by_reference = refl

-- A LANGUAGE AND A UNIT for each kind of concept: the language of a text, the unit of a number, and
-- neither for another.

kinds_drop : map (λ c. spoken (text (codes "iso4217:EUR")) c (codes "1")) (codes "eg:Note" ∷ codes "eg:Cash" ∷ codes "eg:Blob" ∷ [])
    ≡ fact (codes "x") (Some (codes "1")) None (common (codes "eg:Note") ++ entry (codes "language") (codes "en-gb") ∷ period quarter) ∷ cash (codes "x") (codes "1") (unit (codes "iso4217:EUR"))
    ∷ fact (codes "x") (Some (codes "1")) None (with_period (codes "eg:Blob")) ∷ []
unfolding on_literals
kinds_drop = refl

abbrev kinds : List Kind
kinds = kind.Number number.Integer ∷ kind.Text ∷ kind.Boolean ∷ kind.Date ∷ kind.Name ∷ kind.Other ∷ kind.Explicit ∷ kind.Typed ∷ []

units_of_numbers : map is_numeric kinds ≡ true ∷ false ∷ false ∷ false ∷ false ∷ false ∷ false ∷ false ∷ []
units_of_numbers = refl

languages_of_texts : map is_of_text kinds ≡ false ∷ true ∷ false ∷ false ∷ false ∷ false ∷ false ∷ false ∷ []
languages_of_texts = refl

-- NAMES OF DIMENSIONS (Open Information Model 1.0): five that each report has. Another one is
-- typed if the types table says so, and otherwise explicit.

role_names : map (role_of (report [] None [] [] [])) (codes "concept" ∷ codes "entity" ∷ codes "period" ∷ codes "unit" ∷ codes "language" ∷ codes "eg:Branch" ∷ [])
    ≡ role.Concept ∷ role.Entity ∷ role.Period ∷ role.Unit ∷ role.Language ∷ role.Typed ∷ []
unfolding on_literals
role_names = refl

explicit_names : map (role_of (report [] None [] [] []))
    (codes "eg:Region" ∷ codes "eg:Nowhere" ∷ codes "eg:Blob" ∷ codes "eg:Cash" ∷ codes "eg:Due" ∷ codes "eg:Note" ∷ codes "eg:Open" ∷ codes "eg:Rule" ∷ [])
    ≡ role.Explicit ∷ role.Explicit ∷ role.Explicit ∷ role.Explicit ∷ role.Explicit ∷ role.Explicit ∷ role.Explicit ∷ role.Explicit ∷ []
unfolding on_literals
explicit_names = refl

-- The local part of an entity's identifier may begin with a digit, that of another name may not.
entity_of_digits : gives ((codes "entity", text (codes "eg:12-34")) ∷ (codes "period", text (codes "0005Q4")) ∷ []) None
    (fact_column (codes "x") (concept (codes "eg:Note") ∷ []) [] ∷ []) [] [] (codes "a" ∷ []) 0
    ≡ fact (codes "x") (Some (codes "a")) None (entry (codes "concept") (codes "eg:Note") ∷ entry (codes "entity") (codes "eg:12-34") ∷ period quarter)
unfolding on_literals
entity_of_digits = refl

-- BOOLEANS, DATES AND NAMES: trimmed of blanks, without unit and language.

abbrev of_concept : List ℕ → Option (List ℕ) → Result (Option Fact) CellFault
of_concept c value = fact (codes "x") value None (with_period c)

booleans : map (in_base (codes "eg:Open")) (codes " true " ∷ codes "1" ∷ codes "#nil" ∷ codes "#none" ∷ codes "TRUE" ∷ codes "#empty" ∷ codes " " ∷ [])
    ≡ of_concept (codes "eg:Open") (Some (codes "true")) ∷ of_concept (codes "eg:Open") (Some (codes "1")) ∷ of_concept (codes "eg:Open") None ∷ Ok None
    ∷ Err fault.BadFactValue ∷ Err fault.BadFactValue ∷ Err fault.BadFactValue ∷ []
unfolding on_literals
booleans = refl

dates : map (in_base (codes "eg:Due")) (codes "2024-02-29" ∷ codes "2023-02-29" ∷ codes "2024-02-29Z" ∷ codes "24-2-29" ∷ codes "#empty" ∷ codes "#nil" ∷ [])
    ≡ of_concept (codes "eg:Due") (Some (codes "2024-02-29"))
    ∷ Err fault.BadFactValue ∷ Err fault.BadFactValue ∷ Err fault.BadFactValue ∷ Err fault.BadFactValue ∷ of_concept (codes "eg:Due") None ∷ []
unfolding on_literals
dates = refl

qnames : map (in_base (codes "eg:Rule")) (codes "eg:Cash" ∷ codes " eg:Cash\t" ∷ codes "Cash" ∷ codes "zz:a" ∷ codes "#empty" ∷ codes "#nil" ∷ [])
    ≡ of_concept (codes "eg:Rule") (Some (codes "eg:Cash")) ∷ of_concept (codes "eg:Rule") (Some (codes "eg:Cash"))
    ∷ Err fault.BadFactValue ∷ Err fault.BadFactValue ∷ Err fault.BadFactValue ∷ of_concept (codes "eg:Rule") None ∷ []
unfolding on_literals
qnames = refl

no_language : spoken (text (codes "iso4217:EUR")) (codes "eg:Open") (codes "1") ≡ of_concept (codes "eg:Open") (Some (codes "1"))
unfolding on_literals
no_language = refl

-- Another concept's text keeps its blanks.
blanks_of_others : in_base (codes "eg:Blob") (codes " TRUE ") ≡ of_concept (codes "eg:Blob") (Some (codes " TRUE "))
unfolding on_literals
blanks_of_others = refl

-- THE ROW NUMBER, AND THE START of a duration (xBRL-CSV 1.0, period suffixes).

row_number : with_b ((codes "eg:Branch", w.RowNumber side.Whole) ∷ base_level) [] ≡ with_branch (Some (decimal 1))
unfolding on_literals
row_number = refl

side_start : with_b ((codes "entity", text (codes "eg:A1")) ∷ (codes "period", w.Named (codes "b") side.Start) ∷ (codes "unit", text (codes "iso4217:EUR")) ∷ []) (codes "0005Q4")
    ≡ fact (codes "x") (Some (codes "1")) None (common (codes "eg:Cash") ++ period (codes "0005-10-01T00:00:00") ++ unit (codes "iso4217:EUR"))
unfolding on_literals
side_start = refl

start_of_an_instant : with_b ((codes "entity", text (codes "eg:A1")) ∷ (codes "period", w.Named (codes "b") side.Start) ∷ []) (codes "0005-12-31T00:00:00") ≡ Err fault.NotDuration
unfolding on_literals
start_of_an_instant = refl

sides_asked_for : map side_of (w.RowNumber side.Start ∷ w.Named (codes "b") side.End ∷ reference (codes "b") ∷ text (codes "b") ∷ []) ≡ side.Start ∷ side.End ∷ side.Whole ∷ side.Whole ∷ []
sides_asked_for = refl

-- THE FIRST TWO STEPS: no fact, a fault of the cell or its groups, a fault of the concept, or no
-- result yet.

abbrev early : ReportValue → List (List ℕ) → ℕ → Option (Result (Option Fact) CellFault)
early r cells column = early_result (record { report = r; table = 0; row = row cells; column = column })

abbrev early_in_groups : List ℕ → List ℕ → Option (Result (Option Fact) CellFault)
early_in_groups g t = early (report base_level None group_columns [] []) (t ∷ t ∷ t ∷ g ∷ []) 1

early_answers : early_in_groups (codes "gbp") [] ∷ early_in_groups (codes "gbp") (codes "2") ∷ early_in_groups (codes "usd") (codes "x") ∷ []
    ≡ Some (Ok None) ∷ Some (Err fault.UnknownGroup) ∷ None ∷ []
unfolding early_result on_literals
early_answers = refl

early_concept : early (report base_level None (fact_column (codes "x") [] [] ∷ []) [] []) (codes "1" ∷ []) 0 ≡ Some (Err fault.NoConcept)
unfolding early_result on_literals
early_concept = refl

-- A concept that is nil, empty or unknown is a fault of the second step, so the other dimensions
-- are not read. c is a plain column.
abbrev early_of_concept : List ℕ → Option (Result (Option Fact) CellFault)
early_of_concept c = early (report base_level None (plain_column (codes "c") ∷ fact_column (codes "x") ((codes "concept", reference (codes "c")) ∷ []) [] ∷ []) [] []) (c ∷ codes "1" ∷ []) 1

early_concepts : map early_of_concept (codes "#nil" ∷ codes "#empty" ∷ codes "#foo" ∷ codes "eg:Region" ∷ codes "eg:Cash" ∷ [])
    ≡ Some (Err fault.BadReference) ∷ Some (Err fault.BadReference) ∷ Some (Err fault.UnknownSpecial) ∷ Some (Err fault.UnknownName) ∷ None ∷ []
unfolding early_result on_literals
early_concepts = refl

-- ORDER OF FAULTS in the last step: a bad value before a bad period, bad decimals before a bad
-- number.

bad_value_first : gives ((codes "entity", text (codes "A1")) ∷ (codes "period", text (codes "nope")) ∷ []) None
    (fact_column (codes "x") (concept (codes "eg:Cash") ∷ []) [] ∷ []) [] [] (codes "x" ∷ []) 0 ≡ Err fault.BadValue
unfolding on_literals
bad_value_first = refl

bad_decimals_first : gives base_level (Some (d.Named (codes "d")))
    (fact_column (codes "x") (concept (codes "eg:Cash") ∷ []) [] ∷ plain_column (codes "d") ∷ []) [] [] (codes "x" ∷ codes "y" ∷ []) 0 ≡ Err fault.BadDecimals
unfolding on_literals
bad_decimals_first = refl

bad_period_before_a_bad_boolean : gives ((codes "entity", text (codes "eg:A1")) ∷ (codes "period", text (codes "nope")) ∷ []) None
    (fact_column (codes "x") (concept (codes "eg:Open") ∷ []) [] ∷ []) [] [] (codes "TRUE" ∷ []) 0 ≡ Err fault.BadPeriod
unfolding on_literals
bad_period_before_a_bad_boolean = refl

bad_period_alone : value_faults_of (report [] None [] [] []) role.Period side.Whole (m.Text (codes "nope")) ≡ fault.BadPeriod ∷ []
unfolding on_literals
bad_period_alone = refl

-- The fault with the lesser number, if both have one.
abbrev joined : Result ℕ CellFault → Result ℕ CellFault → Result (ℕ × ℕ) CellFault
joined = both (λ a b. (a, b))

two_readings : joined (Ok 1) (Ok 2) ∷ joined (Ok 1) (Err fault.BadValue) ∷ joined (Err fault.BadPeriod) (Ok 2) ∷ joined (Err fault.BadPeriod) (Err fault.BadValue) ∷ []
    ≡ Ok (1, 2) ∷ Err fault.BadValue ∷ Err fault.BadPeriod ∷ Err fault.BadValue ∷ []
two_readings = refl

two_faults : least_of None (Some fault.BadValue) ∷ least_of (Some fault.BadPeriod) None ∷ least_of (Some fault.BadPeriod) (Some fault.BadValue) ∷ []
    ≡ Some fault.BadValue ∷ Some fault.BadPeriod ∷ Some fault.BadValue ∷ []
two_faults = refl

-- THE FAULTS by number and name.
all_faults : List CellFault
all_faults =
    fault.UnknownSpecial ∷ fault.UnknownGroup ∷ fault.NoConcept ∷ fault.UnknownName ∷ fault.BadReference ∷ fault.BadValue
    ∷ fault.BadPeriod ∷ fault.NotDuration ∷ fault.BadDecimals ∷ fault.BadNumber ∷ fault.Memory ∷ fault.BadFactValue ∷ fault.BadUnit
    ∷ fault.WrongPeriod ∷ fault.UnknownMember ∷ []

numbers : map number_of all_faults ≡ 31 ∷ 32 ∷ 33 ∷ 34 ∷ 35 ∷ 36 ∷ 37 ∷ 38 ∷ 39 ∷ 40 ∷ 42 ∷ 44 ∷ 45 ∷ 46 ∷ 47 ∷ []
unfolding all_faults
numbers = refl

fault_names :
    map name_of all_faults
    ≡ codes "UnknownSpecial" ∷ codes "UnknownGroup" ∷ codes "NoConcept" ∷ codes "UnknownName" ∷ codes "BadReference" ∷ codes "BadValue"
    ∷ codes "BadPeriod" ∷ codes "NotDuration" ∷ codes "BadDecimals" ∷ codes "BadNumber" ∷ codes "Memory" ∷ codes "BadFactValue" ∷ codes "BadUnit"
    ∷ codes "WrongPeriod" ∷ codes "UnknownMember" ∷ []
unfolding all_faults
fault_names = refl

-- NAMES IN ORDER: by their bytes, so capital letters precede small ones, and a name precedes a
-- longer one that begins with it.
ascending : IsAscending (codes "Concept" ∷ codes "a" ∷ codes "ab" ∷ codes "b" ∷ [])
ascending = ((refl, (refl, (refl, tt))), ((refl, (refl, tt)), ((refl, tt), (tt, tt))))

no_names : IsAscending []
no_names = tt

descending : IsAscending (codes "b" ∷ codes "a" ∷ []) → ⊥
descending names = let e = names.0.0 in cc

name_twice : IsAscending (codes "a" ∷ codes "a" ∷ []) → ⊥
name_twice names = let e = names.0.0 in cc

-- Each name is compared with each name after it.
last_is_less : IsAscending (codes "b" ∷ codes "c" ∷ codes "a" ∷ []) → ⊥
last_is_less names = let e = names.1.0.0 in cc

-- A fact's dimensions are in order by their names, whatever their values. A fault has no names, and
-- neither has an absent fact.
ordered_fact : HasNamesInOrder (cash (codes "x") (codes "1") (unit (codes "iso4217:EUR")))
ordered_fact = ((refl, (refl, (refl, tt))), ((refl, (refl, tt)), ((refl, tt), (tt, tt))))

unordered_fact : HasNamesInOrder (fact (codes "x") None None (unit (codes "a") ++ period (codes "b"))) → ⊥
unordered_fact names = let e = names.0.0 in cc

no_fact : HasNamesInOrder (Ok None) × HasNamesInOrder (Err fault.BadValue)
no_fact = (tt, tt)
