-- Cells whose origins, writers and sources are known, found by computing the definitions.
use Rattle.std.proofs.Common.{◌≡◌, ℕ, List, [], ◌∷◌, Option, Some, None, codes, map, refl, false, pos}
use Rattle.std.specs.Prelude.{⊤}
use Rattle.oim_cells.specs.Cells.{Meaning}
use Rattle.oim_cells.specs.Cells as m
use Rattle.oim_cells.specs.declared.cells.Accuracy.TheVariants as accuracy
use Rattle.oim_cells.specs.declared.cells.NumberKind.TheVariants as number
use Rattle.oim_report.specs.Types.{TypesValue}
use Rattle.oim_report.specs.declared.data.Column.{Column}
use Rattle.oim_report.specs.declared.data.ColumnKind.TheVariants as column
use Rattle.oim_report.specs.declared.data.Level.{Level}
use Rattle.oim_report.specs.declared.data.Side.TheVariants as side
use Rattle.oim_report.specs.declared.data.Written.{Written}
use Rattle.oim_report.specs.declared.data.Written.TheVariants as w
use Rattle.oim_report.specs.declared.data.WrittenDecimals.{WrittenDecimals}
use Rattle.oim_report.specs.declared.data.WrittenDecimals.TheVariants as d
use Rattle.oim_report.specs.declared.kind.Kind.TheVariants as kind
use Rattle.oim_report.specs.declared.kind.PeriodType.TheVariants as wanted
use Rattle.oim_report.specs.declared.kind.ValueType.TheVariants as item
use Rattle.oim_schema.specs.Units.{is_currency}
use Rattle.oim_resolve.specs.Cell.{Cell}
use Rattle.oim_resolve.specs.declared.fact.CellFault.{CellFault}
use Rattle.oim_resolve.specs.declared.fact.CellFault.TheVariants as fault
use Rattle.oim_resolve.specs.Origins.{Origin, OwnCell, GroupCell, Dimension, Decimals, origin_of}
use Rattle.oim_resolve.specs.Sources.{source_of, value_from}
use Rattle.oim_resolve.specs.Writers.{decimals_writer, writer_of}
use Rattle.oim_resolve.specs.declared.cell.sources.CellSource.{CellSource}
use Rattle.oim_resolve.specs.declared.cell.sources.CellSource.TheVariants as source
use Rattle.oim_resolve.specs.declared.cell.writers.Writer.{Writer}
use Rattle.oim_resolve.specs.declared.cell.writers.Writer.TheVariants as writer
use Rattle.oim_resolve.proofs.Examples.{concept, known, names, on_literals, plain_column, reference, text}

unfoldable origins_on_literals : ⊤
unfolding on_literals is_currency
origins_on_literals = tt

-- Cash is monetary and of an instant, Fee of any period.
abbrev types : TypesValue
types =
    known (codes "Cash") (kind.Concept (record { value = item.Monetary; period = Some wanted.Instant }))
    ∷ known (codes "Fee") (kind.Concept (record { value = item.Monetary; period = None })) ∷ known (codes "North") kind.Member ∷ known (codes "Note") kind.Text
    ∷ known (codes "Rate") (kind.Number number.Decimal) ∷ known (codes "Region") kind.Explicit ∷ []

abbrev Dimensions : Type 0
Dimensions = List (List ℕ × Written)

abbrev level : Dimensions → Level
level dimensions = record { dimensions = dimensions; decimals = None }

abbrev unit : List ℕ → List ℕ × Written
unit t = (codes "unit", text t)

-- The column of the facts, at place 0, and one of property groups that has the group a.
abbrev facts : Level → List ℕ → Column
facts l from = record { id = codes "x"; kind = column.Fact; level = l; groups = []; from = from }

abbrev groups : List ℕ → Level → Column
groups id a = record { id = id; kind = column.Groups; level = level []; groups = (codes "a", a) ∷ []; from = [] }

-- The cell at place 0 of a row, in a report of these levels, columns and parameters.
abbrev cell_with : (report template : Level) → List Column → (of_table of_report : List (List ℕ × List ℕ)) → List (List ℕ) → Cell
cell_with report template columns of_table of_report cells = record {
  report = record {
    info = record { base_url = None; taxonomy = [] };
    namespaces = names;
    types = types;
    level = report;
    templates = record { id = codes "p"; columns = columns; row_id_column = None; level = template } ∷ [];
    tables = record { id = codes "t"; url = codes "t.csv"; is_optional = false; template = 0; parameters = of_table } ∷ [];
    parameters = of_report;
  };
  table = 0;
  row = record { number = 7; id = codes "r_7"; cells = cells };
  column = 0;
}

-- ORIGINS

-- What causes a fault of the first cell, whose text is x. The cells of the columns g and h name
-- property groups, first that of h.
abbrev groups_cause : CellFault → List ℕ → List ℕ → List ℕ → Option Origin
groups_cause f x g h =
    origin_of (cell_with (level []) (level []) (facts (level (concept (codes "eg:Note") ∷ [])) (2 ∷ 1 ∷ []) ∷ groups (codes "g") (level []) ∷ groups (codes "h") (level []) ∷ []) [] [] (x ∷ g ∷ h ∷ [])) f

-- The cell is read before the cells of its property groups.
unknown_specials :
    groups_cause fault.UnknownSpecial (codes "#foo") (codes "a") (codes "a")
    ∷ groups_cause fault.UnknownSpecial (codes "#foo") (codes "#bar") (codes "#bar")
    ∷ groups_cause fault.UnknownSpecial (codes "1") (codes "#bar") (codes "a")
    ∷ []
    ≡ Some OwnCell ∷ Some OwnCell ∷ Some (GroupCell 1) ∷ []
unfolding origins_on_literals
unknown_specials = refl

unknown_groups : map (λ g. groups_cause fault.UnknownGroup (codes "1") g (codes "a")) (codes "b" ∷ codes "#nil" ∷ codes "#empty" ∷ [] ∷ codes "#none" ∷ [])
    ≡ Some (GroupCell 1) ∷ Some (GroupCell 1) ∷ Some (GroupCell 1) ∷ None ∷ None ∷ []
unfolding origins_on_literals
unknown_groups = refl

-- The order is that of `propertiesFrom`, not that of the columns. Each cell may have its own fault.
two_groups : groups_cause fault.UnknownGroup (codes "1") (codes "b") (codes "b") ∷ map (λ f. groups_cause f (codes "1") (codes "b") (codes "#bar")) (fault.UnknownSpecial ∷ fault.UnknownGroup ∷ [])
    ≡ Some (GroupCell 2) ∷ Some (GroupCell 2) ∷ Some (GroupCell 1) ∷ []
unfolding origins_on_literals
two_groups = refl

-- What causes a fault of the first cell, whose text is x, if the report writes the given dimensions
-- and the decimals of the plain column b.
abbrev causes : CellFault → Dimensions → List ℕ → List ℕ → Option Origin
causes f dimensions x b =
    origin_of (cell_with (record { dimensions = dimensions; decimals = Some (d.Named (codes "b")) }) (level []) (facts (level []) [] ∷ plain_column (codes "b") ∷ []) [] [] (x ∷ b ∷ [])) f

abbrev good : List ℕ → Dimensions
good c = concept c ∷ (codes "entity", text (codes "eg:A1")) ∷ (codes "period", text (codes "0005-12-31T00:00:00")) ∷ unit (codes "iso4217:EUR") ∷ []

no_fault : map (λ f. causes f (good (codes "eg:Cash")) (codes "1") (codes "0")) (fault.UnknownSpecial ∷ fault.BadDecimals ∷ fault.BadUnit ∷ fault.WrongPeriod ∷ fault.BadNumber ∷ fault.Memory ∷ [])
    ≡ None ∷ None ∷ None ∷ None ∷ None ∷ None ∷ []
unfolding origins_on_literals
no_fault = refl

-- The concept is read before the other dimensions.
concepts :
    causes fault.NoConcept [] (codes "1") []
    ∷ causes fault.UnknownName (good (codes "eg:Nowhere")) (codes "1") []
    ∷ causes fault.BadReference ((codes "concept", w.Nil) ∷ (codes "entity", w.Nil) ∷ []) (codes "1") []
    ∷ []
    ≡ Some (Dimension (codes "concept")) ∷ Some (Dimension (codes "concept")) ∷ Some (Dimension (codes "concept")) ∷ []
unfolding origins_on_literals
concepts = refl

-- The names are in byte order.
dimensions :
    causes fault.UnknownSpecial ((codes "concept", text (codes "eg:Note")) ∷ (codes "period", reference (codes "b")) ∷ []) (codes "1") (codes "#foo")
    ∷ causes fault.BadValue (concept (codes "eg:Cash") ∷ (codes "eg:Region", text (codes "North")) ∷ unit (codes "EUR") ∷ []) (codes "1") []
    ∷ []
    ≡ Some (Dimension (codes "period")) ∷ Some (Dimension (codes "eg:Region")) ∷ []
unfolding origins_on_literals
dimensions = refl

-- The types table names only the member eg:North (XBRL Dimensions 1.0). A text without a prefix is
-- not well-formed, and no known member either: the least fault counts.
abbrev region : List ℕ → Dimensions
region t = concept (codes "eg:Note") ∷ (codes "eg:Region", text t) ∷ []

members : causes fault.UnknownMember (region (codes "eg:South")) (codes "1") [] ∷ map (λ f. causes f (region (codes "North")) (codes "1") []) (fault.BadValue ∷ fault.UnknownMember ∷ [])
    ≡ Some (Dimension (codes "eg:Region")) ∷ Some (Dimension (codes "eg:Region")) ∷ None ∷ []
unfolding origins_on_literals
members = refl

-- A unit of a text is dropped, and has no fault.
dropped_unit : causes fault.BadValue (concept (codes "eg:Note") ∷ unit (codes "EUR") ∷ []) (codes "1") [] ≡ None
unfolding origins_on_literals
dropped_unit = refl

faults_of_decimals : map (λ b. causes fault.BadDecimals (good (codes "eg:Rate")) (codes "1") b) (codes "x" ∷ codes "#nil" ∷ codes "2" ∷ [] ∷ []) ≡ Some Decimals ∷ Some Decimals ∷ None ∷ None ∷ []
unfolding origins_on_literals
faults_of_decimals = refl

-- A dimension is read before the decimals.
special_of_decimals :
    causes fault.UnknownSpecial (good (codes "eg:Rate")) (codes "1") (codes "#foo")
    ∷ causes fault.UnknownSpecial (concept (codes "eg:Rate") ∷ (codes "entity", reference (codes "b")) ∷ []) (codes "1") (codes "#foo")
    ∷ []
    ≡ Some Decimals ∷ Some (Dimension (codes "entity")) ∷ []
unfolding origins_on_literals
special_of_decimals = refl

-- Decimals do not count if the cell has a suffix, or is nil, or its concept is not numeric.
decimals_not_read : causes fault.BadDecimals (good (codes "eg:Note")) (codes "1") (codes "y") ∷ map (λ x. causes fault.BadDecimals (good (codes "eg:Rate")) x (codes "y")) (codes "1d2" ∷ codes "#nil" ∷ [])
    ≡ None ∷ None ∷ None ∷ []
unfolding origins_on_literals
decimals_not_read = refl

-- A monetary concept wants a currency (XBRL 2.1, section 4.8.2), and Cash an instant.
wanted_by_cash :
    causes fault.BadUnit (concept (codes "eg:Cash") ∷ unit (codes "eg:EUR") ∷ []) (codes "1") []
    ∷ causes fault.WrongPeriod (concept (codes "eg:Cash") ∷ (codes "period", text (codes "0005Q4")) ∷ unit (codes "iso4217:EUR") ∷ []) (codes "1") []
    ∷ map (λ f. causes f (concept (codes "eg:Cash") ∷ []) (codes "1") []) (fault.BadUnit ∷ fault.WrongPeriod ∷ [])
    ≡ Some (Dimension (codes "unit")) ∷ Some (Dimension (codes "period")) ∷ Some (Dimension (codes "unit")) ∷ Some (Dimension (codes "period")) ∷ []
unfolding origins_on_literals
wanted_by_cash = refl

-- The end of a year is an instant, the year is not. Fee wants no period.
wanted_periods :
    causes fault.WrongPeriod (concept (codes "eg:Cash") ∷ (codes "period", w.Named (codes "b") side.End) ∷ unit (codes "iso4217:EUR") ∷ []) (codes "1") (codes "0005")
    ∷ causes fault.WrongPeriod (concept (codes "eg:Cash") ∷ (codes "period", reference (codes "b")) ∷ unit (codes "iso4217:EUR") ∷ []) (codes "1") (codes "0005")
    ∷ causes fault.WrongPeriod (concept (codes "eg:Fee") ∷ unit (codes "iso4217:EUR") ∷ []) (codes "1") []
    ∷ []
    ≡ None ∷ Some (Dimension (codes "period")) ∷ None ∷ []
unfolding origins_on_literals
wanted_periods = refl

value_of_the_cell : causes fault.BadNumber (good (codes "eg:Rate")) (codes "one") [] ≡ Some OwnCell
unfolding origins_on_literals
value_of_the_cell = refl

-- WRITERS

-- The level that writes the unit of the first cell, if these five write these dimensions. The
-- cells of g and h name the group a, first that of h.
abbrev unit_writer : (column g h template report : Dimensions) → Option (Writer × Written)
unit_writer column g h template report =
    writer_of (cell_with (level report) (level template) (facts (level column) (2 ∷ 1 ∷ []) ∷ groups (codes "g") (level g) ∷ groups (codes "h") (level h) ∷ []) [] [] (codes "1" ∷ codes "a" ∷ codes "a" ∷ [])) (codes "unit")

abbrev of_unit : List ℕ → Dimensions
of_unit t = unit t ∷ []

unit_is_written :
    unit_writer (of_unit (codes "C")) (of_unit (codes "G")) (of_unit (codes "H")) (of_unit (codes "T")) (of_unit (codes "R"))
    ∷ unit_writer [] (of_unit (codes "G")) (of_unit (codes "H")) (of_unit (codes "T")) (of_unit (codes "R"))
    ∷ unit_writer [] (of_unit (codes "G")) [] (of_unit (codes "T")) (of_unit (codes "R"))
    ∷ unit_writer [] [] [] (of_unit (codes "T")) (of_unit (codes "R"))
    ∷ unit_writer [] [] [] [] (of_unit (codes "R"))
    ∷ unit_writer (concept (codes "eg:Cash") ∷ []) [] [] [] []
    ∷ []
    ≡ Some (writer.Column, text (codes "C")) ∷ Some (writer.Group 2, text (codes "H")) ∷ Some (writer.Group 1, text (codes "G"))
    ∷ Some (writer.Template, text (codes "T")) ∷ Some (writer.Report, text (codes "R")) ∷ None ∷ []
unfolding origins_on_literals
unit_is_written = refl

-- A level that writes that there is no unit writes it.
none_is_written : unit_writer ((codes "unit", w.Absent) ∷ []) [] [] [] (of_unit (codes "R")) ≡ Some (writer.Column, w.Absent)
unfolding origins_on_literals
none_is_written = refl

-- A cell that names no group adds no level.
abbrev group_named : List ℕ → Option (Writer × Written)
group_named g = writer_of (cell_with (level (of_unit (codes "R"))) (level []) (facts (level []) (1 ∷ []) ∷ groups (codes "g") (level (of_unit (codes "G"))) ∷ []) [] [] (codes "1" ∷ g ∷ [])) (codes "unit")

groups_named : map group_named (codes "a" ∷ codes "b" ∷ [] ∷ codes "#nil" ∷ [])
    ≡ Some (writer.Group 1, text (codes "G")) ∷ Some (writer.Report, text (codes "R")) ∷ Some (writer.Report, text (codes "R")) ∷ Some (writer.Report, text (codes "R")) ∷ []
unfolding origins_on_literals
groups_named = refl

-- The same for decimals.
abbrev precise : Option WrittenDecimals → Level
precise decimals = record { dimensions = []; decimals = decimals }

abbrev writes_decimals_of : (column g template report : Option WrittenDecimals) → Option (Writer × WrittenDecimals)
writes_decimals_of column g template report =
    decimals_writer (cell_with (precise report) (precise template) (facts (precise column) (1 ∷ []) ∷ groups (codes "g") (precise g) ∷ []) [] [] (codes "1" ∷ codes "a" ∷ []))

abbrev places : ℕ → WrittenDecimals
places n = d.Fixed (accuracy.Places (pos n))

decimals_are_written :
    writes_decimals_of (Some (places 1)) (Some (places 2)) (Some (places 3)) (Some (places 4))
    ∷ writes_decimals_of None (Some (places 2)) (Some (places 3)) (Some (places 4))
    ∷ writes_decimals_of None None (Some d.Absent) (Some (places 4))
    ∷ writes_decimals_of None None None (Some (places 4))
    ∷ writes_decimals_of None None None None
    ∷ []
    ≡ Some (writer.Column, places 1) ∷ Some (writer.Group 1, places 2) ∷ Some (writer.Template, d.Absent) ∷ Some (writer.Report, places 4) ∷ None ∷ []
unfolding origins_on_literals
decimals_are_written = refl

-- SOURCES

-- Where the value of a reference to b comes from, and the value. The row's cells are given.
abbrev from : List Column → (of_table of_report : List (List ℕ × List ℕ)) → List (List ℕ) → CellSource × Meaning
from columns of_table of_report cells =
    let c = cell_with (level []) (level []) (facts (level []) [] ∷ columns) of_table of_report (codes "1" ∷ cells) in (source_of c (codes "b"), value_from c (codes "b") (source_of c (codes "b")))

abbrev referring : (of_table of_report : List (List ℕ × List ℕ)) → List ℕ → CellSource × Meaning
referring of_table of_report b = from (plain_column (codes "b") ∷ []) of_table of_report (b ∷ [])

abbrev parameter : List ℕ → List (List ℕ × List ℕ)
parameter t = (codes "b", t) ∷ []

-- A special value is not empty, so it is not passed over.
sources_of_references :
    referring (parameter (codes "T")) (parameter (codes "R")) (codes "B")
    ∷ referring (parameter (codes "T")) [] (codes "#none")
    ∷ referring (parameter (codes "T")) (parameter (codes "R")) []
    ∷ referring [] (parameter (codes "R")) []
    ∷ from [] [] (parameter (codes "R")) []
    ∷ referring [] [] []
    ∷ []
    ≡ (source.Cell 1, m.Text (codes "B")) ∷ (source.Cell 1, m.Absent) ∷ (source.Parameter, m.Text (codes "T")) ∷ (source.Parameter, m.Text (codes "R"))
    ∷ (source.Parameter, m.Text (codes "R")) ∷ (source.Nothing, m.Absent) ∷ []
unfolding origins_on_literals
sources_of_references = refl
