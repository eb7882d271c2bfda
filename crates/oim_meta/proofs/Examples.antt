-- Small metadata and the parts of their reports. The results are from xBRL-CSV 1.0.
use Rattle.std.proofs.Common.{◌≡◌, ℕ, List, [], ◌∷◌, Some, None, true, false, refl, codes, pos, negsuc, map}
use Rattle.serde_json.specs.Data.{Data, boolean, number, unsigned, negative, string, array, object, no_items, item, Members, no_members, member}
use Rattle.oim_cells.specs.Cells.{meaning_of, accuracy_of}
use Rattle.oim_cells.specs.declared.cells.Accuracy.TheVariants.{Infinite, Places}
use Rattle.oim_report.specs.Readers.{no_level}
use Rattle.oim_report.specs.declared.data.Column.{Column}
use Rattle.oim_report.specs.declared.data.ColumnKind.TheVariants.{Fact, Groups, Comment, Plain}
use Rattle.oim_report.specs.declared.data.Side.TheVariants.{Whole, Start, End}
use Rattle.oim_report.specs.declared.data.Written.TheVariants as written
use Rattle.oim_report.specs.declared.data.WrittenDecimals.TheVariants as decimals
use Rattle.oim_report.specs.ReportValue.{ReportValue}
use Rattle.oim_meta.specs.Prefixes.{prefixes_of}
use Rattle.oim_report.specs.Readers.{table_of as table_at, template_of as template_at, column_of as column_at, parameter_of}
use Rattle.oim_meta.specs.Written.{strip_front, strip_back, name_and_side, written_of}
use Rattle.oim_meta.specs.Decimals.{decimals_of, text_decimals}
use Rattle.oim_meta.specs.Value.{kind_of, level_of, column_of, template_of, table_of, tables_of, templates_of, info_of, report_of}

-- SMALL OBJECTS
abbrev nothing : Data
nothing = object no_members

abbrev one : List ℕ → Data → Data
one k d = object (member k d no_members)

abbrev two : List ℕ → Data → List ℕ → Data → Data
two k d l e = object (member k d (member l e no_members))

-- DIMENSIONS AS WRITTEN: literals.
literals :
    map (written_of (codes "entity")) ([] ∷ codes "#none" ∷ codes "#nil" ∷ codes "#empty" ∷ codes "##x" ∷ codes "x$" ∷ codes "$$x" ∷ codes "$$" ∷ codes "$$$" ∷ [])
    ≡ written.Absent ∷ written.Absent ∷ written.Nil ∷ written.Empty ∷ written.Text (codes "#x") ∷ written.Text (codes "x$") ∷ written.Text (codes "$x")
    ∷ written.Text (codes "$") ∷ written.Text (codes "$$") ∷ []
unfolding strip_front strip_back name_and_side meaning_of
literals = refl

-- The name and the side of a reference. A name may be empty here, which is a fault.
names_and_sides :
    (map (name_and_side (codes "period")) (codes "a" ∷ codes "a@start" ∷ codes "a@end" ∷ codes "a@start@end" ∷ codes "@start" ∷ [])
    ≡ (codes "a", Whole) ∷ (codes "a", Start) ∷ (codes "a", End) ∷ (codes "a@start", End) ∷ ([], Start) ∷ [])
    × (name_and_side (codes "unit") (codes "a@start") ≡ (codes "a@start", Whole))
unfolding name_and_side strip_back
names_and_sides = (refl, refl)

-- References: only those at the key period have a side.
references :
    map (written_of (codes "unit")) (codes "$a" ∷ codes "$rowNumber" ∷ codes "$year@start" ∷ codes "$rowNumber@end" ∷ [])
    ≡ written.Named (codes "a") Whole ∷ written.RowNumber Whole ∷ written.Named (codes "year@start") Whole ∷ written.Named (codes "rowNumber@end") Whole ∷ []
unfolding strip_front strip_back name_and_side
references = refl

sides :
    map (written_of (codes "period")) (codes "$a" ∷ codes "$a@start" ∷ codes "$a@end" ∷ codes "$rowNumber@start" ∷ codes "$rowNumber@end" ∷ codes "$rowNumber" ∷ codes "a@end" ∷ [])
    ≡ written.Named (codes "a") Whole ∷ written.Named (codes "a") Start ∷ written.Named (codes "a") End ∷ written.RowNumber Start ∷ written.RowNumber End
    ∷ written.RowNumber Whole ∷ written.Text (codes "a@end") ∷ []
unfolding strip_front strip_back name_and_side meaning_of
sides = refl

-- DECIMALS
whole_numbers :
    map decimals_of (number (unsigned 2) ∷ number (unsigned 2_147_483_647) ∷ number (negative (negsuc 2_147_483_647)) ∷ [])
    ≡ decimals.Fixed (Places (pos 2)) ∷ decimals.Fixed (Places (pos 2_147_483_647)) ∷ decimals.Fixed (Places (negsuc 2_147_483_647)) ∷ []
whole_numbers = refl

texts_of_decimals :
    map (λ t. decimals_of (string t)) (codes "#none" ∷ codes "INF" ∷ codes "-2" ∷ codes "$a" ∷ codes "$rowNumber" ∷ [])
    ≡ decimals.Absent ∷ decimals.Fixed Infinite ∷ decimals.Fixed (Places (negsuc 1)) ∷ decimals.Named (codes "a") ∷ decimals.RowNumber ∷ []
unfolding text_decimals strip_front accuracy_of
texts_of_decimals = refl

-- KINDS: a column with dimensions, even empty, is a fact column.
kinds :
    map kind_of
    (nothing ∷ one (codes "dimensions") nothing ∷ one (codes "propertyGroups") nothing ∷ one (codes "comment") (boolean true) ∷ one (codes "comment") (boolean false)
    ∷ two (codes "comment") (boolean false) (codes "dimensions") nothing ∷ [])
    ≡ Plain ∷ Fact ∷ Groups ∷ Comment ∷ Plain ∷ Fact ∷ []
kinds = refl

-- LEVELS
level : level_of (two (codes "decimals") (number (unsigned 2)) (codes "dimensions") (two (codes "entity") (string (codes "x")) (codes "unit") (string (codes "$u"))))
    ≡ record { dimensions = (codes "entity", written.Text (codes "x")) ∷ (codes "unit", written.Named (codes "u") Whole) ∷ []; decimals = Some (decimals.Fixed (Places (pos 2))) }
unfolding level_of strip_front name_and_side meaning_of
level = refl

level_of_nothing : level_of nothing ≡ no_level
unfolding level_of
level_of_nothing = refl

-- COLUMNS: the first takes groups from the two others, and names one of them twice.
groups : Data
groups = two (codes "decimals") (number (unsigned 7)) (codes "propertyGroups") (one (codes "usd") (one (codes "decimals") (number (unsigned 0))))

takes : Data
takes =
    object
    (member (codes "decimals") (number (unsigned 1))
    (member (codes "dimensions") nothing
    (member (codes "propertiesFrom") (array (item (string (codes "h")) (item (string (codes "g")) (item (string (codes "h")) no_items)))) no_members)))

columns : Members
columns = member (codes "f") takes (member (codes "g") groups (member (codes "h") groups no_members))

facts : column_of columns (codes "f") takes
    ≡ record { id = codes "f"; kind = Fact; level = record { dimensions = []; decimals = Some (decimals.Fixed (Places (pos 1))) }; groups = []; from = 2 ∷ 1 ∷ [] }
unfolding column_of level_of columns takes groups
facts = refl

-- The decimals and propertiesFrom of a column that is not a fact column are ignored.
property_groups : column_of columns (codes "g") groups
    ≡ record { id = codes "g"; kind = Groups; level = no_level; groups = (codes "usd", record { dimensions = []; decimals = Some (decimals.Fixed (Places (pos 0))) }) ∷ []; from = [] }
unfolding column_of level_of columns takes groups
property_groups = refl

plain : column_of columns (codes "p") (two (codes "decimals") (number (unsigned 7)) (codes "propertiesFrom") (array (item (string (codes "g")) no_items)))
    ≡ record { id = codes "p"; kind = Plain; level = no_level; groups = []; from = [] }
unfolding column_of columns
plain = refl

comments : column_of columns (codes "c") (two (codes "comment") (boolean true) (codes "decimals") (number (unsigned 7)))
    ≡ record { id = codes "c"; kind = Comment; level = no_level; groups = []; from = [] }
unfolding column_of columns
comments = refl

-- TEMPLATES AND TABLES
template :
    template_of (codes "p")
    (object
    (member (codes "columns") (two (codes "b") nothing (codes "c") nothing)
    (member (codes "decimals") (number (unsigned 3)) (member (codes "rowIdColumn") (string (codes "c")) no_members))))
    ≡ record {
      id = codes "p";
      columns = record { id = codes "b"; kind = Plain; level = no_level; groups = []; from = [] } ∷ record { id = codes "c"; kind = Plain; level = no_level; groups = []; from = [] } ∷ [];
      row_id_column = Some 1;
      level = record { dimensions = []; decimals = Some (decimals.Fixed (Places (pos 3))) };
    }
unfolding template_of column_of level_of
template = refl

-- The columns of a template take groups from its own columns.
groups_taken :
    map (λ (c : Column). c.from) (template_of (codes "p") (one (codes "columns") (object columns))).columns ≡ (2 ∷ 1 ∷ []) ∷ [] ∷ [] ∷ []
unfolding template_of column_of columns takes groups
groups_taken = refl

empty_template : template_of (codes "p") (one (codes "columns") nothing) ≡ record { id = codes "p"; columns = []; row_id_column = None; level = no_level }
unfolding template_of level_of
empty_template = refl

-- Three tables: one has the template of its own name, one names another, and one is optional and
-- has parameters.
report : Data
report =
    object
    (member (codes "documentInfo")
    (object
    (member (codes "baseURL") (string (codes "http://b/"))
    (member (codes "namespaces") (two (codes "a") (string (codes "u")) (codes "b") (string (codes "v")))
    (member (codes "taxonomy") (array (item (string (codes "y.xsd")) (item (string (codes "x.xsd")) no_items))) no_members))))
    (member (codes "parameters") (two (codes "m") (string (codes "1")) (codes "n") (string (codes "2")))
    (member (codes "tableTemplates") (two (codes "p") (one (codes "columns") nothing) (codes "t") (one (codes "columns") (one (codes "c") nothing)))
    (member (codes "tables")
    (object
    (member (codes "t") (one (codes "url") (string (codes "t.csv")))
    (member (codes "u") (two (codes "template") (string (codes "p")) (codes "url") (string (codes "u.csv")))
    (member (codes "v")
    (object
    (member (codes "optional") (boolean true)
    (member (codes "parameters") (one (codes "n") (string (codes "3")))
    (member (codes "template") (string (codes "t")) (member (codes "url") (string (codes "v.csv")) no_members)))))
    no_members))))
    no_members))))

tables :
    tables_of report
    ≡ record { id = codes "t"; url = codes "t.csv"; is_optional = false; template = 1; parameters = [] }
    ∷ record { id = codes "u"; url = codes "u.csv"; is_optional = false; template = 0; parameters = [] }
    ∷ record { id = codes "v"; url = codes "v.csv"; is_optional = true; template = 1; parameters = (codes "n", codes "3") ∷ [] }
    ∷ []
unfolding table_of report
tables = refl

-- THE REPORT: the parameters file gives `o`.
value : ReportValue
unfolding report_of
value = report_of ((codes "o", codes "4") ∷ []) [] report

info : (value.info ≡ record { base_url = Some (codes "http://b/"); taxonomy = codes "y.xsd" ∷ codes "x.xsd" ∷ [] }) × (info_of nothing ≡ record { base_url = None; taxonomy = [] })
unfolding value report_of report
info = (refl, refl)

namespaces : (value.namespaces ≡ (codes "a", codes "u") ∷ (codes "b", codes "v") ∷ []) × (prefixes_of report ≡ value.namespaces)
unfolding value report_of report
namespaces = (refl, refl)

parameters : value.parameters ≡ (codes "m", codes "1") ∷ (codes "n", codes "2") ∷ (codes "o", codes "4") ∷ []
unfolding value report_of report
parameters = refl

other_parts : (value.level ≡ no_level) × (value.types ≡ []) × (value.tables ≡ tables_of report) × (value.templates ≡ templates_of report)
unfolding value report_of report level_of
other_parts = (refl, refl, refl, refl)

-- READERS: a table's parameter hides the report's, and each table has its own template.
parameters_read :
    (map (parameter_of value 2) (codes "n" ∷ codes "m" ∷ codes "o" ∷ codes "p" ∷ []) ≡ Some (codes "3") ∷ Some (codes "1") ∷ Some (codes "4") ∷ None ∷ [])
    × (parameter_of value 0 (codes "n") ≡ Some (codes "2"))
unfolding value report_of report table_of
parameters_read = (refl, refl)

parts_read : ((table_at value 1).id ≡ codes "u") × ((template_at value 0).id ≡ codes "t") × ((template_at value 1).id ≡ codes "p") × ((column_at value 2 0).id ≡ codes "c")
unfolding value report_of report table_of template_of column_of
parts_read = (refl, refl, refl, refl)
