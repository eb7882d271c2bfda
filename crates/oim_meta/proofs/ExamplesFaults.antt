-- Each fault of a metadata on worked cases, at its limits. The results are from xBRL-CSV 1.0 and
-- from this project's limits.
use Rattle.std.proofs.Common.{◌≡◌, ℕ, ◌∷◌, List, [], Bool, true, false, Option, Some, None, refl, map, negsuc}
use Rattle.std.specs.Prelude.{codes, nat_le, if◌then◌else◌}
use Rattle.std.specs.List.{list_all, list_any}
use Rattle.std.specs.Str.{chars, is_utf8}
use lib.Utf8.{encode}
use Rattle.serde_json.specs.Data.{Data, null, boolean, number, unsigned, negative, string, array, object, no_items, item, no_members, member}
use Rattle.oim_cells.specs.Cells.{meaning_of, accuracy_of}
use Rattle.oim_cells.specs.declared.cells.NumberKind.TheVariants.{Integer}
use Rattle.oim_names.specs.Bindings.{Bindings}
use Rattle.oim_names.specs.Names.{is_name_start, is_name_char, is_plain_char, is_ncname, is_identifier}
use Rattle.oim_names.specs.QName.{qname_of}
use Rattle.oim_entries.specs.declared.fault.MetaFault.{MetaFault}
use Rattle.oim_entries.specs.declared.fault.MetaFault.TheVariants.{NotReport, BadNamespaces, BadTaxonomy, Unsupported, BadIdentifier, BadTemplate, ColumnKinds}
use Rattle.oim_entries.specs.declared.fault.MetaFault.TheVariants.{UnknownTemplate, UnknownColumn, BadDimension, BadDecimals, BadParameter, TooLarge, Syntax, BadTypes, Memory, Read}
use Rattle.oim_report.specs.declared.kind.Kind.{Kind}
use Rattle.oim_report.specs.declared.typed_name.TypedName.{TypedName}
use Rattle.oim_report.specs.declared.kind.Kind.TheVariants.{Number, Text, Boolean, Date, Name, Other, Explicit, Typed, Concept, TypedBy, Member}
use Rattle.oim_report.specs.declared.kind.PeriodType.TheVariants.{Instant}
use Rattle.oim_report.specs.declared.kind.SimpleType.TheVariants as simple
use Rattle.oim_report.specs.declared.kind.ValueType.TheVariants as value
use Rattle.oim_report.specs.Types.{TypesValue}
use Rattle.oim_meta.specs.Written.{strip_front, strip_back, name_and_side}
use Rattle.oim_names.specs.PlainPath.{is_plain_path}
use Rattle.oim_meta.specs.Faults.{has_no_report, has_bad_namespaces, has_bad_taxonomy, is_unsupported, has_bad_identifier, has_bad_shape, has_mixed_column, has_unknown_template}
use Rattle.oim_meta.specs.UnknownColumn.{has_unknown_column}
use Rattle.oim_meta.specs.BadDimensions.{is_dimension, is_typed, is_bad_dimension, has_bad_dimensions}
use Rattle.oim_meta.specs.BadDecimals.{is_decimals, has_bad_decimals}
use Rattle.oim_meta.specs.BadParameters.{has_bad_parameter, has_bad_parameter_url}
use Rattle.oim_meta.specs.Counts.{has_too_many}
use Rattle.oim_meta.specs.FirstFault.{first_fault, has_fault}
use Rattle.oim_meta.specs.state.Reading.{late_fault}
use Rattle.oim_meta.specs.Reading.{has_url_fault}

-- PATHS
plain_paths : list_all is_plain_path (codes "t1.csv" ∷ codes "a/t1.csv" ∷ codes "a b" ∷ codes "..." ∷ codes "a../b" ∷ codes "~" ∷ []) ≡ true
unfolding is_plain_path
plain_paths = refl

-- The empty path, one barred character in each, and a segment that is empty, `.` or `..`.
no_plain_paths :
    list_any is_plain_path
    ([] ∷ codes "a\\b" ∷ codes "a:b" ∷ codes "a?b" ∷ codes "a#b" ∷ codes "a%b" ∷ (97 ∷ 0 ∷ []) ∷ (97 ∷ 31 ∷ []) ∷ codes "/a" ∷ codes "a/" ∷ codes "a//b" ∷ codes "." ∷ codes "./a" ∷ codes ".."
    ∷ codes "../a" ∷ codes "a/.." ∷ codes "a/./b" ∷ codes "a/../b" ∷ [])
    ≡ false
unfolding is_plain_path
no_plain_paths = refl

-- SMALL OBJECTS
abbrev nothing : Data
nothing = object no_members

abbrev one : List ℕ → Data → Data
one k d = object (member k d no_members)

abbrev two : List ℕ → Data → List ℕ → Data → Data
two k d l e = object (member k d (member l e no_members))

abbrev text : List ℕ → Data
text t = string t

abbrev list : Data → Data
list d = array (item d no_items)

abbrev info : Data → Data
info i = one (codes "documentInfo") i

abbrev templates : Data → Data
templates d = one (codes "tableTemplates") d

abbrev tables : Data → Data
tables d = one (codes "tables") d

abbrev template : Data → Data
template t = templates (one (codes "p") t)

abbrev columns : Data → Data
columns d = template (one (codes "columns") d)

abbrev column : Data → Data
column c = columns (one (codes "c") c)

abbrev table : Data → Data
table t = tables (one (codes "t") t)

abbrev group : Data → Data
group g = column (one (codes "propertyGroups") (one (codes "g") g))

-- NO REPORT
a_report : has_no_report (info (one (codes "documentType") (text (codes "https://xbrl.org/2021/xbrl-csv")))) ≡ false
unfolding has_no_report
a_report = refl

no_reports :
    list_all has_no_report
    (null ∷ array no_items ∷ nothing ∷ info null ∷ info nothing ∷ info (one (codes "documentType") null)
    ∷ info (one (codes "documentType") (text (codes "https://xbrl.org/2021/xbrl-json"))) ∷ []) ≡ true
unfolding has_no_report
no_reports = refl

-- NAMESPACES
namespaces : list_any has_bad_namespaces (nothing ∷ one (codes "namespaces") nothing ∷ one (codes "namespaces") (two (codes "a") (text (codes "u")) (codes "b") (text (codes "v"))) ∷ []) ≡ false
unfolding has_bad_namespaces is_ncname is_name_char is_name_start chars is_utf8 encode
namespaces = refl

bad_namespaces :
    list_all (λ d. has_bad_namespaces (one (codes "namespaces") d))
    (null ∷ array no_items ∷ one (codes "a") null ∷ one (codes "1a") (text (codes "u")) ∷ one (codes "a:b") (text (codes "u"))
    ∷ two (codes "a") (text (codes "u")) (codes "b") (text (codes "u")) ∷ []) ≡ true
unfolding has_bad_namespaces is_ncname is_name_char is_name_start chars is_utf8 encode
bad_namespaces = refl

-- TAXONOMY
taxonomies : list_any has_bad_taxonomy (one (codes "taxonomy") (array no_items) ∷ two (codes "taxonomy") (list (text (codes "u"))) (codes "baseURL") (text (codes "b")) ∷ []) ≡ false
unfolding has_bad_taxonomy
taxonomies = refl

bad_taxonomies :
    list_all has_bad_taxonomy
    (nothing ∷ one (codes "taxonomy") null ∷ one (codes "taxonomy") (text (codes "u")) ∷ one (codes "taxonomy") (list null)
    ∷ one (codes "taxonomy") (array (item (text (codes "u")) (item null no_items)))
    ∷ two (codes "taxonomy") (array no_items) (codes "baseURL") null ∷ []) ≡ true
unfolding has_bad_taxonomy
bad_taxonomies = refl

-- UNSUPPORTED FEATURES
supported : list_any is_unsupported (nothing ∷ info nothing ∷ info (one (codes "extends") (array no_items)) ∷ one (codes "links") nothing ∷ one (codes "extends") null ∷ []) ≡ false
unfolding is_unsupported
supported = refl

unsupported :
    list_all is_unsupported
    (info (one (codes "extends") (list (text (codes "m.json")))) ∷ info (one (codes "extends") null) ∷ info (one (codes "extends") nothing)
    ∷ one (codes "links") (one (codes "x") null) ∷ one (codes "links") null
    ∷ one (codes "links") (array no_items) ∷ []) ≡ true
unfolding is_unsupported
unsupported = refl

-- IDENTIFIERS: a part of the wrong shape has no keys.
keys : list_any has_bad_identifier (nothing ∷ column nothing ∷ table null ∷ templates null ∷ tables (list null) ∷ columns null ∷ []) ≡ false
unfolding has_bad_identifier is_identifier is_plain_char is_name_char is_name_start chars is_utf8 encode
keys = refl

bad_keys : list_all has_bad_identifier (templates (one (codes "a.b") null) ∷ tables (one (codes "1") null) ∷ columns (one [] null) ∷ columns (two (codes "c") null (codes "c:d") null) ∷ []) ≡ true
unfolding has_bad_identifier is_identifier is_plain_char is_name_char is_name_start chars is_utf8 encode
bad_keys = refl

-- SHAPES
shapes :
    list_any has_bad_shape
    (nothing ∷ one (codes "dimensions") nothing ∷ templates nothing ∷ tables nothing ∷ columns nothing ∷ column nothing ∷ column (one (codes "dimensions") nothing) ∷ group nothing
    ∷ group (one (codes "dimensions") nothing) ∷ column (one (codes "comment") (boolean false)) ∷ column (one (codes "propertiesFrom") null)
    ∷ column (two (codes "dimensions") nothing (codes "propertiesFrom") (list (text (codes "g"))))
    ∷ template (two (codes "columns") nothing (codes "rowIdColumn") (text (codes "c"))) ∷ table (one (codes "url") (text (codes "t.csv")))
    ∷ table (object (member (codes "optional") (boolean true) (member (codes "template") (text (codes "p")) (member (codes "url") (text (codes "t.csv")) no_members)))) ∷ []) ≡ false
unfolding has_bad_shape is_plain_path
shapes = refl

bad_templates :
    list_all has_bad_shape
    (one (codes "dimensions") null ∷ templates null ∷ template null ∷ template nothing ∷ columns null ∷ template (two (codes "columns") nothing (codes "dimensions") null)
    ∷ template (two (codes "columns") nothing (codes "rowIdColumn") null) ∷ column null ∷ column (one (codes "dimensions") null) ∷ column (one (codes "propertyGroups") null) ∷ group null
    ∷ group (one (codes "dimensions") null) ∷ column (one (codes "propertyGroups") (one [] nothing)) ∷ column (one (codes "comment") (text (codes "true"))) ∷ column (one (codes "comment") null)
    ∷ column (two (codes "dimensions") nothing (codes "propertiesFrom") (text (codes "g"))) ∷ column (two (codes "dimensions") nothing (codes "propertiesFrom") (list null)) ∷ []) ≡ true
unfolding has_bad_shape
bad_templates = refl

bad_tables :
    list_all has_bad_shape
    (tables null ∷ table null ∷ table nothing ∷ table (one (codes "url") null) ∷ table (one (codes "url") (text (codes "../t.csv")))
    ∷ table (two (codes "template") null (codes "url") (text (codes "t.csv"))) ∷ table (two (codes "optional") (text (codes "true")) (codes "url") (text (codes "t.csv"))) ∷ []) ≡ true
unfolding has_bad_shape is_plain_path
bad_tables = refl

-- KINDS OF COLUMNS
kinds :
    list_any has_mixed_column
    (column nothing ∷ column (one (codes "dimensions") nothing) ∷ column (one (codes "propertyGroups") nothing) ∷ column (one (codes "comment") (boolean true))
    ∷ column (two (codes "comment") (boolean false) (codes "dimensions") nothing) ∷ column (two (codes "comment") (boolean false) (codes "propertyGroups") nothing)
    ∷ column (two (codes "comment") null (codes "dimensions") nothing) ∷ []) ≡ false
unfolding has_mixed_column
kinds = refl

mixed_kinds :
    list_all has_mixed_column
    (column (two (codes "dimensions") nothing (codes "propertyGroups") nothing) ∷ column (two (codes "comment") (boolean true) (codes "dimensions") nothing)
    ∷ column (two (codes "comment") (boolean true) (codes "propertyGroups") nothing) ∷ []) ≡ true
unfolding has_mixed_column
mixed_kinds = refl

-- TEMPLATES OF TABLES
abbrev with_template : List ℕ → Data → Data
with_template name t = two (codes "tableTemplates") (one name nothing) (codes "tables") (one (codes "t") t)

known_templates : list_any has_unknown_template (nothing ∷ with_template (codes "t") nothing ∷ with_template (codes "p") (one (codes "template") (text (codes "p"))) ∷ []) ≡ false
unfolding has_unknown_template
known_templates = refl

unknown_templates : list_all has_unknown_template (table nothing ∷ with_template (codes "p") nothing ∷ with_template (codes "t") (one (codes "template") (text (codes "p"))) ∷ []) ≡ true
unfolding has_unknown_template
unknown_templates = refl

-- COLUMNS THAT A TEMPLATE NAMES: `c` is the column under test, `g` a property group column.
abbrev beside_groups : Data → Data
beside_groups c = columns (two (codes "c") c (codes "g") (one (codes "propertyGroups") nothing))

abbrev takes_from : List ℕ → Data
takes_from name = two (codes "dimensions") nothing (codes "propertiesFrom") (list (text name))

-- A column of another kind, which `c` takes property groups from or which has propertiesFrom
-- itself.
abbrev from_other : Data → Data
from_other d = columns (two (codes "c") (takes_from (codes "d")) (codes "d") d)

abbrev names_groups : List ℕ → Data → Data
names_groups key d = column (two key d (codes "propertiesFrom") (list (text (codes "x"))))

abbrev row_id : Data → Data
row_id name = template (two (codes "columns") (one (codes "c") nothing) (codes "rowIdColumn") name)

known_columns :
    list_any has_unknown_column
    (nothing ∷ row_id (text (codes "c")) ∷ row_id null ∷ beside_groups (takes_from (codes "g"))
    ∷ beside_groups (one (codes "propertiesFrom") (list (text (codes "x")))) ∷ beside_groups (two (codes "dimensions") nothing (codes "propertiesFrom") (list null))
    ∷ names_groups (codes "propertyGroups") nothing ∷ names_groups (codes "comment") (boolean true) ∷ []) ≡ false
unfolding has_unknown_column
known_columns = refl

unknown_columns :
    list_all has_unknown_column
    (row_id (text (codes "d")) ∷ beside_groups (takes_from (codes "c")) ∷ beside_groups (takes_from (codes "x")) ∷ from_other nothing
    ∷ from_other (one (codes "comment") (boolean true)) ∷ []) ≡ true
unfolding has_unknown_column
unknown_columns = refl

-- DIMENSIONS, with one prefix and names of several kinds.
abbrev prefixes : Bindings
prefixes = (codes "p", codes "u") ∷ []

abbrev typed : List ℕ → Kind → TypedName
typed local k = record { uri = codes "u"; local = local; kind = k }

-- As the header type3 gives them: a concept, a typed dimension of a simple type, and a member.
abbrev concept : Kind
concept = Concept (record { value = value.Monetary; period = Some Instant })

abbrev longer_types : TypesValue
longer_types = typed (codes "C") concept ∷ typed (codes "B") (TypedBy simple.Boolean) ∷ typed (codes "M") Member ∷ []

abbrev types : TypesValue
types = typed (codes "E") Explicit ∷ typed (codes "N") (Number Integer) ∷ typed (codes "O") Other ∷ typed (codes "T") Typed ∷ typed (codes "X") Text ∷ longer_types

-- Only the name of an explicit or typed dimension names a dimension (XBRL Dimensions 1.0).
abbrev no_dimension_kinds : List (Option Kind)
no_dimension_kinds = None ∷ Some (Number Integer) ∷ Some Text ∷ Some Boolean ∷ Some Date ∷ Some Name ∷ Some Other ∷ Some concept ∷ Some Member ∷ []

kinds_of_dimensions :
    (list_any is_dimension no_dimension_kinds ≡ false) × (list_all is_dimension (Some Explicit ∷ Some Typed ∷ Some (TypedBy simple.Boolean) ∷ []) ≡ true)
    × (list_any is_typed (Some Explicit ∷ no_dimension_kinds) ≡ false) × (list_all is_typed (Some Typed ∷ Some (TypedBy simple.Boolean) ∷ []) ≡ true)
kinds_of_dimensions = (refl, refl, refl, refl)

unfoldable is_bad_key : List ℕ → Bool
is_bad_key key = is_bad_dimension types prefixes key (text (codes "x"))

unfoldable is_bad_at : List ℕ → List ℕ → Bool
is_bad_at key value = is_bad_dimension types prefixes key (text value)

dimensions : list_any is_bad_key (codes "concept" ∷ codes "entity" ∷ codes "period" ∷ codes "unit" ∷ codes "language" ∷ codes "p:E" ∷ codes "p:T" ∷ codes "p:B" ∷ []) ≡ false
unfolding is_bad_key is_bad_dimension strip_front meaning_of qname_of is_ncname is_name_char is_name_start chars is_utf8 encode
dimensions = refl

no_dimensions : list_all is_bad_key (codes "Concept" ∷ codes "p:N" ∷ codes "p:O" ∷ codes "p:X" ∷ codes "p:C" ∷ codes "p:M" ∷ codes "p:Z" ∷ codes "q:E" ∷ codes "E" ∷ [] ∷ []) ≡ true
unfolding is_bad_key is_bad_dimension strip_front meaning_of qname_of is_ncname is_name_char is_name_start chars is_utf8 encode
no_dimensions = refl

written_values : list_any (is_bad_at (codes "entity")) ([] ∷ codes "x" ∷ codes "#none" ∷ codes "##x" ∷ codes "$a" ∷ codes "$rowNumber" ∷ codes "$$" ∷ codes "$$#foo" ∷ codes "$$1" ∷ []) ≡ false
unfolding is_bad_at is_bad_dimension name_and_side strip_front strip_back meaning_of qname_of is_identifier is_plain_char is_ncname is_name_char is_name_start chars is_utf8 encode
written_values = refl

bad_values : list_all (is_bad_at (codes "entity")) (codes "#foo" ∷ codes "#nil" ∷ codes "#empty" ∷ codes "$" ∷ codes "$1" ∷ codes "$a.b" ∷ codes "$a@start" ∷ codes "$a@end" ∷ []) ≡ true
unfolding is_bad_at is_bad_dimension name_and_side strip_front strip_back meaning_of qname_of is_identifier is_plain_char is_ncname is_name_char is_name_start chars is_utf8 encode
bad_values = refl

periods : list_any (is_bad_at (codes "period")) (codes "$a" ∷ codes "$a@start" ∷ codes "$a@end" ∷ codes "$rowNumber@end" ∷ []) ≡ false
unfolding is_bad_at is_bad_dimension name_and_side strip_front strip_back meaning_of qname_of is_identifier is_plain_char is_ncname is_name_char is_name_start chars is_utf8 encode
periods = refl

bad_periods : list_all (is_bad_at (codes "period")) (codes "$@start" ∷ codes "$@end" ∷ codes "$a@middle" ∷ codes "$a@start@end" ∷ codes "$a@end@start" ∷ codes "#nil" ∷ []) ≡ true
unfolding is_bad_at is_bad_dimension name_and_side strip_front strip_back meaning_of qname_of is_identifier is_plain_char is_ncname is_name_char is_name_start chars is_utf8 encode
bad_periods = refl

-- Only typed dimensions can be nil or the empty text.
typed_values : list_any (is_bad_at (codes "p:T")) (codes "#nil" ∷ codes "#empty" ∷ []) ≡ false
unfolding is_bad_at is_bad_dimension name_and_side strip_front strip_back meaning_of qname_of is_identifier is_plain_char is_ncname is_name_char is_name_start chars is_utf8 encode
typed_values = refl

values_of_types : list_any (is_bad_at (codes "p:B")) (codes "#nil" ∷ codes "#empty" ∷ codes "true" ∷ []) ≡ false
unfolding is_bad_at is_bad_dimension name_and_side strip_front strip_back meaning_of qname_of is_identifier is_plain_char is_ncname is_name_char is_name_start chars is_utf8 encode
values_of_types = refl

explicit_values : list_all (is_bad_at (codes "p:E")) (codes "#nil" ∷ codes "#empty" ∷ []) ≡ true
unfolding is_bad_at is_bad_dimension name_and_side strip_front strip_back meaning_of qname_of is_identifier is_plain_char is_ncname is_name_char is_name_start chars is_utf8 encode
explicit_values = refl

no_text : is_bad_dimension types prefixes (codes "entity") null ≡ true
unfolding is_bad_dimension qname_of is_ncname is_name_char is_name_start chars is_utf8 encode
no_text = refl

-- LEVELS: bad dimensions and bad decimals of report, template, column and property group.
abbrev bad_dimension : Data
bad_dimension = one (codes "dimensions") (one (codes "entity") null)

bad_dimensions : list_all (has_bad_dimensions []) (bad_dimension ∷ template bad_dimension ∷ column bad_dimension ∷ group bad_dimension ∷ []) ≡ true
unfolding has_bad_dimensions is_bad_dimension qname_of is_ncname is_name_char is_name_start chars is_utf8 encode
bad_dimensions = refl

-- The prefixes are those of the metadata.
own_prefixes :
    has_bad_dimensions types (two (codes "dimensions") (one (codes "p:T") (text (codes "#nil"))) (codes "documentInfo") (one (codes "namespaces") (one (codes "p") (text (codes "u"))))) ≡ false
unfolding has_bad_dimensions is_bad_dimension strip_front meaning_of qname_of is_ncname is_name_char is_name_start chars is_utf8 encode
own_prefixes = refl

abbrev bad_number : Data
bad_number = one (codes "decimals") null

bad_decimals :
    list_all has_bad_decimals (bad_number ∷ template bad_number ∷ column (two (codes "decimals") null (codes "dimensions") nothing) ∷ group bad_number ∷ []) ≡ true
unfolding has_bad_decimals is_decimals
bad_decimals = refl

-- The decimals of a column that is not a fact column are ignored.
decimals_not_read : list_any has_bad_decimals (nothing ∷ one (codes "decimals") (number (unsigned 2)) ∷ column bad_number
    ∷ column (two (codes "decimals") null (codes "propertyGroups") nothing) ∷ []) ≡ false
unfolding has_bad_decimals is_decimals
decimals_not_read = refl

-- DECIMALS, at the limits of 32 bits.
whole_numbers : list_all is_decimals (number (unsigned 0) ∷ number (unsigned 2_147_483_647) ∷ number (negative (negsuc 2_147_483_647)) ∷ []) ≡ true
unfolding is_decimals
whole_numbers = refl

decimals : list_all (λ t. is_decimals (text t)) (codes "INF" ∷ codes "-2" ∷ codes "#none" ∷ codes "$a" ∷ codes "$rowNumber" ∷ []) ≡ true
unfolding is_decimals accuracy_of strip_front is_identifier is_plain_char is_name_char is_name_start chars is_utf8 encode
decimals = refl

no_numbers : list_any is_decimals (null ∷ boolean true ∷ nothing ∷ number (unsigned 2_147_483_648) ∷ number (negative (negsuc 2_147_483_648)) ∷ []) ≡ false
unfolding is_decimals
no_numbers = refl

no_decimals :
    list_any (λ t. is_decimals (text t)) ([] ∷ codes "x" ∷ codes "#nil" ∷ codes "#empty" ∷ codes "##2" ∷ codes "2147483648" ∷ codes "$" ∷ codes "$1" ∷ codes "$a@start" ∷ codes "$$a" ∷ []) ≡ false
unfolding is_decimals accuracy_of strip_front is_identifier is_plain_char is_name_char is_name_start chars is_utf8 encode
no_decimals = refl

-- PARAMETERS: the parameters file gives `f`.
unfoldable is_bad_with_file : Data → Bool
is_bad_with_file d = has_bad_parameter ((codes "f", []) ∷ []) d

abbrev parameters : Data → Data
parameters d = one (codes "parameters") d

good_parameters :
    list_any is_bad_with_file
    (nothing ∷ parameters nothing ∷ parameters (one (codes "a") (text (codes "#foo"))) ∷ table (parameters (one (codes "a") (text []))) ∷ table (parameters (one (codes "f") (text [])))
    ∷ one (codes "parameterURL") (text (codes "a/p.csv")) ∷ []) ≡ false
unfolding is_bad_with_file has_bad_parameter has_bad_parameter_url is_plain_path is_identifier is_plain_char is_name_char is_name_start chars is_utf8 encode
good_parameters = refl

bad_parameters :
    list_all is_bad_with_file
    (parameters null ∷ parameters (one (codes "a") null) ∷ parameters (one (codes "a.b") (text [])) ∷ parameters (one (codes "f") (text []))
    ∷ table (parameters null) ∷ table (parameters (one (codes "a") null))
    ∷ table (parameters (one (codes "1") (text []))) ∷ one (codes "parameterURL") null ∷ one (codes "parameterURL") (text (codes "/p.csv")) ∷ []) ≡ true
unfolding is_bad_with_file has_bad_parameter has_bad_parameter_url is_plain_path is_identifier is_plain_char is_name_char is_name_start chars is_utf8 encode
bad_parameters = refl

-- COUNTS: a count at the limit is accepted, one above it is not.
abbrev two_columns : Data
two_columns = columns (two (codes "a") null (codes "b") null)

abbrev two_tables : Data
two_tables = tables (two (codes "a") null (codes "b") null)

as_many_as_the_limit : list_any (has_too_many (record { rows = 9; tables = 2; columns = 2; metadata = 9 })) (two_tables ∷ two_columns ∷ []) ≡ false
unfolding has_too_many
as_many_as_the_limit = refl

more_than_the_limit : (has_too_many (record { rows = 9; tables = 1; columns = 9; metadata = 9 }) two_tables ≡ true)
    × (has_too_many (record { rows = 9; tables = 9; columns = 1; metadata = 9 }) two_columns ≡ true)
unfolding has_too_many
more_than_the_limit = (refl, refl)

-- THE ORDER: a metadata with all these faults, after the first n of them are corrected.
unless : {A : Type 0} → ℕ → ℕ → A → A → A
unless n m mended faulty = if nat_le m n then mended else faulty

abbrev with_faults_after : ℕ → Data
with_faults_after n =
    object
    (member (codes "decimals") (unless n 11 (text (codes "2")) null)
    (member (codes "dimensions") (unless n 10 nothing (one (codes "entity") null))
    (member (codes "documentInfo")
    (object
    (member (codes "documentType") (text (unless n 1 (codes "https://xbrl.org/2021/xbrl-csv") (codes "x")))
    (member (codes "namespaces") (unless n 2 nothing null)
    (member (codes "taxonomy") (unless n 3 (array no_items) null) no_members))))
    (member (codes "links") (unless n 4 nothing null)
    (member (codes "parameters") (unless n 12 nothing null)
    (member (codes "tableTemplates")
    (one (codes "p")
    (two
    (codes "columns") (one (codes "c") (two (codes "dimensions") nothing (unless n 7 (codes "decimals") (codes "propertyGroups")) (unless n 7 (text (codes "2")) nothing)))
    (codes "rowIdColumn") (text (unless n 9 (codes "c") (codes "d")))))
    (member (codes "tables")
    (one (unless n 5 (codes "t") (codes "1"))
    (two (codes "template") (text (unless n 8 (codes "p") (codes "q"))) (codes "url") (text (unless n 6 (codes "t.csv") [])))) no_members)))))))

unfoldable first_after : ℕ → ℕ → Option MetaFault
first_after most n = first_fault (record { rows = 9; tables = most; columns = 9; metadata = 9 }) [] [] (with_faults_after n)

unfoldable late_after : ℕ → ℕ → Option MetaFault
late_after most n = late_fault (record { rows = 9; tables = most; columns = 9; metadata = 9 }) [] [] (with_faults_after n)

in_order :
    (map (first_after 0) (0 ∷ 1 ∷ 2 ∷ 3 ∷ 4 ∷ 5 ∷ 6 ∷ 7 ∷ 8 ∷ 9 ∷ 10 ∷ 11 ∷ 12 ∷ [])
    ≡ Some NotReport ∷ Some BadNamespaces ∷ Some BadTaxonomy ∷ Some Unsupported ∷ Some BadIdentifier ∷ Some BadTemplate ∷ Some ColumnKinds ∷ Some UnknownTemplate ∷ Some UnknownColumn
    ∷ Some BadDimension ∷ Some BadDecimals ∷ Some BadParameter ∷ Some TooLarge ∷ [])
    × (first_after 1 12 ≡ None) × (map (late_after 0) (0 ∷ 10 ∷ 11 ∷ 12 ∷ []) ≡ Some BadDimension ∷ Some BadDecimals ∷ Some BadParameter ∷ Some TooLarge ∷ [])
    × (late_after 1 12 ≡ None)
unfolding first_after late_after unless has_no_report has_bad_namespaces has_bad_taxonomy is_unsupported has_bad_identifier has_bad_shape has_mixed_column has_unknown_template
    has_unknown_column has_bad_dimensions is_bad_dimension has_bad_decimals is_decimals has_bad_parameter has_bad_parameter_url has_too_many is_plain_path
    accuracy_of strip_front qname_of is_identifier is_plain_char is_ncname is_name_char is_name_start chars is_utf8 encode
in_order = (refl, refl, refl, refl)

-- These are not faults of a metadata: its bytes are JSON, or another file has the fault.
no_faults_of_metadata : list_any (has_fault (record { rows = 0; tables = 0; columns = 0; metadata = 0 }) [] [] nothing) (Syntax ∷ BadTypes ∷ Memory ∷ Read ∷ []) ≡ false
no_faults_of_metadata = refl

-- With the name of the parameters file only two faults are tested, though this metadata has others.
no_faults_of_the_name :
    list_any (has_url_fault (with_faults_after 1))
    (Syntax ∷ BadNamespaces ∷ BadTaxonomy ∷ Unsupported ∷ BadIdentifier ∷ BadTemplate ∷ ColumnKinds ∷ UnknownTemplate ∷ UnknownColumn ∷ BadDimension ∷ BadDecimals
    ∷ BadTypes ∷ TooLarge ∷ Memory ∷ Read ∷ []) ≡ false
no_faults_of_the_name = refl
