-- The place of a fault of a metadata, on worked cases: the keys that lead to it from the document,
-- by the names of xBRL-CSV 1.0.
use Rattle.std.proofs.Common.{◌≡◌, ℕ, ◌∷◌, List, [], true, false, Option, Some, refl}
use Rattle.std.specs.Prelude.{codes}
use Rattle.std.specs.Str.{chars, is_utf8}
use lib.Utf8.{encode}
use Rattle.serde_json.specs.Data.{Data, null, string, array, object, no_items, item, no_members, member}
use Rattle.oim_cells.specs.Cells.{meaning_of, accuracy_of}
use Rattle.oim_names.specs.Names.{is_name_start, is_name_char, is_plain_char, is_ncname, is_identifier}
use Rattle.oim_names.specs.PlainPath.{is_plain_path}
use Rattle.oim_names.specs.QName.{qname_of}
use Rattle.oim_entries.specs.declared.fault.MetaFault.{MetaFault}
use Rattle.oim_entries.specs.declared.fault.MetaFault.TheVariants.{NotReport, BadNamespaces, BadTaxonomy, Unsupported, BadIdentifier, BadTemplate, ColumnKinds}
use Rattle.oim_entries.specs.declared.fault.MetaFault.TheVariants.{UnknownTemplate, UnknownColumn, BadDimension, BadDecimals, BadParameter, TooLarge, Syntax}
use Rattle.oim_meta.specs.declared.findings.Finding.{Finding}
use Rattle.oim_meta.specs.declared.refusal.Refusal.TheVariants.{Found}
use Rattle.oim_meta.specs.Written.{strip_front, name_and_side}
use Rattle.oim_meta.specs.Faults.{has_no_report}
use Rattle.oim_meta.specs.BadDimensions.{is_bad_dimension}
use Rattle.oim_meta.specs.BadDecimals.{is_decimals}
use Rattle.oim_meta.specs.BadParameters.{has_bad_parameter_url}
use Rattle.oim_meta.specs.Paths.{Path}
use Rattle.oim_meta.specs.Findings.{finding, first_of}
use Rattle.oim_meta.specs.FindingPlaces.{places_of, has}
use Rattle.oim_meta.specs.Refusals.{fault_in}
use Rattle.oim_meta.specs.state.Refusals.{refusal_of}
use Rattle.oim_meta.specs.Walk.{in_dimensions, in_level, in_group, in_groups, in_column_itself, in_sources, in_column_level, in_column, in_template_itself, in_columns, in_template, in_templates}
use Rattle.oim_meta.specs.WalkTables.{in_parameters, in_own_parameters, in_table_itself, in_table, in_tables}
use Rattle.oim_meta.specs.WalkReport.{in_namespaces, in_info, in_info_in, in_document, in_parts, in_metadata}

-- SMALL REPORTS: one part of each is wrong.
abbrev nothing : Data
nothing = object no_members

abbrev one : List ℕ → Data → Data
one k d = object (member k d no_members)

abbrev two : List ℕ → Data → List ℕ → Data → Data
two k d l e = object (member k d (member l e no_members))

abbrev text : List ℕ → Data
text t = string t

abbrev list : Data → Data
list d = array (item d no_items)

-- A documentInfo with its two required properties and one more.
abbrev info : Data → Data → List ℕ → Data → Data
info kind taxonomy k d = one (codes "documentInfo") (object (member (codes "documentType") kind (member (codes "taxonomy") taxonomy (member k d no_members))))

abbrev csv : Data
csv = text (codes "https://xbrl.org/2021/xbrl-csv")

abbrev with_info : List ℕ → Data → Data
with_info k d = info csv (array no_items) k d

abbrev good_info : Data
good_info = two (codes "documentType") csv (codes "taxonomy") (array no_items)

abbrev report : List ℕ → Data → Data
report k d = two (codes "documentInfo") good_info k d

abbrev template : Data → Data
template t = report (codes "tableTemplates") (one (codes "p") t)

abbrev columns : Data → Data
columns d = template (one (codes "columns") d)

-- A template that has columns and one more property.
abbrev template_with : List ℕ → Data → Data
template_with k d = template (two (codes "columns") (one (codes "c") nothing) k d)

abbrev column : Data → Data
column c = columns (one (codes "c") c)

abbrev group : Data → Data
group g = column (one (codes "propertyGroups") (one (codes "g") g))

-- A table t of a template t.
abbrev table : Data → Data
table t =
    object
    (member (codes "documentInfo") good_info
    (member (codes "tableTemplates") (one (codes "t") (one (codes "columns") nothing)) (member (codes "tables") (one (codes "t") t) no_members)))

-- A table that has a url and one more property.
abbrev table_with : List ℕ → Data → Data
table_with k d = table (two k d (codes "url") (text (codes "t.csv")))

-- Two tables of one template.
abbrev two_tables : Data
two_tables =
    object
    (member (codes "documentInfo") good_info
    (member (codes "tableTemplates") (one (codes "t") (one (codes "columns") nothing))
    (member (codes "tables")
    (two (codes "t") (one (codes "url") (text (codes "t.csv"))) (codes "u") (two (codes "template") (text (codes "t")) (codes "url") (text (codes "u.csv"))))
    no_members)))

-- Decimals and tables that are not well-formed.
abbrev two_faults : Data
two_faults = object (member (codes "decimals") null (member (codes "documentInfo") good_info (member (codes "tables") null no_members)))

-- An entity that is not a text.
abbrev bad_entity : Data
bad_entity = one (codes "entity") null

-- The findings if the parameters file gives `f`, with at most one table and two columns.
unfoldable walked : Data → List Finding
walked d = in_metadata (record { rows = 9; tables = 1; columns = 2; metadata = 9 }) ((codes "f", []) ∷ []) [] d

unfoldable first : Data → Option Finding
first d = first_of (walked d)

-- The first finding is this fault at these keys.
abbrev Stands : Data → MetaFault → Path → Type 0
Stands d fault keys = first d ≡ Some (finding fault keys)

-- DOCUMENT INFORMATION
places_in_info :
    -- The document type is another.
    Stands (info (text (codes "x")) (array no_items) (codes "namespaces") nothing) NotReport (codes "documentInfo" ∷ codes "documentType" ∷ [])
    -- There is no documentInfo: the missing type is named.
    × Stands nothing NotReport (codes "documentInfo" ∷ codes "documentType" ∷ [])
    -- `namespaces` is not an object.
    × Stands (with_info (codes "namespaces") null) BadNamespaces (codes "documentInfo" ∷ codes "namespaces" ∷ [])
    -- A prefix begins with a digit: at the prefix.
    × Stands (with_info (codes "namespaces") (two (codes "a") (text (codes "u")) (codes "1") (text (codes "v")))) BadNamespaces (codes "documentInfo" ∷ codes "namespaces" ∷ codes "1" ∷ [])
    -- One URI for two prefixes: at neither of them.
    × Stands (with_info (codes "namespaces") (two (codes "a") (text (codes "u")) (codes "b") (text (codes "u")))) BadNamespaces (codes "documentInfo" ∷ codes "namespaces" ∷ [])
    -- `taxonomy` is not a list.
    × Stands (info csv null (codes "namespaces") nothing) BadTaxonomy (codes "documentInfo" ∷ codes "taxonomy" ∷ [])
    -- `taxonomy` is missing.
    × Stands (one (codes "documentInfo") (one (codes "documentType") csv)) BadTaxonomy (codes "documentInfo" ∷ codes "taxonomy" ∷ [])
    -- `baseURL` is not a text.
    × Stands (with_info (codes "baseURL") null) BadTaxonomy (codes "documentInfo" ∷ codes "baseURL" ∷ [])
    -- The report extends another.
    × Stands (with_info (codes "extends") (list (text (codes "m.json")))) Unsupported (codes "documentInfo" ∷ codes "extends" ∷ [])
unfolding walked first in_metadata in_document in_info_in in_info in_namespaces in_parts in_level in_dimensions in_templates in_template in_template_itself in_columns in_column in_column_itself
    in_sources in_column_level in_groups in_group in_tables in_table in_table_itself in_parameters in_own_parameters has_no_report has_bad_parameter_url is_bad_dimension is_decimals
    name_and_side meaning_of is_plain_path accuracy_of strip_front qname_of is_identifier is_plain_char is_ncname is_name_char is_name_start chars is_utf8 encode
places_in_info = (refl, refl, refl, refl, refl, refl, refl, refl, refl)

-- LINKS, and the report's own level.
places_in_report :
    -- A link.
    Stands (report (codes "links") (one (codes "x") nothing)) Unsupported (codes "links" ∷ [])
    -- `dimensions` is not an object.
    × Stands (report (codes "dimensions") null) BadTemplate (codes "dimensions" ∷ [])
    -- A dimension that is not a text: at its name.
    × Stands (report (codes "dimensions") bad_entity) BadDimension (codes "dimensions" ∷ codes "entity" ∷ [])
    -- `decimals` is neither number nor text.
    × Stands (report (codes "decimals") null) BadDecimals (codes "decimals" ∷ [])
unfolding walked first in_metadata in_document in_info_in in_info in_namespaces in_parts in_level in_dimensions in_templates in_template in_template_itself in_columns in_column in_column_itself
    in_sources in_column_level in_groups in_group in_tables in_table in_table_itself in_parameters in_own_parameters has_no_report has_bad_parameter_url is_bad_dimension is_decimals
    name_and_side meaning_of is_plain_path accuracy_of strip_front qname_of is_identifier is_plain_char is_ncname is_name_char is_name_start chars is_utf8 encode
places_in_report = (refl, refl, refl, refl)

-- TABLE TEMPLATES
places_in_templates :
    -- `tableTemplates` is not an object.
    Stands (report (codes "tableTemplates") null) BadTemplate (codes "tableTemplates" ∷ [])
    -- The name of a template has a dot.
    × Stands (report (codes "tableTemplates") (one (codes "p.q") (one (codes "columns") nothing))) BadIdentifier (codes "tableTemplates" ∷ codes "p.q" ∷ [])
    -- A template without columns: the missing property is named.
    × Stands (template nothing) BadTemplate (codes "tableTemplates" ∷ codes "p" ∷ codes "columns" ∷ [])
    -- `rowIdColumn` is not a text.
    × Stands (template_with (codes "rowIdColumn") null) BadTemplate (codes "tableTemplates" ∷ codes "p" ∷ codes "rowIdColumn" ∷ [])
    -- `rowIdColumn` does not name a column.
    × Stands (template_with (codes "rowIdColumn") (text (codes "d"))) UnknownColumn (codes "tableTemplates" ∷ codes "p" ∷ codes "rowIdColumn" ∷ [])
    -- `dimensions` of a template is not an object.
    × Stands (template_with (codes "dimensions") null) BadTemplate (codes "tableTemplates" ∷ codes "p" ∷ codes "dimensions" ∷ [])
    -- A dimension of a template.
    × Stands (template_with (codes "dimensions") bad_entity) BadDimension (codes "tableTemplates" ∷ codes "p" ∷ codes "dimensions" ∷ codes "entity" ∷ [])
    -- `decimals` of a template.
    × Stands (template_with (codes "decimals") null) BadDecimals (codes "tableTemplates" ∷ codes "p" ∷ codes "decimals" ∷ [])
    -- A column more than the limit.
    × Stands (columns (object (member (codes "a") nothing (member (codes "b") nothing (member (codes "c") nothing no_members))))) TooLarge (codes "tableTemplates" ∷ codes "p" ∷ codes "columns" ∷ [])
unfolding walked first in_metadata in_document in_info_in in_info in_namespaces in_parts in_level in_dimensions in_templates in_template in_template_itself in_columns in_column in_column_itself
    in_sources in_column_level in_groups in_group in_tables in_table in_table_itself in_parameters in_own_parameters has_no_report has_bad_parameter_url is_bad_dimension is_decimals
    name_and_side meaning_of is_plain_path accuracy_of strip_front qname_of is_identifier is_plain_char is_ncname is_name_char is_name_start chars is_utf8 encode
places_in_templates = (refl, refl, refl, refl, refl, refl, refl, refl, refl)

-- COLUMNS
places_in_columns :
    -- The name of a column has a dot.
    Stands (columns (one (codes "c.d") nothing)) BadIdentifier (codes "tableTemplates" ∷ codes "p" ∷ codes "columns" ∷ codes "c.d" ∷ [])
    -- A column is not an object.
    × Stands (column null) BadTemplate (codes "tableTemplates" ∷ codes "p" ∷ codes "columns" ∷ codes "c" ∷ [])
    -- A column with both dimensions and propertyGroups.
    × Stands (column (two (codes "dimensions") nothing (codes "propertyGroups") nothing)) ColumnKinds (codes "tableTemplates" ∷ codes "p" ∷ codes "columns" ∷ codes "c" ∷ [])
    -- `comment` is not a truth value.
    × Stands (column (one (codes "comment") (text (codes "true")))) BadTemplate (codes "tableTemplates" ∷ codes "p" ∷ codes "columns" ∷ codes "c" ∷ codes "comment" ∷ [])
    -- `propertiesFrom` is not a list.
    × Stands (column (two (codes "dimensions") nothing (codes "propertiesFrom") (text (codes "g")))) BadTemplate (codes "tableTemplates" ∷ codes "p" ∷ codes "columns" ∷ codes "c" ∷ codes "propertiesFrom" ∷ [])
    -- `propertiesFrom` does not name a column.
    × Stands (column (two (codes "dimensions") nothing (codes "propertiesFrom") (list (text (codes "x"))))) UnknownColumn (codes "tableTemplates" ∷ codes "p" ∷ codes "columns" ∷ codes "c" ∷ codes "propertiesFrom" ∷ [])
    -- `dimensions` of a column is not an object.
    × Stands (column (one (codes "dimensions") null)) BadTemplate (codes "tableTemplates" ∷ codes "p" ∷ codes "columns" ∷ codes "c" ∷ codes "dimensions" ∷ [])
    -- A dimension of a column.
    × Stands (column (one (codes "dimensions") bad_entity)) BadDimension (codes "tableTemplates" ∷ codes "p" ∷ codes "columns" ∷ codes "c" ∷ codes "dimensions" ∷ codes "entity" ∷ [])
    -- `decimals` of a fact column.
    × Stands (column (two (codes "decimals") null (codes "dimensions") nothing)) BadDecimals (codes "tableTemplates" ∷ codes "p" ∷ codes "columns" ∷ codes "c" ∷ codes "decimals" ∷ [])
unfolding walked first in_metadata in_document in_info_in in_info in_namespaces in_parts in_level in_dimensions in_templates in_template in_template_itself in_columns in_column in_column_itself
    in_sources in_column_level in_groups in_group in_tables in_table in_table_itself in_parameters in_own_parameters has_no_report has_bad_parameter_url is_bad_dimension is_decimals
    name_and_side meaning_of is_plain_path accuracy_of strip_front qname_of is_identifier is_plain_char is_ncname is_name_char is_name_start chars is_utf8 encode
places_in_columns = (refl, refl, refl, refl, refl, refl, refl, refl, refl)

-- PROPERTY GROUPS
places_in_groups :
    -- `propertyGroups` is not an object.
    Stands (column (one (codes "propertyGroups") null)) BadTemplate (codes "tableTemplates" ∷ codes "p" ∷ codes "columns" ∷ codes "c" ∷ codes "propertyGroups" ∷ [])
    -- A property group is not an object.
    × Stands (group null) BadTemplate (codes "tableTemplates" ∷ codes "p" ∷ codes "columns" ∷ codes "c" ∷ codes "propertyGroups" ∷ codes "g" ∷ [])
    -- A property group has the empty name.
    × Stands (column (one (codes "propertyGroups") (one [] nothing))) BadTemplate (codes "tableTemplates" ∷ codes "p" ∷ codes "columns" ∷ codes "c" ∷ codes "propertyGroups" ∷ [] ∷ [])
    -- `dimensions` of a property group is not an object.
    × Stands (group (one (codes "dimensions") null)) BadTemplate (codes "tableTemplates" ∷ codes "p" ∷ codes "columns" ∷ codes "c" ∷ codes "propertyGroups" ∷ codes "g" ∷ codes "dimensions" ∷ [])
    -- A dimension of a property group.
    × Stands (group (one (codes "dimensions") bad_entity)) BadDimension (codes "tableTemplates" ∷ codes "p" ∷ codes "columns" ∷ codes "c" ∷ codes "propertyGroups" ∷ codes "g" ∷ codes "dimensions" ∷ codes "entity" ∷ [])
    -- `decimals` of a property group.
    × Stands (group (one (codes "decimals") null)) BadDecimals (codes "tableTemplates" ∷ codes "p" ∷ codes "columns" ∷ codes "c" ∷ codes "propertyGroups" ∷ codes "g" ∷ codes "decimals" ∷ [])
unfolding walked first in_metadata in_document in_info_in in_info in_namespaces in_parts in_level in_dimensions in_templates in_template in_template_itself in_columns in_column in_column_itself
    in_sources in_column_level in_groups in_group in_tables in_table in_table_itself in_parameters in_own_parameters has_no_report has_bad_parameter_url is_bad_dimension is_decimals
    name_and_side meaning_of is_plain_path accuracy_of strip_front qname_of is_identifier is_plain_char is_ncname is_name_char is_name_start chars is_utf8 encode
places_in_groups = (refl, refl, refl, refl, refl, refl)

-- TABLES
places_in_tables :
    -- `tables` is not an object.
    Stands (report (codes "tables") null) BadTemplate (codes "tables" ∷ [])
    -- A table more than the limit.
    × Stands two_tables TooLarge (codes "tables" ∷ [])
    -- The name of a table has a dot.
    × Stands (two (codes "documentInfo") good_info (codes "tables") (one (codes "t.u") (one (codes "url") (text (codes "t.csv"))))) BadIdentifier (codes "tables" ∷ codes "t.u" ∷ [])
    -- A table without a url: the missing property is named.
    × Stands (table nothing) BadTemplate (codes "tables" ∷ codes "t" ∷ codes "url" ∷ [])
    -- The url is outside the folder.
    × Stands (table (one (codes "url") (text (codes "../t.csv")))) BadTemplate (codes "tables" ∷ codes "t" ∷ codes "url" ∷ [])
    -- `template` is not a text.
    × Stands (table_with (codes "template") null) BadTemplate (codes "tables" ∷ codes "t" ∷ codes "template" ∷ [])
    -- `template` does not name a template.
    × Stands (table_with (codes "template") (text (codes "q"))) UnknownTemplate (codes "tables" ∷ codes "t" ∷ codes "template" ∷ [])
    -- `optional` is not a truth value.
    × Stands (table_with (codes "optional") (text (codes "true"))) BadTemplate (codes "tables" ∷ codes "t" ∷ codes "optional" ∷ [])
    -- `parameters` of a table is not an object.
    × Stands (table_with (codes "parameters") null) BadParameter (codes "tables" ∷ codes "t" ∷ codes "parameters" ∷ [])
    -- A parameter of a table is not a text: at its name.
    × Stands (table_with (codes "parameters") (one (codes "a") null)) BadParameter (codes "tables" ∷ codes "t" ∷ codes "parameters" ∷ codes "a" ∷ [])
unfolding walked first in_metadata in_document in_info_in in_info in_namespaces in_parts in_level in_dimensions in_templates in_template in_template_itself in_columns in_column in_column_itself
    in_sources in_column_level in_groups in_group in_tables in_table in_table_itself in_parameters in_own_parameters has_no_report has_bad_parameter_url is_bad_dimension is_decimals
    name_and_side meaning_of is_plain_path accuracy_of strip_front qname_of is_identifier is_plain_char is_ncname is_name_char is_name_start chars is_utf8 encode
places_in_tables = (refl, refl, refl, refl, refl, refl, refl, refl, refl, refl)

-- PARAMETERS of the report.
places_in_parameters :
    -- `parameters` is not an object.
    Stands (report (codes "parameters") null) BadParameter (codes "parameters" ∷ [])
    -- A parameter is not a text: at its name.
    × Stands (report (codes "parameters") (one (codes "a") null)) BadParameter (codes "parameters" ∷ codes "a" ∷ [])
    -- A parameter is in the parameters file too.
    × Stands (report (codes "parameters") (two (codes "a") (text []) (codes "f") (text []))) BadParameter (codes "parameters" ∷ codes "f" ∷ [])
    -- The name of the parameters file is outside the folder.
    × Stands (report (codes "parameterURL") (text (codes "../p.csv"))) BadParameter (codes "parameterURL" ∷ [])
unfolding walked first in_metadata in_document in_info_in in_info in_namespaces in_parts in_level in_dimensions in_templates in_template in_template_itself in_columns in_column in_column_itself
    in_sources in_column_level in_groups in_group in_tables in_table in_table_itself in_parameters in_own_parameters has_no_report has_bad_parameter_url is_bad_dimension is_decimals
    name_and_side meaning_of is_plain_path accuracy_of strip_front qname_of is_identifier is_plain_char is_ncname is_name_char is_name_start chars is_utf8 encode
places_in_parameters = (refl, refl, refl, refl)

-- TWO FAULTS
first_of_two :
    -- The decimals of the report are first in the walk, but `tables`, which is not an object, has
    -- the lower number.
    Stands two_faults BadTemplate (codes "tables" ∷ [])
    -- Both faults are of one kind: that of the first column.
    × Stands (columns (two (codes "c") null (codes "d") null)) BadTemplate (codes "tableTemplates" ∷ codes "p" ∷ codes "columns" ∷ codes "c" ∷ [])
unfolding walked first in_metadata in_document in_info_in in_info in_namespaces in_parts in_level in_dimensions in_templates in_template in_template_itself in_columns in_column in_column_itself
    in_sources in_column_level in_groups in_group in_tables in_table in_table_itself in_parameters in_own_parameters has_no_report has_bad_parameter_url is_bad_dimension is_decimals
    name_and_side meaning_of is_plain_path accuracy_of strip_front qname_of is_identifier is_plain_char is_ncname is_name_char is_name_start chars is_utf8 encode
first_of_two = (refl, refl)

-- TWO PLACES of one fault: the first of them in the order of the walk.
first_place :
    -- A bad prefix, and one URI for two others: at the prefix.
    Stands
    (with_info (codes "namespaces") (object (member (codes "1") (text (codes "v")) (member (codes "a") (text (codes "u")) (member (codes "b") (text (codes "u")) no_members)))))
    BadNamespaces (codes "documentInfo" ∷ codes "namespaces" ∷ codes "1" ∷ [])
    -- A report that extends another and has links.
    × Stands
    (two (codes "documentInfo")
    (object (member (codes "documentType") csv (member (codes "extends") (list (text (codes "m.json"))) (member (codes "taxonomy") (array no_items) no_members))))
    (codes "links") (one (codes "x") nothing))
    Unsupported (codes "documentInfo" ∷ codes "extends" ∷ [])
    -- A template without columns, whose rowIdColumn is not a text.
    × Stands (template (one (codes "rowIdColumn") null)) BadTemplate (codes "tableTemplates" ∷ codes "p" ∷ codes "columns" ∷ [])
    -- A table without a url, whose template is not a text.
    × Stands (table (one (codes "template") null)) BadTemplate (codes "tables" ∷ codes "t" ∷ codes "url" ∷ [])
    -- A table whose template is not a text, and whose optional is not a truth value.
    × Stands
    (table (object (member (codes "optional") (text (codes "true")) (member (codes "template") null (member (codes "url") (text (codes "t.csv")) no_members)))))
    BadTemplate (codes "tables" ∷ codes "t" ∷ codes "template" ∷ [])
unfolding walked first in_metadata in_document in_info_in in_info in_namespaces in_parts in_level in_dimensions in_templates in_template in_template_itself in_columns in_column in_column_itself
    in_sources in_column_level in_groups in_group in_tables in_table in_table_itself in_parameters in_own_parameters has_no_report has_bad_parameter_url is_bad_dimension is_decimals
    name_and_side meaning_of is_plain_path accuracy_of strip_front qname_of is_identifier is_plain_char is_ncname is_name_char is_name_start chars is_utf8 encode
first_place = (refl, refl, refl, refl, refl)

-- ALL PLACES: the columns that are not objects, in the order of the walk. A good report has none.
all_places :
    (places_of BadTemplate (walked (columns (two (codes "c") null (codes "d") null)))
    ≡ (codes "tableTemplates" ∷ codes "p" ∷ codes "columns" ∷ codes "c" ∷ []) ∷ (codes "tableTemplates" ∷ codes "p" ∷ codes "columns" ∷ codes "d" ∷ []) ∷ [])
    × (has BadTemplate (walked two_faults) ≡ true) × (has BadTemplate (walked (column null)) ≡ true) × (has BadDecimals (walked (column null)) ≡ false)
    × (walked (table (one (codes "url") (text (codes "t.csv")))) ≡ []) × (walked (column (one (codes "dimensions") nothing)) ≡ [])
unfolding walked in_metadata in_document in_info_in in_info in_namespaces in_parts in_level in_dimensions in_templates in_template in_template_itself in_columns in_column in_column_itself
    in_sources in_column_level in_groups in_group in_tables in_table in_table_itself in_parameters in_own_parameters has_no_report has_bad_parameter_url is_bad_dimension is_decimals
    name_and_side meaning_of is_plain_path accuracy_of strip_front qname_of is_identifier is_plain_char is_ncname is_name_char is_name_start chars is_utf8 encode
all_places = (refl, refl, refl, refl, refl, refl)

-- NO PLACE: text that is not JSON is a fault of the whole metadata, without keys.
no_key : (refusal_of Syntax ≡ Found (finding Syntax [])) × (fault_in (refusal_of Syntax) ≡ Syntax)
no_key = (refl, refl)
