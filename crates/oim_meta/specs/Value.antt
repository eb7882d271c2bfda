-- The report of a metadata without faults (xBRL-CSV 1.0: metadata, table templates, columns and
-- tables). The members of a JSON object are in byte order of name.
use Rattle.std.specs.Prelude.{ℕ, suc, List, [], ◌∷◌, ◌++◌, bytes_eq, nat_eq, fold, Option, Some, None, option_map, unwrap_or, codes, if◌then◌else◌}
use Rattle.std.specs.List.{list_any}
use Rattle.serde_json.specs.Data.{Data, Items, Members, no_members, member}
use Rattle.serde_json.specs.Find.{get, as_str}
use Rattle.oim_report.specs.Types.{TypesValue}
use Rattle.oim_report.specs.Parameters.{ParametersValue}
use Rattle.oim_report.specs.Readers.{no_level}
use Rattle.oim_report.specs.ReportValue.{ReportValue}
use Rattle.oim_report.specs.declared.data.Info.{Info}
use Rattle.oim_report.specs.declared.data.Level.{Level}
use Rattle.oim_report.specs.declared.data.Column.{Column}
use Rattle.oim_report.specs.declared.data.ColumnKind.{ColumnKind}
use Rattle.oim_report.specs.declared.data.ColumnKind.TheVariants.{Fact, Groups, Comment, Plain}
use Rattle.oim_report.specs.declared.data.Table.{Table}
use Rattle.oim_report.specs.declared.data.Template.{Template}
use Rattle.oim_report.specs.declared.data.Written.{Written}
use Rattle.oim_meta.specs.Members.{text_of, text_at, flag_at, section, items_at, map_members, map_items}
use Rattle.oim_meta.specs.Faults.{is_fact, is_groups, is_comment, template_name}
use Rattle.oim_meta.specs.Prefixes.{document_info, prefixes_of}
use Rattle.oim_meta.specs.Written.{written_of}
use Rattle.oim_meta.specs.Decimals.{decimals_of}

-- A name with its text.
abbrev pub named_text : List ℕ → Data → List ℕ × List ℕ
named_text name d = (name, text_of d)

abbrev pub named_dimension : List ℕ → Data → List ℕ × Written
named_dimension key d = (key, written_of key (text_of d))

-- The properties of one level.
unfoldable pub level_of : Data → Level
level_of d = record { dimensions = map_members named_dimension (section (codes "dimensions") d); decimals = option_map decimals_of (get (codes "decimals") d) }

abbrev pub named_level : List ℕ → Data → List ℕ × Level
named_level name d = (name, level_of d)

-- The place of a name among members, from 0.
abbrev pub place_of : List ℕ → Members → ℕ
place_of name no_members = 0
place_of name (member k d ms) = if bytes_eq name k then 0 else suc (place_of name ms)

-- X is added at the end, unless the list has it.
abbrev pub add_new : List ℕ → ℕ → List ℕ
add_new seen x = if list_any (λ y. nat_eq y x) seen then seen else seen ++ x ∷ []

abbrev pub add_place : Members → List ℕ → Option (List ℕ) → List ℕ
add_place columns seen None = seen
add_place columns seen (Some name) = add_new seen (place_of name columns)

-- The places of names among columns, each once, in the order of first mention. A value that is not
-- a text names nothing.
abbrev pub places_of : Members → Items → List ℕ
places_of columns names = fold (add_place columns) [] (map_items as_str names)

-- A column with dimensions, even empty, is a fact column; else one with propertyGroups is a
-- property group column.
abbrev pub kind_of : Data → ColumnKind
kind_of c =
    if is_fact c then Fact
    else if is_groups c then Groups
    else if is_comment c then Comment
    else Plain

-- The level of a column. Only a fact column's level is used.
abbrev pub column_level : ColumnKind → Data → Level
column_level Fact c = level_of c
column_level Groups c = no_level
column_level Comment c = no_level
column_level Plain c = no_level

abbrev pub groups_of : ColumnKind → Data → List (List ℕ × Level)
groups_of Fact c = []
groups_of Groups c = map_members named_level (section (codes "propertyGroups") c)
groups_of Comment c = []
groups_of Plain c = []

-- The columns that a fact column takes property groups from.
abbrev pub sources_of : Members → ColumnKind → Data → List ℕ
sources_of columns Fact c = places_of columns (items_at (codes "propertiesFrom") c)
sources_of columns Groups c = []
sources_of columns Comment c = []
sources_of columns Plain c = []

-- A column among the columns of its template.
unfoldable pub column_of : Members → List ℕ → Data → Column
column_of columns id c =
    record { id = id; kind = kind_of c; level = column_level (kind_of c) c; groups = groups_of (kind_of c) c; from = sources_of columns (kind_of c) c }

abbrev pub columns_of : Data → List Column
columns_of t = map_members (column_of (section (codes "columns") t)) (section (codes "columns") t)

abbrev pub row_id_of : Data → Option ℕ
row_id_of t = option_map (λ name. place_of name (section (codes "columns") t)) (text_at (codes "rowIdColumn") t)

unfoldable pub template_of : List ℕ → Data → Template
template_of id t = record { id = id; columns = columns_of t; row_id_column = row_id_of t; level = level_of t }

-- A table, with the templates of its report.
unfoldable pub table_of : Members → List ℕ → Data → Table
table_of templates id t =
    record {
      id = id;
      url = unwrap_or (text_at (codes "url") t) [];
      is_optional = flag_at (codes "optional") t;
      template = place_of (template_name id t) templates;
      parameters = map_members named_text (section (codes "parameters") t);
    }

abbrev pub tables_of : Data → List Table
tables_of d = map_members (table_of (section (codes "tableTemplates") d)) (section (codes "tables") d)

abbrev pub templates_of : Data → List Template
templates_of d = map_members template_of (section (codes "tableTemplates") d)

abbrev pub info_of : Data → Info
info_of i = record { base_url = text_at (codes "baseURL") i; taxonomy = map_items text_of (items_at (codes "taxonomy") i) }

-- The report of a metadata, with a parameters file and the types. The metadata's own parameters are
-- before those of the file.
unfoldable pub report_of : ParametersValue → TypesValue → Data → ReportValue
report_of parameters types d =
    record {
      info = info_of (document_info d);
      namespaces = prefixes_of d;
      types = types;
      level = level_of d;
      templates = templates_of d;
      tables = tables_of d;
      parameters = map_members named_text (section (codes "parameters") d) ++ parameters;
    }
