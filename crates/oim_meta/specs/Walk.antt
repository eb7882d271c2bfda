-- The faults of each part of a metadata with their places, in the order of the walk (xBRL-CSV 1.0:
-- table templates, columns, property groups, dimensions and decimals). A value that is not an
-- object has no members, and one that is not a list has no items, so nothing is found inside it.
use Rattle.std.specs.Prelude.{ℕ, List, [], ◌∷◌, ◌++◌, Bool, not, ◌||◌, ◌&&◌, bytes_eq, codes}
use Rattle.serde_json.specs.Data.{Data, Members, no_members, member}
use Rattle.serde_json.specs.Find.{get}
use Rattle.oim_names.specs.Names.{is_identifier}
use Rattle.oim_entries.specs.declared.fault.MetaFault.TheVariants.{BadIdentifier, BadTemplate, ColumnKinds, UnknownColumn, BadDimension, BadDecimals, TooLarge}
use Rattle.oim_meta.specs.declared.findings.Finding.{Finding}
use Rattle.oim_meta.specs.Known.{Known}
use Rattle.oim_meta.specs.Members.{section, if_there, absent_or}
use Rattle.oim_meta.specs.Faults.{is_no_object, is_no_flag, is_no_text, is_fact, is_mixed_column, has_bad_section, has_bad_sources}
use Rattle.oim_meta.specs.BadDimensions.{is_bad_dimension}
use Rattle.oim_meta.specs.BadDecimals.{has_bad_decimals_there}
use Rattle.oim_meta.specs.Counts.{has_too_many_columns}
use Rattle.oim_meta.specs.UnknownColumn.{has_unknown_row_id, has_unknown_source}
use Rattle.oim_meta.specs.Findings.{found}
use Rattle.oim_meta.specs.Paths.{Path, template_path, column_path, group_path}

-- The findings in each member.
abbrev pub in_members : (List ℕ → Data → List Finding) → Members → List Finding
in_members p no_members = []
in_members p (member k d ms) = p k d ++ in_members p ms

-- A dimension of the part at a path.
abbrev pub in_dimension : Known → Path → List ℕ → Data → List Finding
in_dimension known here key d = found BadDimension (here ++ codes "dimensions" ∷ key ∷ []) (is_bad_dimension known.types known.names key d)

-- The dimensions of a part.
unfoldable pub in_dimensions : Known → Path → Data → List Finding
in_dimensions known here d =
    found BadTemplate (here ++ codes "dimensions" ∷ []) (has_bad_section d) ++ in_members (in_dimension known here) (section (codes "dimensions") d)

-- A level.
unfoldable pub in_level : Known → Path → Data → List Finding
in_level known here d = in_dimensions known here d ++ found BadDecimals (here ++ codes "decimals" ∷ []) (has_bad_decimals_there d)

-- A property group of a column of a template.
unfoldable pub in_group : Known → List ℕ → List ℕ → List ℕ → Data → List Finding
in_group known t c name g = found BadTemplate (group_path t c name) (bytes_eq name [] || is_no_object g) ++ in_level known (group_path t c name) g

-- The property groups of a column.
unfoldable pub in_groups : Known → List ℕ → List ℕ → Data → List Finding
in_groups known t c d =
    found BadTemplate (column_path t c ++ codes "propertyGroups" ∷ []) (if_there is_no_object (get (codes "propertyGroups") d))
    ++ in_members (in_group known t c) (section (codes "propertyGroups") d)

-- A column itself, apart from its level, its groups and its sources.
unfoldable pub in_column_itself : List ℕ → List ℕ → Data → List Finding
in_column_itself t name c =
    found BadIdentifier (column_path t name) (not (is_identifier name))
    ++ found BadTemplate (column_path t name) (is_no_object c)
    ++ found ColumnKinds (column_path t name) (is_mixed_column name c)
    ++ found BadTemplate (column_path t name ++ codes "comment" ∷ []) (if_there is_no_flag (get (codes "comment") c))

-- The columns that a column takes properties from.
unfoldable pub in_sources : List ℕ → Data → List ℕ → Data → List Finding
in_sources t template name c =
    found BadTemplate (column_path t name ++ codes "propertiesFrom" ∷ []) (has_bad_sources c)
    ++ found UnknownColumn (column_path t name ++ codes "propertiesFrom" ∷ []) (has_unknown_source template c)

-- The level of a column. Only a fact column's decimals are tested.
unfoldable pub in_column_level : Known → Path → Data → List Finding
in_column_level known here c =
    in_dimensions known here c ++ found BadDecimals (here ++ codes "decimals" ∷ []) (is_fact c && has_bad_decimals_there c)

-- A column of a template.
unfoldable pub in_column : Known → List ℕ → Data → List ℕ → Data → List Finding
in_column known t template name c =
    in_column_itself t name c ++ in_sources t template name c ++ in_column_level known (column_path t name) c ++ in_groups known t name c

-- `columns` is absent or not an object.
abbrev pub lacks_columns : Data → Bool
lacks_columns t = absent_or is_no_object (get (codes "columns") t)

-- A template itself, apart from its level and its columns.
unfoldable pub in_template_itself : List ℕ → Data → List Finding
in_template_itself name t =
    found BadIdentifier (template_path name) (not (is_identifier name))
    ++ found BadTemplate (template_path name ++ codes "columns" ∷ []) (lacks_columns t)
    ++ found BadTemplate (template_path name ++ codes "rowIdColumn" ∷ []) (if_there is_no_text (get (codes "rowIdColumn") t))
    ++ found UnknownColumn (template_path name ++ codes "rowIdColumn" ∷ []) (has_unknown_row_id t)

-- The columns of a template, and their count.
unfoldable pub in_columns : Known → List ℕ → Data → List Finding
in_columns known name t =
    found TooLarge (template_path name ++ codes "columns" ∷ []) (has_too_many_columns known.limits.columns name t)
    ++ in_members (in_column known name t) (section (codes "columns") t)

-- A table template.
unfoldable pub in_template : Known → List ℕ → Data → List Finding
in_template known name t =
    in_template_itself name t ++ in_level known (template_path name) t ++ in_columns known name t

-- The templates of a metadata.
unfoldable pub in_templates : Known → Data → List Finding
in_templates known d =
    found BadTemplate (codes "tableTemplates" ∷ []) (if_there is_no_object (get (codes "tableTemplates") d))
    ++ in_members (in_template known) (section (codes "tableTemplates") d)
