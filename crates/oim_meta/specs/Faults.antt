-- The faults of a metadata's document, templates and tables (xBRL-CSV 1.0: documentInfo, table
-- templates, columns, tables). A value that is not an object has no members, and one that is not a
-- list has no items, so it has no fault inside.
use Rattle.std.specs.Prelude.{ℕ, List, [], Bool, true, not, ◌||◌, ◌&&◌, bytes_eq, Option, option_and_then, unwrap_or, is_some, is_none, codes}
use Rattle.serde_json.specs.Data.{Data, Items, Members}
use Rattle.serde_json.specs.Find.{get, as_array, as_bool}
use Rattle.oim_names.specs.Names.{is_identifier, is_ncname}
use Rattle.oim_meta.specs.Members.{is_text, is_object, text_at, flag_at, section, any_member, any_item, if_there, no_object_or, absent_or}
use Rattle.oim_meta.specs.Order.{repeats_text}
use Rattle.oim_names.specs.PlainPath.{is_plain_path}

-- DocumentType is that of xBRL-CSV.
abbrev pub is_csv : Data → Bool
is_csv i = if_there (λ t. bytes_eq t (codes "https://xbrl.org/2021/xbrl-csv")) (text_at (codes "documentType") i)

-- 2: documentInfo or its documentType is absent or another.
unfoldable pub has_no_report : Data → Bool
has_no_report d = not (if_there is_csv (get (codes "documentInfo") d))

-- A prefix that is not an NCName, or a URI that is not a text.
abbrev pub is_bad_prefix : List ℕ → Data → Bool
is_bad_prefix prefix uri = not (is_ncname prefix) || not (is_text uri)

abbrev pub has_bad_prefix : Members → Bool
has_bad_prefix ms = any_member is_bad_prefix ms || repeats_text ms

-- 3, in documentInfo: namespaces is not an object, has a bad prefix or URI, or has one URI for two
-- prefixes.
unfoldable pub has_bad_namespaces : Data → Bool
has_bad_namespaces i = if_there (no_object_or has_bad_prefix) (get (codes "namespaces") i)

abbrev pub is_no_text : Data → Bool
is_no_text d = not (is_text d)

-- Some item is not a text.
abbrev pub has_no_text : Items → Bool
has_no_text = any_item is_no_text

-- A value that is not a list of texts.
abbrev pub is_no_texts : Data → Bool
is_no_texts d = absent_or has_no_text (as_array d)

-- `taxonomy` is absent or not a list of texts.
abbrev pub lacks_taxonomy : Data → Bool
lacks_taxonomy i = absent_or is_no_texts (get (codes "taxonomy") i)

-- 4, in documentInfo: taxonomy is absent or not a list of texts, or baseURL is not a text.
unfoldable pub has_bad_taxonomy : Data → Bool
has_bad_taxonomy i = lacks_taxonomy i || if_there is_no_text (get (codes "baseURL") i)

-- A value that is not an empty list.
abbrev pub is_no_empty_list : Data → Bool
is_no_empty_list d = absent_or (any_item (λ _. true)) (as_array d)

abbrev pub is_anything : List ℕ → Data → Bool
is_anything _ _ = true

-- A value that is not an empty object.
abbrev pub is_no_empty_object : Data → Bool
is_no_empty_object = no_object_or (any_member is_anything)

-- The value at a key of documentInfo.
abbrev pub info_at : List ℕ → Data → Option Data
info_at k d = option_and_then (get k) (get (codes "documentInfo") d)

-- 5: extends in documentInfo is not an empty list, or links is not an empty object.
unfoldable pub is_unsupported : Data → Bool
is_unsupported d = if_there is_no_empty_list (info_at (codes "extends") d) || if_there is_no_empty_object (get (codes "links") d)

-- A key that is not an identifier.
abbrev pub is_bad_key : List ℕ → Data → Bool
is_bad_key name _ = not (is_identifier name)

-- Some column of some template passes the test.
abbrev pub any_column : (List ℕ → Data → Bool) → Data → Bool
any_column p d = any_member (λ _ template. any_member p (section (codes "columns") template)) (section (codes "tableTemplates") d)

-- 6: the key of a template, table or column is not an identifier.
unfoldable pub has_bad_identifier : Data → Bool
has_bad_identifier d =
    any_member is_bad_key (section (codes "tableTemplates") d) || any_member is_bad_key (section (codes "tables") d) || any_column is_bad_key d

abbrev pub is_no_object : Data → Bool
is_no_object d = not (is_object d)

-- A value that is not a truth value.
abbrev pub is_no_flag : Data → Bool
is_no_flag d = is_none (as_bool d)

-- `dimensions` is not an object.
abbrev pub has_bad_section : Data → Bool
has_bad_section d = if_there is_no_object (get (codes "dimensions") d)

-- A property group of the wrong shape.
abbrev pub is_bad_group : List ℕ → Data → Bool
is_bad_group name g = bytes_eq name [] || is_no_object g || has_bad_section g

-- A column with dimensions, even empty.
abbrev pub is_fact : Data → Bool
is_fact c = is_some (get (codes "dimensions") c)

-- `propertiesFrom` of a fact column is not a list of texts.
abbrev pub has_bad_sources : Data → Bool
has_bad_sources c = is_fact c && if_there is_no_texts (get (codes "propertiesFrom") c)

-- A column of the wrong shape.
abbrev pub is_bad_column : List ℕ → Data → Bool
is_bad_column _ c =
    is_no_object c || has_bad_section c || if_there (no_object_or (any_member is_bad_group)) (get (codes "propertyGroups") c)
    || if_there is_no_flag (get (codes "comment") c) || has_bad_sources c

-- `columns` is absent or not an object, or a column has the wrong shape.
abbrev pub has_bad_columns : Data → Bool
has_bad_columns t = absent_or (no_object_or (any_member is_bad_column)) (get (codes "columns") t)

-- A template of the wrong shape. A value that is not an object has no columns.
abbrev pub is_bad_template : List ℕ → Data → Bool
is_bad_template _ t = has_bad_columns t || has_bad_section t || if_there is_no_text (get (codes "rowIdColumn") t)

-- Url is absent or not a plain path.
abbrev pub lacks_url : Data → Bool
lacks_url t = absent_or (λ url. not (is_plain_path url)) (text_at (codes "url") t)

-- A table of the wrong shape. A value that is not an object has no url.
abbrev pub is_bad_table : List ℕ → Data → Bool
is_bad_table _ t = lacks_url t || if_there is_no_text (get (codes "template") t) || if_there is_no_flag (get (codes "optional") t)

-- 7: dimensions, a template or a table of the wrong shape.
unfoldable pub has_bad_shape : Data → Bool
has_bad_shape d =
    has_bad_section d || if_there (no_object_or (any_member is_bad_template)) (get (codes "tableTemplates") d)
    || if_there (no_object_or (any_member is_bad_table)) (get (codes "tables") d)

abbrev pub is_groups : Data → Bool
is_groups c = is_some (get (codes "propertyGroups") c)

abbrev pub is_comment : Data → Bool
is_comment c = flag_at (codes "comment") c

-- A column of two or three kinds.
abbrev pub is_mixed_column : List ℕ → Data → Bool
is_mixed_column _ c = (is_fact c && is_groups c) || (is_fact c && is_comment c) || (is_groups c && is_comment c)

-- 8: a column of two or three of the kinds fact, property group and comment.
unfoldable pub has_mixed_column : Data → Bool
has_mixed_column = any_column is_mixed_column

-- The name of a table's template. It is the table's own name if the table gives none.
abbrev pub template_name : List ℕ → Data → List ℕ
template_name id t = unwrap_or (text_at (codes "template") t) id

abbrev pub lacks_template_of : Option Data → List ℕ → Data → Bool
lacks_template_of templates id t = is_none (option_and_then (get (template_name id t)) templates)

-- 9: a table that names a template that does not exist.
unfoldable pub has_unknown_template : Data → Bool
has_unknown_template d = any_member (lacks_template_of (get (codes "tableTemplates") d)) (section (codes "tables") d)
