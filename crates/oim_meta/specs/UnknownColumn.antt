-- References to columns that a template does not define, or not as property group columns (xBRL-CSV
-- 1.0: rowIdColumn and propertiesFrom). A value that is not an object has no members, and one that
-- is not a list has no items.
use Rattle.std.specs.Prelude.{ℕ, List, Bool, true, false, not, ◌||◌, ◌&&◌, Option, option_and_then, is_none, codes}
use Rattle.serde_json.specs.Data.{Data}
use Rattle.serde_json.specs.Find.{get, as_str}
use Rattle.oim_report.specs.Readers.{holds_facts}
use Rattle.oim_report.specs.declared.data.ColumnKind.{ColumnKind}
use Rattle.oim_report.specs.declared.data.ColumnKind.TheVariants.{Fact, Groups, Comment, Plain}
use Rattle.oim_meta.specs.Members.{text_at, section, items_at, any_member, any_item, if_there}
use Rattle.oim_meta.specs.Value.{kind_of}

abbrev pub is_groups : ColumnKind → Bool
is_groups Fact = false
is_groups Groups = true
is_groups Comment = false
is_groups Plain = false

-- The column of a template with this name.
abbrev pub column_at : Data → List ℕ → Option Data
column_at t name = option_and_then (get name) (get (codes "columns") t)

abbrev pub lacks_column : Data → List ℕ → Bool
lacks_column t name = is_none (column_at t name)

-- No property group column has the name.
abbrev pub lacks_groups : Data → List ℕ → Bool
lacks_groups t name = not (if_there (λ c. is_groups (kind_of c)) (column_at t name))

-- RowIdColumn does not name a column.
abbrev pub has_unknown_row_id : Data → Bool
has_unknown_row_id t = if_there (lacks_column t) (text_at (codes "rowIdColumn") t)

-- A text that does not name a property group column.
abbrev pub is_unknown_source : Data → Data → Bool
is_unknown_source t d = if_there (lacks_groups t) (as_str d)

-- `propertiesFrom` of a fact column has a text that does not name a property group column.
abbrev pub has_unknown_source : Data → Data → Bool
has_unknown_source t c = holds_facts (kind_of c) && any_item (is_unknown_source t) (items_at (codes "propertiesFrom") c)

abbrev pub lacks_named_column : Data → Bool
lacks_named_column t = has_unknown_row_id t || any_member (λ _ c. has_unknown_source t c) (section (codes "columns") t)

-- 10: a rowIdColumn that does not name a column of its template, or a propertiesFrom that does not
-- name a property group column there.
unfoldable pub has_unknown_column : Data → Bool
has_unknown_column d = any_member (λ _ t. lacks_named_column t) (section (codes "tableTemplates") d)
