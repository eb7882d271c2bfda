-- The levels of a metadata that may write dimensions and decimals: report, table template, column
-- and property group (xBRL-CSV 1.0).
use Rattle.std.specs.Prelude.{ℕ, List, Bool, ◌||◌, codes}
use Rattle.serde_json.specs.Data.{Data}
use Rattle.oim_meta.specs.Members.{any_member, section}

-- Some group of a column passes the test p, or the column itself the test q.
abbrev pub is_column_level : (Data → Bool) → (Data → Bool) → List ℕ → Data → Bool
is_column_level p q _ c = q c || any_member (λ _ g. p g) (section (codes "propertyGroups") c)

-- A template, one of its columns or one of their groups passes its test.
abbrev pub is_template_level : (Data → Bool) → (Data → Bool) → List ℕ → Data → Bool
is_template_level p q _ t = p t || any_member (is_column_level p q) (section (codes "columns") t)

-- The report, some template or some group passes the test p, or some column the test q.
abbrev pub any_level : (Data → Bool) → (Data → Bool) → Data → Bool
any_level p q d = p d || any_member (is_template_level p q) (section (codes "tableTemplates") d)
