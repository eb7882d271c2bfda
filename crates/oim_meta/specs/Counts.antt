-- More tables, or more columns in a template, than the limits.
use Rattle.std.specs.Prelude.{ℕ, suc, List, Bool, ◌||◌, nat_lt, codes}
use Rattle.serde_json.specs.Data.{Data, Members, no_members, member}
use Rattle.oim_report.specs.declared.limits.Limits.{Limits}
use Rattle.oim_meta.specs.Members.{section, any_member}

-- The count of members.
abbrev pub count_of : Members → ℕ
count_of no_members = 0
count_of (member k d ms) = suc (count_of ms)

-- A template with too many columns.
abbrev pub has_too_many_columns : ℕ → List ℕ → Data → Bool
has_too_many_columns most _ t = nat_lt most (count_of (section (codes "columns") t))

-- 15, counts: too many tables, or too many columns in a template.
unfoldable pub has_too_many : Limits → Data → Bool
has_too_many limits d =
    nat_lt limits.tables (count_of (section (codes "tables") d)) || any_member (has_too_many_columns limits.columns) (section (codes "tableTemplates") d)
