-- The input and the state of a walk over a metadata, in the form of its definitions.
use Rattle.std.specs.Prelude.{ℕ, List, Option, String, option_map}
use Rattle.std.specs.declared.alloc.Global.{Global}
use Rattle.serde_json.specs.Data.{Data, Members}
use Rattle.serde_json.specs.View.{view, members_view}
use Rattle.serde_json.specs.declared.value.Value.{Value}
use Rattle.oim_meta.specs.declared.build.names.Names.{Names}
use Rattle.oim_meta.specs.declared.findings.Finding.{Finding}
use Rattle.oim_meta.specs.declared.walk.Walk.{Walk}
use Rattle.oim_meta.specs.declared.walk.sources.Columns.{Columns}
use Rattle.oim_meta.specs.declared.walk.tables.Templates.{Templates}
use Rattle.oim_meta.specs.Known.{Known}
use Rattle.oim_meta.specs.Walk.{in_column, in_members}

-- The input of a walk.
abbrev pub known_to : Walk → Known
known_to w = record { limits = w.limits; given = w.given.now; types = w.types.now; names = w.names.now }

-- The findings in each of the entries of an object.
abbrev pub in_each : (List ℕ → Data → List Finding) → List (String Global × Value) → List Finding
in_each find entries = in_members find (members_view entries)

-- The members whose names are held.
abbrev pub members_of : Names → Members
members_of names = members_view names.members.now.entries

-- The findings in a column, among the columns of a template.
abbrev pub in_column_of : Walk → Columns → List ℕ → List ℕ → Data → List Finding
in_column_of w columns template = in_column (known_to w) template (view columns.value.now)

-- The value that has the templates, if there is one.
abbrev pub value_of : Templates → Option Data
value_of templates = option_map (λ v. view v.now) templates.value
