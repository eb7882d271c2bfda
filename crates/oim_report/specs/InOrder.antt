-- A report's parts are in byte order of name, so no two of a kind have the same name. Its tables,
-- templates and columns have identifiers. Source: xBRL-CSV 1.0, where tables, table templates,
-- columns, property groups and dimensions are members of JSON objects.
use Rattle.std.specs.Prelude.{◌≡◌, ℕ, List, map, true}
use Rattle.std.specs.List.{AllByRecursion}
use Rattle.std.specs.Map.{keys_of}
use Rattle.oim_names.specs.Names.{is_identifier}
use Rattle.oim_report.specs.Rising.{IsRising}
use Rattle.oim_report.specs.declared.data.Level.{Level}
use Rattle.oim_report.specs.declared.data.Column.{Column}
use Rattle.oim_report.specs.declared.data.Table.{Table}
use Rattle.oim_report.specs.declared.data.Template.{Template}

-- The dimensions of a level.
abbrev pub LevelRises : Level → Type 0
LevelRises level = IsRising (keys_of level.dimensions)

-- The groups of a column, and the dimensions of each and of the column.
abbrev pub ColumnRises : Column → Type 0
ColumnRises c = LevelRises c.level × IsRising (keys_of c.groups) × AllByRecursion (λ g. LevelRises g.1) c.groups

-- The columns of a template, and the parts of each.
abbrev pub TemplateRises : Template → Type 0
TemplateRises t = LevelRises t.level × IsRising (map (λ (c : Column). c.id) t.columns) × AllByRecursion ColumnRises t.columns

-- The tables and the templates of a report, the parts of each, and the dimensions of the report.
unfoldable pub PartsRise : Level → List Template → List Table → Type 0
PartsRise level templates tables =
    LevelRises level × IsRising (map (λ (t : Table). t.id) tables) × AllByRecursion (λ (t : Table). IsRising (keys_of t.parameters)) tables
    × IsRising (map (λ (t : Template). t.id) templates) × AllByRecursion TemplateRises templates

-- Names of tables, templates or columns that are identifiers.
abbrev pub AreIdentifiers : List (List ℕ) → Type 0
AreIdentifiers = AllByRecursion (λ name. is_identifier name ≡ true)

unfoldable pub HaveIdentifiers : List Template → List Table → Type 0
HaveIdentifiers templates tables =
    AreIdentifiers (map (λ (t : Table). t.id) tables)
    × AllByRecursion (λ (t : Template). (is_identifier t.id ≡ true) × AreIdentifiers (map (λ (c : Column). c.id) t.columns)) templates
