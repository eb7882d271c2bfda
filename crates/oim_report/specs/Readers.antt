-- The values that the readers of a report return. Places that are out of range have empty parts.
use Rattle.std.specs.Prelude.{ℕ, List, [], Bool, true, false, Option, None, slice_index_or}
use Rattle.std.specs.List.{position}
use Rattle.std.specs.Option.{option_or}
use Rattle.std.specs.Str.{bytes_eq}
use Rattle.oim_names.specs.Lookup.{value_at}
use Rattle.oim_report.specs.Types.{kind_in}
use Rattle.oim_report.specs.ReportValue.{ReportValue}
use Rattle.oim_report.specs.declared.data.Level.{Level}
use Rattle.oim_report.specs.declared.data.Column.{Column}
use Rattle.oim_report.specs.declared.data.ColumnKind.{ColumnKind}
use Rattle.oim_report.specs.declared.data.ColumnKind.TheVariants.{Fact, Groups, Comment, Plain}
use Rattle.oim_report.specs.declared.data.Table.{Table}
use Rattle.oim_report.specs.declared.data.Template.{Template}
use Rattle.oim_report.specs.declared.kind.Kind.{Kind}

-- A level without properties, and the other parts at a place that is out of range.
abbrev pub no_level : Level
no_level = record { dimensions = []; decimals = None }

abbrev pub no_column : Column
no_column = record { id = []; kind = Plain; level = no_level; groups = []; from = [] }

abbrev pub no_template : Template
no_template = record { id = []; columns = []; row_id_column = None; level = no_level }

abbrev pub no_table : Table
no_table = record { id = []; url = []; is_optional = false; template = 0; parameters = [] }

abbrev pub table_of : ReportValue → ℕ → Table
table_of r i = slice_index_or r.tables i no_table

abbrev pub template_of : ReportValue → ℕ → Template
template_of r i = slice_index_or r.templates (table_of r i).template no_template

abbrev pub columns_of : ReportValue → ℕ → List Column
columns_of r i = (template_of r i).columns

abbrev pub column_of : ReportValue → ℕ → ℕ → Column
column_of r i c = slice_index_or (columns_of r i) c no_column

-- The place of the first column with this identifier.
abbrev pub place_of_name : List Column → List ℕ → Option ℕ
place_of_name columns n = position (λ k. bytes_eq k.id n) columns

-- The same among the columns of a table's template.
abbrev pub column_named : ReportValue → ℕ → List ℕ → Option ℕ
column_named r i n = place_of_name (columns_of r i) n

-- The table's parameter, else the report's.
abbrev pub parameter_of : ReportValue → ℕ → List ℕ → Option (List ℕ)
parameter_of r i n = option_or (value_at n (table_of r i).parameters) (value_at n r.parameters)

-- The kind of the concept or dimension of a URI and a local part.
abbrev pub kind_of : ReportValue → List ℕ → List ℕ → Option Kind
kind_of r uri local = kind_in r.types uri local

-- The cells of a column of this kind are facts.
abbrev pub holds_facts : ColumnKind → Bool
holds_facts Fact = true
holds_facts Groups = false
holds_facts Comment = false
holds_facts Plain = false
