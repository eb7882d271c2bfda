-- Parts that are in byte order of name: the columns of a template, the groups of a column, the
-- dimensions of its levels and the parameters of a table.
use Rattle.std.proofs.Common.{ℕ, zero, suc, List, [], ◌∷◌}
use Rattle.std.specs.Prelude.{map, slice_index_or}
use Rattle.std.specs.List.{AllByRecursion}
use Rattle.std.specs.List.Sorted.{IsStrictlySortedBy}
use Rattle.std.specs.Map.{keys_of}
use Rattle.oim_report.specs.InOrder.{PartsRise, TemplateRises, ColumnRises}
use Rattle.oim_report.specs.Rising.{IsRising}
use Rattle.oim_report.specs.Readers.{column_of, columns_of, table_of, template_of, no_column, no_table, no_template}
use Rattle.oim_report.specs.ReportValue.{ReportValue}
use Rattle.oim_report.specs.declared.data.Column.{Column}
use Rattle.oim_report.specs.declared.data.Table.{Table}

-- A property of all items holds at each place, if it holds for the default of a place out of range.
each_at : {X : Type 0} (P : X → Type 0) (xs : List X) (d : X) → AllByRecursion P xs → P d → (k : ℕ) → P (slice_index_or xs k d)
each_at P [] d all other k = other
each_at P (x ∷ xs) d all other zero = all.0
each_at P (x ∷ xs) d all other (suc k) = each_at P xs d all.1 other k

-- The default template and the default column have no names that could be out of order.
nothing_rises : TemplateRises no_template
unfolding IsStrictlySortedBy
nothing_rises = (tt, tt, tt)

none_rise : ColumnRises no_column
unfolding IsStrictlySortedBy
none_rise = (tt, tt, tt)

no_parameter_rises : IsRising (keys_of no_table.parameters)
unfolding IsStrictlySortedBy
no_parameter_rises = tt

template_rises : (report : ReportValue) → PartsRise report.level report.templates report.tables → (i : ℕ) → TemplateRises (template_of report i)
unfolding PartsRise
template_rises report h i = each_at TemplateRises report.templates no_template h.4 nothing_rises (table_of report i).template

pub columns_rise : (report : ReportValue) → PartsRise report.level report.templates report.tables → (i : ℕ) → IsRising (map (λ (c : Column). c.id) (columns_of report i))
columns_rise report h i = (template_rises report h i).1

pub column_rises : (report : ReportValue) → PartsRise report.level report.templates report.tables → (i c : ℕ) → ColumnRises (column_of report i c)
column_rises report h i c = each_at ColumnRises (columns_of report i) no_column (template_rises report h i).2 none_rise c

pub groups_rise : (report : ReportValue) → PartsRise report.level report.templates report.tables → (i c : ℕ) → IsRising (keys_of (column_of report i c).groups)
groups_rise report h i c = (column_rises report h i c).1

pub parameters_rise : (report : ReportValue) → PartsRise report.level report.templates report.tables → (i : ℕ) → IsRising (keys_of (table_of report i).parameters)
unfolding PartsRise
parameters_rise report h i = each_at (λ (t : Table). IsRising (keys_of t.parameters)) report.tables no_table h.2 no_parameter_rises i
