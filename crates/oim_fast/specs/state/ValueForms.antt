-- How the cells of a concept's facts are read.
use Rattle.std.specs.Prelude.{Bool, true, false}
use Rattle.oim_cells.specs.declared.cells.NumberKind.TheVariants.{Decimal}
use Rattle.oim_report.specs.declared.kind.Kind.{Kind}
use Rattle.oim_report.specs.declared.kind.Kind.TheVariants as kind
use Rattle.oim_report.specs.declared.kind.SimpleType.{SimpleType}
use Rattle.oim_report.specs.declared.kind.SimpleType.TheVariants as simple
use Rattle.oim_report.specs.declared.kind.ValueType.{ValueType}
use Rattle.oim_report.specs.declared.kind.ValueType.TheVariants as item
use Rattle.oim_fast.specs.declared.frame.value_form.ValueForm.{ValueForm}
use Rattle.oim_fast.specs.declared.frame.value_form.ValueForm.TheVariants as form

abbrev pub simple_form : SimpleType → ValueForm
simple_form (simple.Number n) = form.Number n
simple_form (simple.Bounded b) = form.Bounded
simple_form _ = form.Formed

abbrev pub typed_form : ValueType → ValueForm
typed_form (item.Simple s) = simple_form s
typed_form item.Monetary = form.Number Decimal
typed_form item.Shares = form.Number Decimal
typed_form item.Text = form.Text
typed_form item.Enumeration = form.Formed
typed_form item.Enumerations = form.Formed
typed_form item.Other = form.Text

abbrev pub form_of : Kind → ValueForm
form_of (kind.Number n) = form.Number n
form_of kind.Text = form.Text
form_of kind.Other = form.Text
form_of (kind.Concept a) = typed_form a.value
form_of _ = form.Formed

abbrev pub is_number_form : ValueForm → Bool
is_number_form (form.Number n) = true
is_number_form form.Bounded = true
is_number_form form.Text = false
is_number_form form.Formed = false
