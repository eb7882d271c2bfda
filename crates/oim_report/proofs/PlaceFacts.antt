-- The places that a report's parts name are in range.
use Rattle.std.specs.Prelude.{◌<◌, ℕ, List, IfSome, length, slice_index_or}
use Rattle.std.specs.List.{All}
use Rattle.std.specs.Map.{keys_of}
use Rattle.oim_report.specs.Rising.{IsRising}
use Rattle.oim_report.specs.Places.{HasColumns, IsReport}
use Rattle.oim_report.specs.Readers.{no_table}
use Rattle.oim_report.specs.InOrder.{PartsRise, HaveIdentifiers}
use Rattle.oim_report.specs.declared.data.Column.{Column}
use Rattle.oim_report.specs.declared.data.Level.{Level}
use Rattle.oim_report.specs.declared.data.Table.{Table}
use Rattle.oim_report.specs.declared.data.Template.{Template}

pub template_is_there : (level : Level) (templates : List Template) (tables : List Table) (own : List (List ℕ × List ℕ)) → IsReport level templates tables own → (i : ℕ) → i < length tables
    → (slice_index_or tables i no_table).template < length templates
unfolding IsReport
template_is_there level templates tables own h i p = h.0 i no_table p

pub template_has_columns : (level : Level) (templates : List Template) (tables : List Table) (own : List (List ℕ × List ℕ)) → IsReport level templates tables own → (k : ℕ) (d : Template)
    → k < length templates → HasColumns (slice_index_or templates k d)
unfolding IsReport
template_has_columns level templates tables own h k d p = h.1 k d p

pub from_is_there : (t : Template) → HasColumns t → (c : ℕ) (d : Column) → c < length t.columns → All (λ k. k < length t.columns) (slice_index_or t.columns c d).from
unfolding HasColumns
from_is_there t h c d p = h.0 c d p

pub row_id_is_there : (t : Template) → HasColumns t → IfSome t.row_id_column (λ c. c < length t.columns)
unfolding HasColumns
row_id_is_there t h = h.1

-- The parts of a report are in order.
pub parts_rise : (level : Level) (templates : List Template) (tables : List Table) (own : List (List ℕ × List ℕ)) → IsReport level templates tables own → PartsRise level templates tables
unfolding IsReport
parts_rise level templates tables own h = h.2

pub have_identifiers : (level : Level) (templates : List Template) (tables : List Table) (own : List (List ℕ × List ℕ)) → IsReport level templates tables own → HaveIdentifiers templates tables
unfolding IsReport
have_identifiers level templates tables own h = h.3

-- The metadata's own parameters are in order.
pub own_parameters_rise : (level : Level) (templates : List Template) (tables : List Table) (own : List (List ℕ × List ℕ)) → IsReport level templates tables own → IsRising (keys_of own)
unfolding IsReport
own_parameters_rise level templates tables own h = h.4
