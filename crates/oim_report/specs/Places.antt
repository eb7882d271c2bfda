-- Properties of any report: the places in its parts, their order and their identifiers.
use Rattle.std.specs.Prelude.{◌<◌, ℕ, List, IfSome, length}
use Rattle.std.specs.List.{All}
use Rattle.std.specs.Map.{keys_of}
use Rattle.oim_report.specs.InOrder.{PartsRise, HaveIdentifiers}
use Rattle.oim_report.specs.Rising.{IsRising}
use Rattle.oim_report.specs.declared.data.Level.{Level}
use Rattle.oim_report.specs.declared.data.Table.{Table}
use Rattle.oim_report.specs.declared.data.Template.{Template}

-- The columns that a template's columns take groups from exist, and so does its column of row
-- identifiers.
unfoldable pub HasColumns : Template → Type 0
HasColumns t = All (λ c. All (λ i. i < length t.columns) c.from) t.columns × IfSome t.row_id_column (λ i. i < length t.columns)

-- Each table's template exists, and each column that a template names. The parts are in order and
-- have identifiers, and the metadata's own parameters are in order.
unfoldable pub IsReport : Level → List Template → List Table → List (List ℕ × List ℕ) → Type 0
IsReport level templates tables parameters =
    All (λ (t : Table). t.template < length templates) tables × All HasColumns templates
    × PartsRise level templates tables × HaveIdentifiers templates tables × IsRising (keys_of parameters)
