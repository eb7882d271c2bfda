use Rattle.std.proofs.Common.{◌≡◌, map}
use Rattle.std.specs.List.{range_with_len}
use Rattle.oim_rows.specs.RowFacts.{source_of_column}
use Rattle.oim_rows.proofs.row_plan.sources_of.Given as goal

abbrev pub invariant-loop-column : goal.invariant-loop-column
invariant-loop-column l = l.sources.items ≡ map (source_of_column l.header.columns) (range_with_len 0 l.column)
