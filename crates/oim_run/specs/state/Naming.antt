-- The identifiers of a report's tables, and the names of refused tables, taken out of a list of
-- names one after another.
use Rattle.std.specs.Prelude.{ℕ, List, [], ◌∷◌, Result, Ok, Err, slice_set, map, slice_index_or}
use Rattle.oim_convert.specs.declared.fault.ConvertFault.{ConvertFault}
use Rattle.oim_convert.specs.declared.run.Run.{Run}
use Rattle.oim_merge.specs.declared.progress.MergeEnd.{MergeEnd}
use Rattle.oim_merge.specs.declared.progress.MergeEnd.TheVariants as end
use Rattle.oim_rows.specs.declared.fault.TableFault.{TableFault}
use Rattle.oim_run.specs.declared.outcome.Outcome.{Outcome}
use Rattle.oim_run.specs.declared.outcome.Outcome.TheVariants as outcome
use Rattle.oim_report.specs.ReportValue.{ReportValue}

-- The identifiers of a report's tables, and the one at a place.
abbrev pub table_ids : ReportValue → List (List ℕ)
table_ids report = map (λ t. t.id) report.tables

abbrev pub name_in : List (List ℕ) → ℕ → List ℕ
name_in names i = slice_index_or names i []

-- Each fault with the name at its table's place, which is taken out of the names.
abbrev pub with_names : List (List ℕ) → List TableFault → List (List ℕ × TableFault)
with_names names [] = []
with_names names (e ∷ faults) = (name_in names e.table, e) ∷ with_names (slice_set names e.table []) faults

-- The outcome of a conversion with this answer, for tables with these names.
abbrev pub outcome_at : List (List ℕ) → List TableFault → MergeEnd → Outcome
outcome_at names faults end.Complete = outcome.Done
outcome_at names faults end.Refused = outcome.Tables (with_names names faults)
outcome_at names faults (end.Write w) = outcome.Output w

abbrev pub outcome_by : List (List ℕ) → Result Run ConvertFault → Outcome
outcome_by names (Ok run) = outcome_at names run.faults.items run.end
outcome_by names (Err f) = outcome.Run f
