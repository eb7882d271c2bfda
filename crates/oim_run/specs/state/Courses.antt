-- Conversions by the settings of a run, and on one thread.
use Rattle.std.specs.Prelude.{ℕ, List}
use Rattle.oim_convert.specs.Answer.{streams}
use Rattle.oim_files.specs.Folders.{Files}
use Rattle.oim_files.specs.Metadata.{profile}
use Rattle.oim_json.specs.Sinks.{SinkView}
use Rattle.oim_json.specs.declared.layout.Layout.{Layout}
use Rattle.oim_report.specs.ReportValue.{ReportValue}
use Rattle.oim_report.specs.declared.limits.Limits.{Limits}
use Rattle.oim_run.specs.Outcomes.{EndsAs}
use Rattle.oim_run.specs.Runs.{range_fault, table_files}
use Rattle.oim_run.specs.declared.conversion.Course.{Course}
use Rattle.oim_run.specs.declared.outcome.Outcome.{Outcome}

-- The course of a conversion on one thread.
abbrev pub alone : Limits → Layout → Course
alone limits layout = record { workers = 1; ring = 1; limits = limits; layout = layout }

-- The end of the conversion of a report whose tables have their files in a folder.
abbrev pub EndsIn : Files → (base : List ℕ) → ReportValue → (workers ring : ℕ) → Layout → SinkView → SinkView → Outcome → Type 0
EndsIn files base report workers ring layout old new o =
    EndsAs workers layout (range_fault workers ring) report (streams report profile.rows (table_files files base report)) old new o
