-- How a run over a folder ends.
use Rattle.std.specs.Prelude.{◌≡◌, ◌⊎◌, ℕ, if◌then◌else◌, List, [], ◌∷◌, ◌++◌, map, Option, Some, None, Ok}
use Rattle.std.specs.Str.{bytes_eq}
use Rattle.oim_convert.specs.Answer.{streams}
use Rattle.oim_convert.specs.Runs.{early_fault}
use Rattle.oim_convert.specs.declared.fault.ConvertFault.{ConvertFault}
use Rattle.oim_json.specs.Sinks.{SinkView, Unwritten}
use Rattle.oim_json.specs.declared.layout.Layout.{Layout}
use Rattle.oim_report.specs.ReportValue.{ReportValue}
use Rattle.oim_report.specs.declared.data.Table.{Table}
use Rattle.oim_files.specs.Metadata.{profile}
use Rattle.oim_files.specs.Folders.{Files, IsFolderOf}
use Rattle.oim_run.specs.Outcomes.{EndsAs}
use Rattle.oim_files.specs.Steps.{Passes, report_at, steps}
use Rattle.oim_run.specs.Early.{EndsAt}
use Rattle.oim_run.specs.declared.outcome.Outcome.{Outcome}

-- A folder in memory: each path with its bytes. If two entries have one path, the first
-- counts.
abbrev pub files_of : List (List ℕ × List ℕ) → Files
files_of [] path = None
files_of (f ∷ rest) path = if bytes_eq f.0 path then Some f.1 else files_of rest path

-- The file of a table, if the folder has one at the table's path.
abbrev pub table_file : Files → List ℕ → Table → Option (List ℕ)
table_file files base t = files (base ++ t.url)

-- The files of the report's tables.
abbrev pub table_files : Files → List ℕ → ReportValue → List (Option (List ℕ))
table_files files base report = map (table_file files base) report.tables

-- The fault of settings that are out of range, as a conversion finds it if each table has its
-- reader.
abbrev pub range_fault : (workers ring : ℕ) → Option ConvertFault
range_fault workers ring = early_fault workers ring 0 0

-- No step has a fault, and the run is the conversion of the report that the files give.
pub record Converted (files : Files) (base meta types : List ℕ) (workers ring : ℕ) (layout : Layout) (old new : SinkView) (o : Outcome) : Type 0 where
  pub report : ReportValue
  pub passed : Passes (steps files base meta types)
  pub given : report_at files base meta types ≡ Ok report
  pub ends : EndsAs workers layout (range_fault workers ring) report (streams report profile.rows (table_files files base report)) old new o

-- How a run over these files ends: at a step before the conversion, with nothing written; or as the
-- conversion ends. `base` is the folder of the metadata file.
pub record EndsOver (files : Files) (meta types : List ℕ) (workers ring : ℕ) (layout : Layout) (old new : SinkView) (o : Outcome) : Type 0 where
  pub base : List ℕ
  pub folder : IsFolderOf base meta
  pub ends : (EndsAt (steps files base meta types) o × Unwritten old new) ⊎ Converted files base meta types workers ring layout old new o
