-- The report of a run, read again.
use Rattle.std.specs.Prelude.{◌≡◌, ℕ, List, Ok}
use Rattle.oim_files.specs.Folders.{Files, IsFolderOf}
use Rattle.oim_files.specs.Steps.{report_at}
use Rattle.oim_report.specs.ReportValue.{ReportValue}

-- The report that the files give whose metadata and types table are at these paths.
abbrev pub IsReportOf : Files → (meta types : List ℕ) → ReportValue → Type 0
IsReportOf files meta types r = (base : List ℕ) × IsFolderOf base meta × (report_at files base meta types ≡ Ok r)
