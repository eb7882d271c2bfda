use Rattle.std.proofs.Common.{◌≡◌, length, map, take, IfSome}
use Rattle.oim_convert.specs.Files.{AreFilesOf}
use Rattle.oim_run.specs.Runs.{table_file}
use Rattle.oim_run.proofs.running.find_tables.Given as goal

abbrev pub invariant-loop-table : goal.invariant-loop-table
invariant-loop-table g l =
    (g.F.Folder.files l.folder ≡ g.F.Folder.files l.fn.folder)
    × IfSome (g.F.Folder.files l.fn.folder) (λ files. AreFilesOf g.R.Read.remaining l.readers.items (map (table_file files l.base) (take l.table l.report.tables)))
    × (length l.readers.items ≡ l.table)
