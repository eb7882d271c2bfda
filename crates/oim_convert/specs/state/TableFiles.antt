-- The file of a table, as it is decoded.
use Rattle.std.specs.Prelude.{◌<◌, ◌≤◌, ℕ, List, Option, Some, IfSome, length}
use Rattle.oim_resolve.specs.FactParts.{FactParts as Fact}
use Rattle.oim_ring.specs.declared.item.Ending as Endings
use Rattle.oim_rows.specs.Streams.{table_stream}
use Rattle.oim_convert.specs.Histories.{IsGiven}
use Rattle.oim_convert.specs.declared.table_file.TableFile.{TableFile}

-- The table is one of its report, and the limit of its rows fits the counter.
abbrev pub IsTableFile : {R : Type 0} → TableFile R → Type 0
IsTableFile file = (file.table < length file.report.now.tables) × (file.limits.rows ≤ 4294967294)

-- The facts and the ending from decoding the file, if contracts see its reader's bytes.
abbrev pub IsSentOfFile : {R : Type 0} → (R → Option (List ℕ)) → TableFile R → List Fact → Endings.Ending → Type 0
IsSentOfFile told file facts ending =
    IfSome (told file.reader) (λ bytes. IsGiven file.table (table_stream file.report.now file.table file.limits.rows (Some bytes)) facts ending)
