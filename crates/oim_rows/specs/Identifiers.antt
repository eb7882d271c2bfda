-- The identifiers of a report's facts: those of table, row and column, joined by dots. No two facts
-- of a report share one. (xBRL-CSV 1.0, the identifier of a fact)
use Rattle.std.specs.Prelude.{◌<◌, ◌≤◌, ◌+◌, ◌^◌, ℕ, List, [], ◌∷◌, ◌++◌, Option, map, length}
use Rattle.std.specs.List.{IsDistinct}
use Rattle.std.specs.Str.{bytes_eq}
use Rattle.oim_report.specs.ReportValue.{ReportValue}
use Rattle.oim_resolve.specs.FactParts.{FactParts as Fact}
use Rattle.oim_rows.specs.Streams.{facts_of, table_stream}

-- All facts of the tables from index `i` on, each with its file.
abbrev pub facts_of_tables : ReportValue → ℕ → ℕ → List (Option (List ℕ)) → List Fact
facts_of_tables report limit i [] = []
facts_of_tables report limit i (file ∷ files) = facts_of (table_stream report i limit file) ++ facts_of_tables report limit (i + 1) files

-- No two facts share an identifier.
abbrev pub HaveOwnIds : List Fact → Type 0
HaveOwnIds facts = IsDistinct bytes_eq (map (λ (f : Fact). f.id) facts)

-- Whatever files its tables have, and whatever the limit of rows is, of 32 bits, no two facts of
-- the report share an identifier.
abbrev pub FactIdsDiffer : ReportValue → Type 0
FactIdsDiffer report =
    (limit : ℕ) (files : List (Option (List ℕ))) → limit < 2 ^ 32 → length files ≤ length report.tables → HaveOwnIds (facts_of_tables report limit 0 files)
