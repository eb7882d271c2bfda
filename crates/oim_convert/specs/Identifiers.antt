-- The identifiers of the facts that a conversion writes. Source: xBRL-CSV 1.0, the identifier of a
-- fact.
use Rattle.std.specs.Prelude.{◌<◌, ◌≤◌, ◌^◌, ℕ, List, Option, length}
use Rattle.oim_merge.specs.Histories.{all_of, facts_before}
use Rattle.oim_report.specs.ReportValue.{ReportValue}
use Rattle.oim_ring.specs.declared.item.Item.{Item}
use Rattle.oim_rows.specs.Identifiers.{HaveOwnIds}
use Rattle.oim_convert.specs.Answer.{histories_of, streams}
use Rattle.oim_convert.specs.Runs.{AreHistories}

-- No two facts of the document of these histories have one identifier.
abbrev pub WriteOwnIds : List (List Item) → Type 0
WriteOwnIds hs = HaveOwnIds (facts_before (all_of hs))

-- No two facts of the defined answer have one identifier, whatever the tables' files and the limit
-- of rows are.
abbrev pub AnswerIdsDiffer : ReportValue → Type 0
AnswerIdsDiffer report =
    (limit : ℕ) (files : List (Option (List ℕ))) → limit < 2 ^ 32 → length files ≤ length report.tables → WriteOwnIds (histories_of (streams report limit files))

-- No two facts that a run's histories write have one identifier, also if a failed read or running
-- out of memory or threads has cut them short.
abbrev pub RunIdsDiffer : ReportValue → Type 0
RunIdsDiffer report =
    (limit : ℕ) (files : List (Option (List ℕ))) (hs : List (List Item)) → limit < 2 ^ 32 → length files ≤ length report.tables
    → AreHistories (streams report limit files) hs → WriteOwnIds hs
