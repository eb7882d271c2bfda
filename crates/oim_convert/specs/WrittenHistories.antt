-- The end of writing a report's tables, by their histories. Sources: xBRL-CSV 1.0 (a report is the
-- facts of its tables), xBRL-JSON 1.0 (the document).
use Rattle.std.specs.Prelude.{List}
use mathlib.Core.List.{IsPrefix}
use Rattle.oim_json.specs.JsonText.{head_text}
use Rattle.oim_json.specs.Sinks.{SinkView}
use Rattle.oim_json.specs.declared.layout.Layout.{Layout}
use Rattle.oim_merge.specs.Merging.{Merges}
use Rattle.oim_merge.specs.declared.progress.MergeEnd.{MergeEnd}
use Rattle.oim_merge.specs.declared.progress.MergeEnd.TheVariants as end
use Rattle.oim_report.specs.ReportValue.{ReportValue}
use Rattle.oim_ring.specs.declared.item.Item.{Item}
use Rattle.oim_rows.specs.declared.fault.TableFault.{TableFault}

-- There are histories of this kind, and the faults, the end and the text written are those of them.
pub record WritesHistories (Are : List (List Item) → Type 0) (layout : Layout) (report : ReportValue) (old new : SinkView)
    (faults : List TableFault) (end : MergeEnd) : Type 0 where
  pub histories : List (List Item)
  pub are : Are histories
  pub merged : Merges layout old new (head_text report) histories faults end

-- The same, if nothing more is read after a failed write: then the faults are those of the tables
-- before it.
abbrev pub WritesUntil : (List (List Item) → Type 0) → Layout → ReportValue → SinkView → SinkView → List TableFault → MergeEnd → Type 0
WritesUntil Are layout report old new faults (end.Write w) = (all : List TableFault) × IsPrefix faults all × WritesHistories Are layout report old new all (end.Write w)
WritesUntil Are layout report old new faults e = WritesHistories Are layout report old new faults e
