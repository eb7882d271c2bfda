-- The answer of a report: the streams of its tables, read as histories. Sources: xBRL-CSV 1.0 (a
-- report is the facts of its tables), xBRL-JSON 1.0 (the document).
use Rattle.std.specs.Prelude.{ℕ, ◌+◌, List, [], ◌∷◌, Option, Some, None, map}
use Rattle.oim_json.specs.JsonText.{head_text}
use Rattle.oim_json.specs.Sinks.{SinkView}
use Rattle.oim_json.specs.declared.layout.Layout.{Layout}
use Rattle.oim_merge.specs.Histories.{document}
use Rattle.oim_merge.specs.Merging.{Merges}
use Rattle.oim_merge.specs.declared.progress.MergeEnd.{MergeEnd}
use Rattle.oim_report.specs.ReportValue.{ReportValue}
use Rattle.oim_ring.specs.declared.item.Ending as Endings
use Rattle.oim_ring.specs.declared.item.Ending.TheVariants.{Closed, Refused}
use Rattle.oim_ring.specs.declared.item.Item.{Item}
use Rattle.oim_ring.specs.declared.item.Item.TheVariants.{Block, Ending}
use Rattle.oim_rows.specs.Streams.{Stream, facts_of, table_stream}
use Rattle.oim_rows.specs.declared.fault.TableFault.{TableFault}

-- The streams of tables, of which the first is table i.
abbrev pub streams_from : ReportValue → ℕ → ℕ → List (Option (List ℕ)) → List Stream
streams_from report limit i [] = []
streams_from report limit i (f ∷ fs) = table_stream report i limit f ∷ streams_from report limit (i + 1) fs

-- The streams of a report's tables with these files.
abbrev pub streams : ReportValue → ℕ → List (Option (List ℕ)) → List Stream
streams report limit files = streams_from report limit 0 files

-- The ending of a table with this fault, or without a fault.
abbrev pub ending_of : Option TableFault → Endings.Ending
ending_of None = Closed
ending_of (Some e) = Refused e

-- A stream as a history: all its facts, followed by its ending.
abbrev pub history_of : Stream → List Item
history_of s = Block (facts_of s) ∷ Ending (ending_of s.fault) ∷ []

abbrev pub histories_of : List Stream → List (List Item)
histories_of ss = map history_of ss

-- The text of a report with these streams, in this layout: the whole document, or the unfinished
-- one up to and including the first refused table.
abbrev pub answer_text : Layout → ReportValue → List Stream → List ℕ
answer_text layout report ss = document layout (head_text report) (histories_of ss)

-- The answer of a report with these streams: the fault of each refused table, in table order;
-- Complete if no table is refused, else Refused; and the text. After a failed write, a prefix of
-- the text.
abbrev pub IsAnswer : Layout → ReportValue → List Stream → SinkView → SinkView → List TableFault → MergeEnd → Type 0
IsAnswer layout report ss old new faults end = Merges layout old new (head_text report) (histories_of ss) faults end
