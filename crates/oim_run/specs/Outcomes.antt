-- The meaning of a conversion's outcome, for every number of workers and every ring size. Sources:
-- xBRL-CSV 1.0 (a report is the facts of its tables), xBRL-JSON 1.0 (the document).
use Rattle.std.specs.Prelude.{⊤, ◌≡◌, ◌⊎◌, ◌<◌, ◌+◌, ◌++◌, map, length, ℕ, List, [], ◌∷◌, Option, Some, None}
use mathlib.Core.List.{IsPrefix}
use Rattle.std.specs.Io.KnownBytes.{Appends}
use Rattle.oim_convert.specs.Answer.{IsAnswer, answer_text, streams}
use Rattle.oim_convert.specs.Files.{AreFilesOf}
use Rattle.oim_convert.specs.Histories.{AreDecoded, AreUnserved}
use Rattle.oim_convert.specs.Runs.{IsFromOutside, IsLost, early_fault}
use Rattle.oim_convert.specs.WrittenHistories.{WritesHistories}
use Rattle.oim_convert.specs.declared.fault.ConvertFault.{ConvertFault}
use Rattle.oim_convert.specs.declared.fault.ConvertFault.TheVariants as fault
use Rattle.oim_json.specs.Document.{text_after}
use Rattle.oim_json.specs.JsonText.{head_text}
use Rattle.oim_json.specs.Sinks.{SinkView, Unwritten, Wrote, mark_of}
use Rattle.oim_json.specs.declared.layout.Layout.{Layout}
use Rattle.oim_merge.specs.declared.progress.MergeEnd.{MergeEnd}
use Rattle.oim_merge.specs.declared.progress.MergeEnd.TheVariants as end
use Rattle.oim_report.specs.Readers.{table_of}
use Rattle.oim_report.specs.ReportValue.{ReportValue}
use Rattle.oim_resolve.specs.FactParts.{FactParts as Fact}
use Rattle.oim_ring.specs.declared.item.Item.{Item}
use Rattle.oim_rows.specs.Streams.{Stream, facts_of}
use Rattle.oim_rows.specs.declared.fault.TableFault.{TableFault}
use Rattle.oim_run.specs.declared.conversion.Course.{Course}
use Rattle.oim_run.specs.declared.outcome.Outcome.{Outcome}
use Rattle.oim_run.specs.declared.outcome.Outcome.TheVariants as outcome

-- Faults, each with the name of its table.
abbrev pub named_by : (ℕ → List ℕ) → List TableFault → List (List ℕ × TableFault)
named_by name faults = map (λ e. (name e.table, e)) faults

-- The faults, each with the identifier of its table.
abbrev pub refused_tables : ReportValue → List TableFault → List (List ℕ × TableFault)
refused_tables report faults = named_by (λ i. (table_of report i).id) faults

-- No table ended because memory or threads ran out, or because a read failed.
abbrev pub AreDefined : List TableFault → Type 0
AreDefined [] = ⊤
AreDefined (e ∷ faults) = (¬ IsFromOutside e.kind) × AreDefined faults

-- The text written is a prefix of the text that the streams define, or all of it.
pub record Begins (layout : Layout) (report : ReportValue) (ss : List Stream) (old new : SinkView) : Type 0 where
  pub text : List ℕ
  pub first : IsPrefix text (answer_text layout report ss)
  pub written : Appends old.told new.told text

-- Each table was decoded; or, with more than one worker, no thread could be made and none was.
abbrev pub AreHistoriesWith : (workers : ℕ) → List Stream → List (List Item) → Type 0
AreHistoriesWith workers ss hs = AreDecoded 0 ss hs ⊎ ((1 < workers) × AreUnserved 0 ss hs)

-- There are histories of these streams. The faults are those of the histories, in table order, and
-- their document is written in this layout. If each fault is a table's own, that is the answer that
-- the streams define. Whatever the faults, it is a prefix of that answer's text.
pub record WritesStreams (workers : ℕ) (layout : Layout) (report : ReportValue) (ss : List Stream) (old new : SinkView) (faults : List TableFault) (e : MergeEnd) : Type 0 where
  pub written : WritesHistories (AreHistoriesWith workers ss) layout report old new faults e
  pub answer : AreDefined faults → IsAnswer layout report ss old new faults e
  pub begun : Begins layout report ss old new

-- All facts of these tables, in order.
abbrev pub facts_of_streams : List Stream → List Fact
facts_of_streams [] = []
facts_of_streams (s ∷ ss) = facts_of s ++ facts_of_streams ss

-- None of these tables has a fault.
abbrev pub AreSound : List Stream → Type 0
AreSound [] = ⊤
AreSound (s ∷ ss) = (s.fault ≡ None) × AreSound ss

-- The facts of tables, of which the first is table i, up to the refused one that has this fault:
-- all facts of those before it, which have no fault, and a prefix of its own.
pub record StopsAt (i : ℕ) (ss : List Stream) (f : TableFault) (written : List Fact) : Type 0 where
  pub before : List Stream
  pub here : Stream
  pub later : List Stream
  pub tables : ss ≡ before ++ here ∷ later
  pub place : f.table ≡ i + length before
  pub sound : AreSound before
  pub first : List Fact
  pub some : IsPrefix first (facts_of here)
  pub facts : written ≡ facts_of_streams before ++ first

-- The unfinished document of these facts is written, if the tables have these faults.
abbrev pub StopsInTable : Layout → ReportValue → List Stream → SinkView → SinkView → List TableFault → Type 0
StopsInTable layout report ss old new [] = ⊥
StopsInTable layout report ss old new (f ∷ faults) = (facts : List Fact) × StopsAt 0 ss f facts × Wrote old new (text_after layout (head_text report) facts)

-- The refused tables, and the unfinished document up to and including the first of them. Whatever
-- that table's fault, the document has all facts of the tables before it and a prefix of its own.
pub record Refuses (workers : ℕ) (layout : Layout) (report : ReportValue) (ss : List Stream) (old new : SinkView) (named : List (List ℕ × TableFault)) : Type 0 where
  pub faults : List TableFault
  pub names : named ≡ refused_tables report faults
  pub given : WritesStreams workers layout report ss old new faults end.Refused
  pub stops : StopsInTable layout report ss old new faults

-- A conversion that broke off: memory ran out, and nothing is written; or, with more than one
-- worker, a ring's token was lost.
abbrev pub Breaks : (workers : ℕ) → Layout → ReportValue → SinkView → SinkView → ConvertFault → Type 0
Breaks workers layout report old new fault.Memory = Unwritten old new
Breaks workers layout report old new fault.Lost = (1 < workers) × IsLost layout report (length report.tables) old new
Breaks workers layout report old new f = ⊥

-- The end of the conversion of a report with these streams, by `workers` workers, to a document in
-- this layout. With a fault that is found before anything is prepared, the outcome is that fault or
-- Memory, and nothing is written. Otherwise Done: no table is refused and the whole document is
-- written. Tables: every refused table with its identifier. Output: a write failed, and a prefix of
-- the document is written.
abbrev pub EndsAs : (workers : ℕ) → Layout → Option ConvertFault → ReportValue → List Stream → SinkView → SinkView → Outcome → Type 0
EndsAs workers layout (Some f) report ss old new o = ((o ≡ outcome.Run f) ⊎ (o ≡ outcome.Run fault.Memory)) × Unwritten old new
EndsAs workers layout None report ss old new outcome.Done = WritesStreams workers layout report ss old new [] end.Complete
EndsAs workers layout None report ss old new (outcome.Tables named) = Refuses workers layout report ss old new named
EndsAs workers layout None report ss old new (outcome.Output w) = (faults : List TableFault) × WritesStreams workers layout report ss old new faults (end.Write w)
EndsAs workers layout None report ss old new (outcome.Run f) = Breaks workers layout report old new f
EndsAs workers layout None report ss old new o = ⊥

-- The same end by a course, for a report whose tables have the files of these readers.
abbrev pub ConvertsBy : {R : Type 0} → (R → Option (List ℕ)) → Course → ReportValue → List (Option R) → SinkView → SinkView → Outcome → Type 0
ConvertsBy told c report readers old new o =
    (files : List (Option (List ℕ))) → AreFilesOf told readers files
    → EndsAs c.workers c.layout (early_fault c.workers c.ring (length files) (length report.tables)) report (streams report c.limits.rows files) old new o

-- A run that broke off, whatever the readers: memory ran out or the settings are out of range, and
-- nothing is written; or a ring's token was lost, the settings are in range, and there is more than
-- one worker.
abbrev pub LeavesRun : (workers : ℕ) → Option ConvertFault → SinkView → SinkView → ConvertFault → Type 0
LeavesRun workers range old new f =
    ((f ≡ fault.Memory) × Unwritten old new) ⊎ ((range ≡ Some f) × Unwritten old new) ⊎ ((f ≡ fault.Lost) × (range ≡ None) × (1 < workers))

-- What an outcome leaves in the sink, whatever the files and their readers: nothing is written if a
-- file has a fault; the sink has the mark of a failed write exactly if the outcome is Output; and a
-- conversion begins only with settings in range.
abbrev pub Leaves : (workers : ℕ) → Option ConvertFault → SinkView → SinkView → Outcome → Type 0
Leaves workers range old new outcome.Done = (range ≡ None) × (new.mark ≡ old.mark)
Leaves workers range old new (outcome.Report s x) = Unwritten old new
Leaves workers range old new (outcome.Tables named) = (range ≡ None) × (new.mark ≡ old.mark) × (¬ (named ≡ []))
Leaves workers range old new (outcome.CannotRead path) = Unwritten old new
Leaves workers range old new (outcome.CannotWrite path) = ⊥
Leaves workers range old new (outcome.Run f) = LeavesRun workers range old new f
Leaves workers range old new (outcome.Output w) = (range ≡ None) × (new.mark ≡ mark_of w)

-- The same for a conversion by a course, with this many readers and tables.
abbrev pub LeavesBy : Course → (readers tables : ℕ) → SinkView → SinkView → Outcome → Type 0
LeavesBy c readers tables old new o = Leaves c.workers (early_fault c.workers c.ring readers tables) old new o
