-- The answer of a conversion on threads. Sources: xBRL-CSV 1.0 (a report is the facts of its
-- tables), xBRL-JSON 1.0 (the document).
use Rattle.std.specs.Prelude.{◌≡◌, ◌⊎◌, ⊤, ℕ, ◌||◌, ◌==◌, nat_lt, if◌then◌else◌, List, [], ◌∷◌, ◌++◌, Option, Some, None, Result, Ok, Err, MatchResult, length}
use Rattle.oim_json.specs.JsonText.{head_text}
use Rattle.oim_json.specs.Sinks.{SinkView, Unwritten}
use Rattle.oim_json.specs.declared.layout.Layout.{Layout}
use Rattle.oim_merge.specs.Merging.{EndEach, Merges}
use Rattle.oim_merge.specs.declared.progress.MergeEnd.{MergeEnd}
use Rattle.oim_report.specs.ReportValue.{ReportValue}
use Rattle.oim_ring.specs.Limits.{largest_ring}
use Rattle.oim_ring.specs.declared.item.Ending.TheVariants.{Refused}
use Rattle.oim_ring.specs.declared.item.Item.{Item}
use Rattle.oim_ring.specs.declared.item.Item.TheVariants.{Ending}
use Rattle.oim_rows.specs.Streams.{Stream}
use Rattle.oim_rows.specs.declared.fault.TableFault.{TableFault}
use Rattle.oim_rows.specs.declared.fault.TableKind.{TableKind}
use Rattle.oim_rows.specs.declared.fault.TableKind.TheVariants as kind
use Rattle.oim_convert.specs.Histories.{AreDecoded, AreUnserved, IsStream}
use Rattle.oim_convert.specs.Limits.{most_workers}
use Rattle.oim_convert.specs.WrittenHistories.{WritesHistories}
use Rattle.oim_convert.specs.declared.fault.ConvertFault.{ConvertFault}
use Rattle.oim_convert.specs.declared.fault.ConvertFault.TheVariants as fault
use Rattle.oim_convert.specs.declared.run.Run.{Run}

-- The fault that is found before anything is prepared: the number of workers or the ring's size is
-- out of range, or the number of readers is not the number of tables.
abbrev pub early_fault : ℕ → ℕ → ℕ → ℕ → Option ConvertFault
early_fault workers size readers tables =
    if nat_lt workers 1 || nat_lt most_workers workers then Some fault.BadWorkers
    else if nat_lt size 1 || nat_lt largest_ring size then Some fault.BadSize
    else if readers == tables then None else Some fault.WrongReaders

-- The answer is the early fault if there is one, else a run, Memory or Lost.
abbrev pub AnswersFault : Option ConvertFault → Result Run ConvertFault → Type 0
AnswersFault (Some f) result = result ≡ Err f
AnswersFault None (Ok run) = ⊤
AnswersFault None (Err fault.Memory) = ⊤
AnswersFault None (Err fault.Lost) = ⊤
AnswersFault None result = ⊥

-- The histories of a report's tables: each table was decoded, or none was because no thread could
-- be made.
abbrev pub AreHistories : List Stream → List (List Item) → Type 0
AreHistories ss hs = AreDecoded 0 ss hs ⊎ AreUnserved 0 ss hs

-- Each history is its table's stream.
abbrev pub AreStreams : List Stream → List (List Item) → Type 0
AreStreams [] [] = ⊤
AreStreams [] (h ∷ hs) = ⊥
AreStreams (s ∷ ss) [] = ⊥
AreStreams (s ∷ ss) (h ∷ hs) = IsStream s h × AreStreams ss hs

-- The faults whose cause is outside the table's file.
abbrev pub IsFromOutside : TableKind → Type 0
IsFromOutside k = (k ≡ kind.Read) ⊎ (k ≡ kind.Memory) ⊎ (k ≡ kind.NoThread)

-- A failed read, or running out of memory or threads, ended the table.
pub record IsCut (history : List Item) : Type 0 where
  pub before : List Item
  pub fault : TableFault
  pub outside : IsFromOutside fault.kind
  pub is : history ≡ before ++ Ending (Refused fault) ∷ []

-- None of the tables ended so.
abbrev pub AreUncut : List (List Item) → Type 0
AreUncut [] = ⊤
AreUncut (h ∷ hs) = (¬ IsCut h) × AreUncut hs

-- The table ended because no thread could be made.
pub record IsThreadless (history : List Item) : Type 0 where
  pub before : List Item
  pub fault : TableFault
  pub none : fault.kind ≡ kind.NoThread
  pub is : history ≡ before ++ Ending (Refused fault) ∷ []

-- None of the tables ended because no thread could be made.
abbrev pub AreThreaded : List (List Item) → Type 0
AreThreaded [] = ⊤
AreThreaded (h ∷ hs) = (¬ IsThreadless h) × AreThreaded hs

-- One history for each table, with one ending.
abbrev pub AreEnded : ℕ → List (List Item) → Type 0
AreEnded tables hs = (length hs ≡ tables) × EndEach hs

-- A token was lost: the document of some histories, one for each table, or a prefix of it was
-- written.
abbrev pub IsLost : Layout → ReportValue → ℕ → SinkView → SinkView → Type 0
IsLost layout report tables old new = (faults : List TableFault) × (end : MergeEnd) × WritesHistories (AreEnded tables) layout report old new faults end

-- A run of this many tables: each history has one ending, and the faults, the end and the text
-- written are those of the histories.
pub record IsRun (layout : Layout) (report : ReportValue) (tables : ℕ) (old new : SinkView) (run : Run) : Type 0 where
  pub count : length run.drains.items ≡ tables
  pub ended : EndEach run.drains.items
  pub merged : Merges layout old new (head_text report) run.drains.items run.faults.items run.end

-- A conversion that gave no run: a token was lost, and `Loss` holds; or nothing is written. The
-- faults Tables and Write are not given.
abbrev pub BreaksOff : (Loss : Type 0) → SinkView → SinkView → ConvertFault → Type 0
BreaksOff Loss old new fault.Lost = Loss
BreaksOff Loss old new (fault.Tables faults) = ⊥
BreaksOff Loss old new (fault.Write w) = ⊥
BreaksOff Loss old new f = Unwritten old new

-- The text written: the document of the run's histories up to its end. With a fault other than
-- Lost, nothing.
abbrev pub Writes : Layout → ReportValue → ℕ → SinkView → SinkView → Result Run ConvertFault → Type 0
Writes layout report tables old new result = MatchResult result (IsRun layout report tables old new) (BreaksOff (IsLost layout report tables old new) old new)
