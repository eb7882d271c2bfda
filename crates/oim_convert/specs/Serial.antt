-- The conversion on one thread.
use Rattle.std.specs.Prelude.{⊤, ◌≡◌, ◌<◌, ◌≤◌, ℕ, List, [], ◌∷◌, Option, Result, Ok, Err, MatchResult, length}
use Rattle.oim_json.specs.Sinks.{SinkView, Broke, Unwritten, mark_of}
use Rattle.oim_json.specs.declared.layout.Layout.{Layout}
use Rattle.oim_merge.specs.declared.progress.MergeEnd.{MergeEnd}
use Rattle.oim_merge.specs.declared.progress.MergeEnd.TheVariants as end
use Rattle.oim_report.specs.ReportValue.{ReportValue}
use Rattle.oim_rows.specs.Streams.{Stream}
use Rattle.oim_rows.specs.declared.fault.TableFault.{TableFault}
use Rattle.oim_convert.specs.Answer.{IsAnswer, answer_text}
use Rattle.oim_convert.specs.Histories.{AreDecoded}
use Rattle.oim_convert.specs.ReadAlone.{AreRead}
use Rattle.oim_convert.specs.Runs.{BreaksOff}
use Rattle.oim_convert.specs.WrittenHistories.{WritesHistories, WritesUntil}
use Rattle.oim_convert.specs.declared.fault.ConvertFault.{ConvertFault}
use Rattle.oim_convert.specs.declared.fault.ConvertFault.TheVariants as fault
use Rattle.oim_convert.specs.declared.run.Run.{Run}

-- Whatever contracts see of the readers, their tables have histories, and the faults, the end and
-- the text are those of the histories. There are no drains. With a fault nothing is written, and no
-- token is lost.
abbrev pub WritesHere : {R : Type 0} → (R → Option (List ℕ)) → Layout → ReportValue → ℕ → List (Option R) → SinkView → SinkView → Result Run ConvertFault → Type 0
WritesHere told layout report limit readers old new result =
    MatchResult result (λ run. (run.drains.items ≡ []) × WritesUntil (AreRead told report limit 0 readers) layout report old new run.faults.items run.end) (BreaksOff ⊥ old new)

-- An answer that has the end of its run as a fault: Ok is Complete; Tables is Refused, with the
-- faults; Write is the failed write, with some faults. What `Ends` says holds of the faults and the
-- end. `Early` holds with WrongReaders and Memory. There is no other fault.
abbrev pub AnswersBy : (Ends : List TableFault → MergeEnd → Type 0) → (Early : Type 0) → Result (Unit {0}) ConvertFault → Type 0
AnswersBy Ends Early (Ok u) = Ends [] end.Complete
AnswersBy Ends Early (Err (fault.Tables faults)) = Ends faults.items end.Refused
AnswersBy Ends Early (Err (fault.Write w)) = (faults : List TableFault) × Ends faults (end.Write w)
AnswersBy Ends Early (Err fault.WrongReaders) = Early
AnswersBy Ends Early (Err fault.Memory) = Early
AnswersBy Ends Early result = ⊥

-- If contracts see the readers' bytes. Complete: the whole document is written, and no table is
-- refused. Refused: the fault of each refused table, and the unfinished document up to and
-- including the first; each table is whole, or cut short by a failed read or by running out of
-- memory. Write: a prefix of the defined text.
abbrev pub EndsAlone : Layout → ReportValue → List Stream → SinkView → SinkView → List TableFault → MergeEnd → Type 0
EndsAlone layout report ss old new faults end.Complete = IsAnswer layout report ss old new faults end.Complete
EndsAlone layout report ss old new faults end.Refused = WritesHistories (AreDecoded 0 ss) layout report old new faults end.Refused
EndsAlone layout report ss old new faults (end.Write w) = Broke old new (answer_text layout report ss) w

-- The answer ends so, or nothing is written.
abbrev pub Converts : Layout → ReportValue → List Stream → SinkView → SinkView → Result (Unit {0}) ConvertFault → Type 0
Converts layout report ss old new result = AnswersBy (EndsAlone layout report ss old new) (Unwritten old new) result

-- Whatever contracts see of the readers, their tables have histories, and the faults, the end and
-- the text are those of the histories; or nothing is written.
abbrev pub WritesAlone : {R : Type 0} → (R → Option (List ℕ)) → Layout → ReportValue → ℕ → List (Option R) → SinkView → SinkView → Result (Unit {0}) ConvertFault → Type 0
WritesAlone told layout report limit readers old new result = AnswersBy (WritesHistories (AreRead told report limit 0 readers) layout report old new) (Unwritten old new) result

-- Whatever contracts see of the readers: a write fault is the sink's mark, and without one the mark
-- is kept. A refused table has a fault.
abbrev pub LeavesAlone : SinkView → SinkView → List TableFault → MergeEnd → Type 0
LeavesAlone old new faults end.Complete = new.mark ≡ old.mark
LeavesAlone old new faults end.Refused = (new.mark ≡ old.mark) × (¬ (faults ≡ []))
LeavesAlone old new faults (end.Write w) = new.mark ≡ mark_of w

abbrev pub Leaves : SinkView → SinkView → Result (Unit {0}) ConvertFault → Type 0
Leaves old new result = AnswersBy (LeavesAlone old new) (Unwritten old new) result

-- Each fault is of a table with a number below `tables`.
abbrev pub AreBelow : ℕ → List TableFault → Type 0
AreBelow tables [] = ⊤
AreBelow tables (e ∷ es) = (e.table < tables) × AreBelow tables es

-- The faults of tables are of these tables.
abbrev pub IsOfTables : ℕ → Result (Unit {0}) ConvertFault → Type 0
IsOfTables tables result = AnswersBy (λ faults e. AreBelow tables faults) ⊤ result

-- There are at most `most` faults of tables.
abbrev pub AreFew : ℕ → Result (Unit {0}) ConvertFault → Type 0
AreFew most result = AnswersBy (λ faults e. length faults ≤ most) ⊤ result
