-- The definitions of this crate, executed on worked cases (xBRL-CSV 1.0, xBRL-JSON 1.0).
use Rattle.std.specs.Prelude.{◌≡◌, ℕ, Bool, true, false, List, [], ◌∷◌, ◌++◌, Option, Some, None, Ok, Err, map}
use Rattle.std.proofs.Common.{arith, refl, subst, sym, ◌∙◌, codes, inl, inr}
use Rattle.std.specs.Global.{Vec}
use Rattle.std.specs.List.{IsDistinct}
use Rattle.oim_json.specs.Document.{members, tail_text, text_after}
use Rattle.oim_json.specs.JsonText.{decimals_text, dimension_text, escaped_byte, head_text, member_text, quoted, value_text}
use Rattle.oim_json.specs.Sinks.{Broke, SinkView, Wrote}
use Rattle.oim_json.specs.declared.layout.Layout.{Layout}
use Rattle.oim_json.specs.declared.layout.Layout.TheVariants.{Compact, Lines}
use Rattle.oim_json.specs.declared.mark.WriteFault.TheVariants as write
use Rattle.oim_merge.specs.Histories.{all_of, document, facts_before, refusals}
use Rattle.oim_merge.specs.declared.progress.MergeEnd.TheVariants as end
use Rattle.oim_report.specs.Readers.{no_level}
use Rattle.oim_report.specs.ReportValue.{ReportValue}
use Rattle.oim_report.specs.declared.data.Table.{Table}
use Rattle.oim_resolve.specs.FactParts.{FactParts as Fact}
use Rattle.oim_ring.specs.Ends.{ClosedView}
use Rattle.oim_ring.specs.declared.item.Ending.TheVariants.{Closed, Refused}
use Rattle.oim_ring.specs.declared.item.Item.{Item}
use Rattle.oim_ring.specs.declared.item.Item.TheVariants.{Block, Ending}
use Rattle.oim_rows.specs.Header.{fault_at, file_fault}
use Rattle.oim_rows.specs.Streams.{Stream}
use Rattle.oim_rows.specs.declared.fault.TableFault.{TableFault}
use Rattle.oim_rows.specs.declared.fault.TableKind.TheVariants as kind
use Rattle.oim_convert.specs.Answer.{IsAnswer, histories_of, streams}
use Rattle.oim_convert.specs.FaultNames.{name_of, number_of}
use Rattle.oim_convert.specs.Histories.{AreUnserved, IsDecoded, IsEndingOf, IsStream}
use Rattle.oim_convert.specs.Identifiers.{WriteOwnIds}
use Rattle.oim_convert.specs.Runs.{AreStreams, IsCut, early_fault}
use Rattle.oim_convert.specs.state.Tasks.{Gives, placed}
use Rattle.oim_convert.specs.ReadAlone.{AreRead, IsRead}
use Rattle.oim_convert.specs.Serial.{AreBelow, Leaves, LeavesAlone, WritesAlone, WritesHere}
use Rattle.oim_convert.specs.Served.{IsServed}
use Rattle.oim_convert.specs.Tasks.{IsKept}
use Rattle.oim_convert.specs.WrittenHistories.{WritesUntil}
use Rattle.oim_convert.specs.state.Serial.{answer_at, answer_of}
use Rattle.oim_convert.specs.declared.fault.ConvertFault.TheVariants as fault
use Rattle.oim_convert.specs.declared.run.Run.{Run}
use Rattle.oim_convert.specs.declared.table_task.TableTask.{TableTask}
use Rattle.oim_convert.specs.declared.table_task.TaskResult.{TaskResult}
use Rattle.oim_convert.proofs.RunHistories.{same_end}

-- Early faults: workers, the ring's size, readers, tables.

no_workers : early_fault 0 1 2 2 ≡ Some fault.BadWorkers
no_workers = refl

too_many_workers : early_fault 65 1 2 2 ≡ Some fault.BadWorkers
too_many_workers = refl

most_workers : early_fault 64 65536 2 2 ≡ None
most_workers = refl

no_size : early_fault 1 0 2 2 ≡ Some fault.BadSize
no_size = refl

too_large_size : early_fault 1 65537 2 2 ≡ Some fault.BadSize
too_large_size = refl

too_few_readers : early_fault 1 1 1 2 ≡ Some fault.WrongReaders
too_few_readers = refl

workers_come_first : early_fault 65 0 1 2 ≡ Some fault.BadWorkers
workers_come_first = refl

size_comes_second : early_fault 1 65537 1 2 ≡ Some fault.BadSize
size_comes_second = refl

-- The faults' numbers and names.

numbers : map number_of (fault.BadWorkers ∷ fault.BadSize ∷ fault.WrongReaders ∷ fault.Memory ∷ fault.Lost ∷ fault.Write write.Zero ∷ []) ≡ 50 ∷ 51 ∷ 52 ∷ 53 ∷ 54 ∷ 56 ∷ []
numbers = refl

names : map name_of (fault.BadWorkers ∷ fault.BadSize ∷ fault.WrongReaders ∷ fault.Memory ∷ fault.Lost ∷ fault.Write write.Zero ∷ [])
    ≡ codes "BadWorkers" ∷ codes "BadSize" ∷ codes "WrongReaders" ∷ codes "Memory" ∷ codes "Lost" ∷ codes "Write" ∷ []
names = refl

tables_number : (faults : _) → number_of (fault.Tables faults) ≡ 55
tables_number faults = refl

tables_name : (faults : _) → name_of (fault.Tables faults) ≡ codes "Tables"
tables_name faults = refl

-- Histories.

fact : List ℕ → Fact
fact id = record { id = id; value = None; decimals = None; dimensions = [] }

first : Fact
first = fact (codes "a.1.x")

second : Fact
second = fact (codes "a.2.x")

third : Fact
third = fact (codes "b.1.x")

-- A table of two rows without a fault, and one whose second row is ragged.
whole : Stream
whole = record { rows = (first ∷ []) ∷ (second ∷ []) ∷ []; fault = None }

one_row : Stream
one_row = record { rows = (first ∷ []) ∷ []; fault = None }

ragged : TableFault
ragged = fault_at 1 2 0 kind.Ragged

broken : Stream
broken = record { rows = (third ∷ []) ∷ []; fault = Some ragged }

-- Both rows in one block.
one_block : IsStream whole (Block (first ∷ second ∷ []) ∷ Ending Closed ∷ [])
unfolding whole
one_block = record { before = Block (first ∷ second ∷ []) ∷ []; blocks = refl; holds = refl; is = refl }

-- Each row in its own block.
two_blocks : IsStream whole (Block (first ∷ []) ∷ Block (second ∷ []) ∷ Ending Closed ∷ [])
unfolding whole
two_blocks = record { before = Block (first ∷ []) ∷ Block (second ∷ []) ∷ []; blocks = refl; holds = refl; is = refl }

refused_stream : IsStream broken (Block (third ∷ []) ∷ Ending (Refused ragged) ∷ [])
unfolding broken
refused_stream = record { before = Block (third ∷ []) ∷ []; blocks = refl; holds = refl; is = refl }

-- The reader failed after the first row.
unread : IsDecoded 0 whole (Block (first ∷ []) ∷ Ending (Refused (file_fault 0 kind.Read)) ∷ [])
unfolding whole
unread = record {
  facts = first ∷ [];
  ending = Refused (file_fault 0 kind.Read);
  given = inr (inl (record { rows = (first ∷ []) ∷ []; some = ((second ∷ []) ∷ [], refl); holds = refl; refused = refl }));
  is = record { before = Block (first ∷ []) ∷ []; blocks = refl; holds = refl; is = refl };
}

-- The history of a table whose reader failed is cut short.
unread_is_cut : IsCut (Block (first ∷ []) ∷ Ending (Refused (file_fault 0 kind.Read)) ∷ [])
unread_is_cut = record { before = Block (first ∷ []) ∷ []; fault = file_fault 0 kind.Read; outside = inl refl; is = refl }

-- No thread could be made for two tables.
unserved : AreUnserved 0 (whole ∷ broken ∷ []) ((Ending (Refused (file_fault 0 kind.NoThread)) ∷ []) ∷ (Ending (Refused (file_fault 1 kind.NoThread)) ∷ []) ∷ [])
unserved = (refl, (refl, tt))

both : AreStreams (whole ∷ broken ∷ []) ((Block (first ∷ second ∷ []) ∷ Ending Closed ∷ []) ∷ (Block (third ∷ []) ∷ Ending (Refused ragged) ∷ []) ∷ [])
both = (one_block, (refused_stream, tt))

-- Streams: three tables without a file, the second of which is optional.

table_without_file : Bool → Table
table_without_file is_optional = record { id = codes "t"; url = codes "t.csv"; is_optional = is_optional; template = 0; parameters = [] }

three_tables : ReportValue
three_tables = record {
  info = record { base_url = None; taxonomy = [] };
  namespaces = [];
  types = [];
  level = no_level;
  templates = [];
  tables = table_without_file false ∷ table_without_file true ∷ table_without_file false ∷ [];
  parameters = [];
}

missing : ℕ → Stream
missing i = record { rows = []; fault = Some (file_fault i kind.NoFile) }

without_files : streams three_tables 10 (None ∷ None ∷ None ∷ []) ≡ missing 0 ∷ record { rows = []; fault = None } ∷ missing 2 ∷ []
unfolding three_tables table_without_file missing
without_files = refl

-- Answers: the second table of three is refused, and the fourth too.

late : TableFault
late = fault_at 3 0 1 kind.UnknownHeader

unread_header : Stream
unread_header = record { rows = []; fault = Some late }

answered : facts_before (all_of (histories_of (whole ∷ broken ∷ whole ∷ unread_header ∷ []))) ≡ first ∷ second ∷ third ∷ []
unfolding whole broken unread_header
answered = refl

-- Each refused table's fault, in table order.
answered_faults : refusals (all_of (histories_of (whole ∷ broken ∷ whole ∷ unread_header ∷ []))) ≡ ragged ∷ late ∷ []
unfolding whole broken unread_header
answered_faults = refl

no_faults : refusals (all_of (histories_of (whole ∷ whole ∷ []))) ≡ []
unfolding whole
no_faults = refl

-- The document is the head and the facts up to the refusal, without a tail.
unfinished_document : (l : Layout) → document l (codes "head") ((Block (first ∷ second ∷ []) ∷ Ending Closed ∷ []) ∷ (Block (third ∷ []) ∷ Ending (Refused ragged) ∷ []) ∷ [])
    ≡ text_after l (codes "head") (first ∷ second ∷ third ∷ []) ++ []
unfinished_document l = refl

finished_document : (l : Layout) → document l (codes "head") ((Block (first ∷ []) ∷ Ending Closed ∷ []) ∷ (Ending Closed ∷ []) ∷ []) ≡ text_after l (codes "head") (first ∷ []) ++ tail_text l
finished_document l = refl

-- A report of two rows in lines: a line feed directly after the head, after each comma and before
-- the closing braces.
two_rows_in_lines : document Lines (codes "{") (histories_of (whole ∷ [])) ≡ codes "{\n\"a.1.x\":{\"dimensions\":{},\"value\":null},\n\"a.2.x\":{\"dimensions\":{},\"value\":null}\n}}\n"
unfolding whole first second fact members member_text decimals_text dimension_text value_text quoted escaped_byte
two_rows_in_lines = refl

two_rows_compact : document Compact (codes "{") (histories_of (whole ∷ [])) ≡ codes "{\"a.1.x\":{\"dimensions\":{},\"value\":null},\"a.2.x\":{\"dimensions\":{},\"value\":null}}}\n"
unfolding whole first second fact members member_text decimals_text dimension_text value_text quoted escaped_byte
two_rows_compact = refl

-- A report without tables.
no_tables_in_lines : document Lines (codes "{") (histories_of []) ≡ codes "{\n}}\n"
unfolding members
no_tables_in_lines = refl

-- The first table has a bad header: only the head is written, in each layout.
first_refused : (l : Layout) → document l (codes "{") (histories_of (unread_header ∷ whole ∷ [])) ≡ codes "{"
unfolding unread_header members
first_refused l = refl

-- The second table is refused after its first row: nothing follows its last member.
second_refused_in_lines : document Lines (codes "{") (histories_of (one_row ∷ broken ∷ [])) ≡ codes "{\n\"a.1.x\":{\"dimensions\":{},\"value\":null},\n\"b.1.x\":{\"dimensions\":{},\"value\":null}"
unfolding one_row broken first third fact members member_text decimals_text dimension_text value_text quoted escaped_byte
second_refused_in_lines = refl

-- Two tables without a thread are two faults.
unserved_faults : refusals (all_of ((Ending (Refused (file_fault 0 kind.NoThread)) ∷ []) ∷ (Ending (Refused (file_fault 1 kind.NoThread)) ∷ [])
    ∷ [])) ≡ file_fault 0 kind.NoThread ∷ file_fault 1 kind.NoThread ∷ []
unserved_faults = refl

-- Identifiers.

-- Three facts before the refusal, each with its own identifier.
own_ids : WriteOwnIds (histories_of (whole ∷ broken ∷ whole ∷ []))
unfolding IsDistinct whole broken first second third fact
own_ids = ((refl, (refl, tt)), ((refl, tt), (tt, tt)))

-- Two tables with one fact.
repeated_id : WriteOwnIds (histories_of (whole ∷ one_row ∷ [])) → ⊥
unfolding IsDistinct whole one_row first second fact
repeated_id own = let e : true ≡ false = own.0.1.0 in cc

-- Answers that are never given.
module _ (l : Layout) (report : ReportValue) (old new : SinkView) where
  not_the_first_alone : IsAnswer l report (whole ∷ broken ∷ unread_header ∷ []) old new (ragged ∷ []) end.Refused → ⊥
  unfolding whole broken unread_header
  not_the_first_alone answer = let e = answer.0 in cc

  not_complete : IsAnswer l report (whole ∷ broken ∷ []) old new (ragged ∷ []) end.Complete → ⊥
  not_complete answer = let e = answer.1.0 in cc

-- Writing.

module _ (old new : SinkView) where
  keeps_the_mark : Leaves old old (Ok tt)
  keeps_the_mark = refl

  never_lost_on_one_thread : Leaves old new (Err fault.Lost) → ⊥
  never_lost_on_one_thread leaves = leaves

-- Tables that one thread reads.

fault_of_its_own : IsEndingOf 1 (Refused ragged) × IsEndingOf 1 Closed
unfolding ragged
fault_of_its_own = (refl, tt)

fault_of_another_table : IsEndingOf 0 (Refused ragged) → ⊥
unfolding ragged
fault_of_another_table own = omega (arith, own)

-- Readers whose bytes contracts do not see.
abbrev silent : ℕ → Option (List ℕ)
silent reader = None

untold : (limit table reader : ℕ) (history : List Item) → IsKept silent three_tables limit true table (Some reader) history
untold limit table reader history None told = absurd told
untold limit table reader history (Some bytes) told = absurd (cc)

-- Any facts, and a fault of the table.
any_facts : IsRead silent three_tables 10 1 (Some 7) (Block (third ∷ []) ∷ Ending (Refused ragged) ∷ [])
unfolding ragged
any_facts = record {
  facts = third ∷ [];
  ending = Refused (fault_at 1 2 0 kind.Ragged);
  is = record { before = Block (third ∷ []) ∷ []; blocks = refl; holds = refl; is = refl };
  own = refl;
  kept = untold 10 1 7 (Block (third ∷ []) ∷ Ending (Refused (fault_at 1 2 0 kind.Ragged)) ∷ []);
}

-- A table without a file that is not optional: only this fault.
no_file_kept : IsKept silent three_tables 10 true 0 None (Ending (Refused (file_fault 0 kind.NoFile)) ∷ [])
unfolding three_tables table_without_file
no_file_kept None told = record {
  facts = [];
  ending = Refused (file_fault 0 kind.NoFile);
  given = inl (refl, refl);
  is = record { before = []; blocks = refl; holds = refl; is = refl };
}
no_file_kept (Some bytes) told = absurd told

no_file_read : IsRead silent three_tables 10 0 None (Ending (Refused (file_fault 0 kind.NoFile)) ∷ [])
no_file_read = record {
  facts = [];
  ending = Refused (file_fault 0 kind.NoFile);
  is = record { before = []; blocks = refl; holds = refl; is = refl };
  own = refl;
  kept = no_file_kept;
}

-- The two histories, in table order.
two_read : AreRead silent three_tables 10 0 (None ∷ Some 7 ∷ []) ((Ending (Refused (file_fault 0 kind.NoFile)) ∷ []) ∷ (Block (third ∷ []) ∷ Ending (Refused ragged) ∷ []) ∷ [])
two_read = (no_file_read, (any_facts, tt))

one_history_for_each_reader :
    (AreRead silent three_tables 10 0 (None ∷ []) [] → ⊥) × (AreRead silent three_tables 10 0 [] ((Ending Closed ∷ []) ∷ []) → ⊥)
one_history_for_each_reader = (λ read. read, λ read. read)

-- Tables that threads serve. The same facts and fault of the second table.
served_with_its_fault : IsServed silent three_tables 10 true (None ∷ Some 7 ∷ []) 1 (Block (third ∷ []) ∷ Ending (Refused ragged) ∷ [])
unfolding ragged
served_with_its_fault = record {
  reader = Some 7;
  given = refl;
  own = record {
    facts = third ∷ [];
    ending = Refused (fault_at 1 2 0 kind.Ragged);
    is = record { before = Block (third ∷ []) ∷ []; blocks = refl; holds = refl; is = refl };
    own = refl;
  };
  kept = untold 10 1 7 (Block (third ∷ []) ∷ Ending (Refused (fault_at 1 2 0 kind.Ragged)) ∷ []);
}

-- The first table does not end with the fault of the second, also if nothing is known of its
-- reader.
served_with_another_fault : IsServed silent three_tables 10 true (Some 7 ∷ Some 8 ∷ []) 0 (Ending (Refused ragged) ∷ []) → ⊥
served_with_another_fault served =
    let own = served.own in
    let last : Ending (Refused ragged) ≡ Ending own.ending = same_end [] own.is.before (Ending (Refused ragged)) (Ending own.ending) own.is.is in
    let same : own.ending ≡ Refused ragged = cc in
    fault_of_another_table (subst (λ e. IsEndingOf 0 e) same own.own)

-- Their document is only the head, and each has its fault.
module _ (l : Layout) (old new : SinkView) (faults : Vec TableFault) where
  two_refused : faults.items ≡ file_fault 0 kind.NoFile ∷ ragged ∷ [] → Wrote old new (text_after l (head_text three_tables) [] ++ [])
      → WritesAlone silent l three_tables 10 (None ∷ Some 7 ∷ []) old new (Err (fault.Tables faults))
  two_refused are wrote =
      let some : ¬ (faults.items ≡ []) = λ none. (let e : file_fault 0 kind.NoFile ∷ ragged ∷ [] ≡ [] = sym are ∙ none in cc) in
      record {
        histories = (Ending (Refused (file_fault 0 kind.NoFile)) ∷ []) ∷ (Block (third ∷ []) ∷ Ending (Refused ragged) ∷ []) ∷ [];
        are = two_read;
        merged = (are, (some, wrote));
      }

  no_table_is_whole : Wrote old new (text_after l (head_text three_tables) [] ++ tail_text l) → WritesAlone silent l three_tables 10 [] old new (Ok tt)
  no_table_is_whole wrote = record { histories = []; are = tt; merged = (refl, (refl, wrote)) }

  never_lost_alone : WritesAlone silent l three_tables 10 [] old new (Err fault.Lost) → ⊥
  never_lost_alone writes = writes

  -- The same as a run, which has no drains.
  two_refused_here : (run : Run) → run.drains.items ≡ [] → run.faults.items ≡ file_fault 0 kind.NoFile ∷ ragged ∷ [] → run.end ≡ end.Refused
      → Wrote old new (text_after l (head_text three_tables) [] ++ []) → WritesHere silent l three_tables 10 (None ∷ Some 7 ∷ []) old new (Ok run)
  two_refused_here run none are is wrote =
      let some : ¬ (run.faults.items ≡ []) = λ nothing. (let e : file_fault 0 kind.NoFile ∷ ragged ∷ [] ≡ [] = sym are ∙ nothing in cc) in (
        none,
        subst (λ e. WritesUntil (AreRead silent three_tables 10 0 (None ∷ Some 7 ∷ [])) l three_tables old new run.faults.items e) (sym is)
            (record {
              histories = (Ending (Refused (file_fault 0 kind.NoFile)) ∷ []) ∷ (Block (third ∷ []) ∷ Ending (Refused ragged) ∷ []) ∷ [];
              are = two_read;
              merged = (are, (some, wrote));
            }),
      )

  drains_on_one_thread : (run : Run) (drain : _) → run.drains.items ≡ drain ∷ [] → WritesHere silent l three_tables 10 [] old new (Ok run) → ⊥
  drains_on_one_thread run drain some writes = let e : drain ∷ [] ≡ [] = sym some ∙ writes.0 in cc

  never_lost_here : WritesHere silent l three_tables 10 [] old new (Err fault.Lost) → ⊥
  never_lost_here writes = writes

  -- After a failed write the fault of the second table is not found.
  fault_before_a_failed_write : Broke old new (text_after l (head_text three_tables) [] ++ []) write.Zero
      → WritesUntil (AreRead silent three_tables 10 0 (None ∷ Some 7 ∷ [])) l three_tables old new (file_fault 0 kind.NoFile ∷ []) (end.Write write.Zero)
  fault_before_a_failed_write broke = (
    file_fault 0 kind.NoFile ∷ ragged ∷ [],
    (ragged ∷ [], refl),
    record {
      histories = (Ending (Refused (file_fault 0 kind.NoFile)) ∷ []) ∷ (Block (third ∷ []) ∷ Ending (Refused ragged) ∷ []) ∷ [];
      are = two_read;
      merged = (refl, broke);
    },
  )

  refused_without_a_fault : LeavesAlone old new [] end.Refused → ⊥
  refused_without_a_fault leaves = leaves.1 refl

-- The answers that have the ends of runs as faults.

module _ (faults : Vec TableFault) where
  ends_as_answers : map (answer_at faults) (end.Complete ∷ end.Refused ∷ end.Write write.Zero ∷ []) ≡ Ok tt ∷ Err (fault.Tables faults) ∷ Err (fault.Write write.Zero) ∷ []
  ends_as_answers = refl

faults_stay : map (λ f. answer_of (Err f)) (fault.WrongReaders ∷ fault.Memory ∷ []) ≡ Err fault.WrongReaders ∷ Err fault.Memory ∷ []
faults_stay = refl

-- Tables and results.

faults_of_the_second : AreBelow 2 (ragged ∷ [])
unfolding ragged
faults_of_the_second = (omega arith, tt)

fault_of_no_table : AreBelow 1 (ragged ∷ []) → ⊥
unfolding ragged
fault_of_no_table below = omega (arith, below.0)

task_result : ℕ → ClosedView → TaskResult
task_result table closed = record { table = table; closed = Some closed }

-- Results in any order fill the closed feeds in table order.
results_in_table_order : (a b : ClosedView) → placed (task_result 1 b ∷ task_result 0 a ∷ []) (None ∷ None ∷ None ∷ []) ≡ Some a ∷ Some b ∷ None ∷ []
unfolding task_result
results_in_table_order a b = refl

module _ {R : Type 0} (told : R → Option (List ℕ)) (report : ReportValue) (limit : ℕ) (served : Bool) (task : TableTask R) where
  lost_token : Gives told report limit served 1 task (record { table = 1; closed = None })
  lost_token = (refl, tt)

  result_for_another_table : Gives told report limit served 1 task (record { table = 0; closed = None }) → ⊥
  result_for_another_table gives = let e = gives.0 in cc
