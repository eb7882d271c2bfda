-- The definitions of this crate, executed on worked cases.
use Rattle.std.proofs.Common.{arith, ◌≡◌, ◌++◌, ◌∷◌, [], ℕ, List, Some, None, true, false, codes, inl, inr, map, refl, if◌then◌else◌}
use Rattle.std.specs.Fmt.{digits}
use Rattle.std.specs.Borrow.{Bor}
use Rattle.std.specs.Str.{bytes_eq, chars}
use lib.Utf8.{encode}
use Rattle.clap.proofs.OnLiterals.{clap_on_literals}
use Rattle.clap.specs.Words.{Row, Text, fault_of, first_of, matches_of, one_of}
use Rattle.clap.specs.declared.error.kind.ErrorKind.TheVariants as kind
use Rattle.oim_convert.specs.Histories.{AreDecoded}
use Rattle.oim_convert.specs.Runs.{IsFromOutside, early_fault}
use Rattle.oim_convert.specs.declared.fault.ConvertFault.TheVariants as fault
use Rattle.oim_json.specs.JsonText.{head_text}
use Rattle.oim_json.specs.Sinks.{SinkView}
use Rattle.oim_json.specs.declared.layout.Layout.{Layout}
use Rattle.oim_json.specs.declared.mark.WriteFault.TheVariants as write
use Rattle.oim_merge.specs.Merging.{Merges}
use Rattle.oim_merge.specs.declared.progress.MergeEnd.TheVariants as end
use Rattle.oim_report.specs.Readers.{no_level}
use Rattle.oim_report.specs.ReportValue.{ReportValue}
use Rattle.oim_report.specs.declared.data.Table.{Table}
use Rattle.oim_entries.specs.declared.fault.MetaFault.{MetaFault}
use Rattle.oim_entries.specs.declared.fault.MetaFault.TheVariants as refused
use Rattle.oim_meta.specs.Findings.{finding}
use Rattle.oim_files.specs.FileFaults.{of_metadata}
use Rattle.oim_files.specs.declared.early_fault.FileFault.{FileFault}
use Rattle.oim_resolve.specs.declared.fact.CellFault.TheVariants as cell
use Rattle.oim_ring.specs.declared.item.Ending.TheVariants.{Refused}
use Rattle.oim_ring.specs.declared.item.Item.{Item}
use Rattle.oim_ring.specs.declared.item.Item.TheVariants.{Ending}
use Rattle.oim_rows.specs.Header.{fault_at, file_fault}
use Rattle.oim_rows.specs.Streams.{Stream}
use Rattle.oim_rows.specs.declared.fault.TableFault.{TableFault}
use Rattle.oim_rows.specs.declared.fault.TableKind.TheVariants as table
use Rattle.oim_run.specs.CommandLine.{AreLayouts, Words, are_explained, command_line, is_given}
use Rattle.oim_run.specs.Buffers.{flushed}
use Rattle.oim_files.specs.Folders.{Files}
use Rattle.oim_run.specs.Lines.{line_of, status_of, terminal_line_of, unprinted_status, words_status}
use Rattle.oim_run.specs.state.Naming.{outcome_at, table_ids}
use Rattle.oim_run.specs.Outcomes.{AreDefined, AreHistoriesWith, Breaks, Leaves, WritesStreams, refused_tables}
use Rattle.oim_run.specs.Runs.{range_fault, table_files}
use Rattle.oim_run.specs.Early.{outcome_of}
use Rattle.oim_files.specs.declared.early_fault.EarlyFault.TheVariants as early
use Rattle.oim_files.specs.declared.early_fault.Source.TheVariants as source
use Rattle.oim_run.specs.declared.outcome.Outcome.TheVariants as outcome

-- The command line.

-- The values of `--layout`, wherever they are in memory.
abbrev word : Text → Bor Text
word text = record { ref_ptr = (0, 0); now = text }

abbrev layouts : Words
layouts = record { ref_ptr = (0, 0); now = word (codes "compact") ∷ word (codes "lines") ∷ [] }

words_of_the_layouts : AreLayouts layouts
words_of_the_layouts = refl

abbrev least : List Text
least = codes "m.json" ∷ codes "--types" ∷ codes "t.csv" ∷ []

abbrev full : List Text
full = codes "--out" ∷ codes "o.json" ∷ codes "--workers" ∷ codes "64" ∷ codes "--ring=2" ∷ codes "--layout" ∷ codes "lines" ∷ codes "--progress" ∷ codes "--whole" ∷ codes "--explain" ∷ codes "--no-explain" ∷ codes "--faults" ∷ codes "f.csv" ∷ codes "--most-faults" ∷ codes "7" ∷ codes "--counts" ∷ codes "c.json" ∷ least

abbrev given : List Text → List Row
given words = matches_of (command_line layouts) words

least_meta : first_of (codes "meta") (given least) ≡ Some (codes "m.json")
unfolding clap_on_literals command_line
least_meta = refl

least_types : first_of (codes "types") (given least) ≡ Some (codes "t.csv")
unfolding clap_on_literals command_line
least_types = refl

least_workers : one_of (codes "workers") (given least) ≡ Some (codes "4")
unfolding clap_on_literals command_line
least_workers = refl

least_ring : one_of (codes "ring") (given least) ≡ Some (codes "1024")
unfolding clap_on_literals command_line
least_ring = refl

least_out : first_of (codes "out") (given least) ≡ None
unfolding clap_on_literals command_line
least_out = refl

least_layout : first_of (codes "layout") (given least) ≡ Some (codes "compact")
unfolding clap_on_literals command_line
least_layout = refl

least_progress : is_given (first_of (codes "progress") (given least)) ≡ false
unfolding clap_on_literals command_line
least_progress = refl

full_workers : one_of (codes "workers") (given full) ≡ Some (codes "64")
unfolding clap_on_literals command_line
full_workers = refl

full_ring : one_of (codes "ring") (given full) ≡ Some (codes "2")
unfolding clap_on_literals command_line
full_ring = refl

full_out : first_of (codes "out") (given full) ≡ Some (codes "o.json")
unfolding clap_on_literals command_line
full_out = refl

full_layout : first_of (codes "layout") (given full) ≡ Some (codes "lines")
unfolding clap_on_literals command_line
full_layout = refl

-- An option that is not among the rows.
no_progress : is_given None ≡ false
no_progress = refl

full_progress : is_given (first_of (codes "progress") (given full)) ≡ true
unfolding clap_on_literals command_line
full_progress = refl

least_whole : is_given (first_of (codes "whole") (given least)) ≡ false
unfolding clap_on_literals command_line
least_whole = refl

full_whole : is_given (first_of (codes "whole") (given full)) ≡ true
unfolding clap_on_literals command_line
full_whole = refl

least_explain : is_given (first_of (codes "explain") (given least)) ≡ false
unfolding clap_on_literals command_line
least_explain = refl

full_explain : is_given (first_of (codes "explain") (given full)) ≡ true
unfolding clap_on_literals command_line
full_explain = refl

least_no_explain : is_given (first_of (codes "no-explain") (given least)) ≡ false
unfolding clap_on_literals command_line
least_no_explain = refl

full_no_explain : is_given (first_of (codes "no-explain") (given full)) ≡ true
unfolding clap_on_literals command_line
full_no_explain = refl

-- Without both a terminal gets explanations, and a pipe none; with --explain a pipe gets them too.
a_terminal : are_explained false false true ≡ true
a_terminal = refl

a_pipe : are_explained false false false ≡ false
a_pipe = refl

asked_in_a_pipe : are_explained true false false ≡ true
asked_in_a_pipe = refl

asked_on_a_terminal : are_explained true false true ≡ true
asked_on_a_terminal = refl

-- --no-explain forbids them, also if both are given, in whatever order.
forbidden : are_explained false true true ≡ false
forbidden = refl

forbidden_in_a_pipe : are_explained false true false ≡ false
forbidden_in_a_pipe = refl

both : are_explained true true true ≡ false
both = refl

both_in_a_pipe : are_explained true true false ≡ false
both_in_a_pipe = refl

least_faults : first_of (codes "faults") (given least) ≡ None
unfolding clap_on_literals command_line
least_faults = refl

full_faults : first_of (codes "faults") (given full) ≡ Some (codes "f.csv")
unfolding clap_on_literals command_line
full_faults = refl

least_most_faults : one_of (codes "most-faults") (given least) ≡ Some (codes "1000000")
unfolding clap_on_literals command_line
least_most_faults = refl

full_most_faults : one_of (codes "most-faults") (given full) ≡ Some (codes "7")
unfolding clap_on_literals command_line
full_most_faults = refl

least_counts : first_of (codes "counts") (given least) ≡ None
unfolding clap_on_literals command_line
least_counts = refl

full_counts : first_of (codes "counts") (given full) ≡ Some (codes "c.json")
unfolding clap_on_literals command_line
full_counts = refl

least_taken : fault_of (command_line layouts) least ≡ []
unfolding clap_on_literals command_line
least_taken = refl

full_taken : fault_of (command_line layouts) full ≡ []
unfolding clap_on_literals command_line
full_taken = refl

types_missing : fault_of (command_line layouts) (codes "m.json" ∷ []) ≡ kind.MissingRequiredArgument ∷ []
unfolding clap_on_literals command_line
types_missing = refl

meta_missing : fault_of (command_line layouts) (codes "--types" ∷ codes "t.csv" ∷ []) ≡ kind.MissingRequiredArgument ∷ []
unfolding clap_on_literals command_line
meta_missing = refl

name_of_the_program : (command_line layouts).top.name ≡ codes "xbrl-json"
unfolding command_line
name_of_the_program = refl

sixty_five_workers : fault_of (command_line layouts) (codes "--workers" ∷ codes "65" ∷ least) ≡ kind.ValueValidation ∷ []
unfolding clap_on_literals command_line
sixty_five_workers = refl

-- One worker is the least, as is a ring of one block.
one_worker : fault_of (command_line layouts) (codes "--workers" ∷ codes "1" ∷ codes "--ring" ∷ codes "1" ∷ least) ≡ []
unfolding clap_on_literals command_line
one_worker = refl

without_workers : fault_of (command_line layouts) (codes "--workers" ∷ codes "0" ∷ least) ≡ kind.ValueValidation ∷ []
unfolding clap_on_literals command_line
without_workers = refl

another_layout : fault_of (command_line layouts) (codes "--layout" ∷ codes "pretty" ∷ least) ≡ kind.InvalidValue ∷ []
unfolding clap_on_literals command_line
another_layout = refl

help_wanted : fault_of (command_line layouts) (codes "--help" ∷ []) ≡ kind.DisplayHelp ∷ []
unfolding clap_on_literals command_line
help_wanted = refl

version_wanted : fault_of (command_line layouts) (codes "--version" ∷ []) ≡ kind.DisplayVersion ∷ []
unfolding clap_on_literals command_line
version_wanted = refl

another_word : fault_of (command_line layouts) (codes "more.json" ∷ least) ≡ kind.UnknownArgument ∷ []
unfolding clap_on_literals command_line
another_word = refl

-- The files.

-- A fault at a place, which no line names.
abbrev at_tables : MetaFault → FileFault
at_tables f = of_metadata (finding f (codes "tables" ∷ []))

early_outcomes : map outcome_of (early.Report source.Report (at_tables refused.TooLarge) ∷ early.CannotRead (codes "x.csv") ∷ early.Memory ∷ [])
    ≡ outcome.Report source.Report (at_tables refused.TooLarge) ∷ outcome.CannotRead (codes "x.csv") ∷ outcome.Run fault.Memory ∷ []
early_outcomes = refl

abbrev held : Files
held path = if bytes_eq path (codes "f/m.json") then Some (codes "{")
    else if bytes_eq path (codes "f/t1.csv") then Some (codes "cash\n")
    else if bytes_eq path (codes "f/types.csv") then Some (codes "name\n")
    else None

abbrev first : Table
first = record { id = codes "t1"; url = codes "t1.csv"; is_optional = false; template = 0; parameters = [] }

abbrev report : ReportValue
report = record {
  info = record { base_url = None; taxonomy = [] };
  namespaces = [];
  types = [];
  level = no_level;
  templates = [];
  tables = first ∷ record first { id = codes "t2"; url = codes "t2.csv" } ∷ record first { id = codes "t3"; url = codes "t3.csv" } ∷ [];
  parameters = [];
}

files_of_the_tables : table_files held (codes "f/") report ≡ Some (codes "cash\n") ∷ None ∷ None ∷ []
files_of_the_tables = refl

-- Settings out of range.

no_workers : range_fault 0 0 ≡ Some fault.BadWorkers
no_workers = refl

workers_past_the_most : range_fault 65 1 ≡ Some fault.BadWorkers
workers_past_the_most = refl

most_workers : range_fault 64 1 ≡ None
most_workers = refl

no_ring : range_fault 1 0 ≡ Some fault.BadSize
no_ring = refl

largest_ring : range_fault 1 65536 ≡ None
largest_ring = refl

ring_past_the_largest : range_fault 1 65537 ≡ Some fault.BadSize
ring_past_the_largest = refl

-- Settings in range.

as_many_readers_as_tables : early_fault 1 1 2 2 ≡ None
as_many_readers_as_tables = refl

too_few_readers : early_fault 1 1 1 2 ≡ Some fault.WrongReaders
too_few_readers = refl

-- Outcomes.

abbrev bad_number : TableFault
bad_number = fault_at 1 2 1 (table.Cell cell.BadNumber)

abbrev unknown_header : TableFault
unknown_header = fault_at 2 0 1 table.UnknownHeader

abbrev two_refused : List (List ℕ × TableFault)
two_refused = (codes "t2", bad_number) ∷ (codes "t3", unknown_header) ∷ []

refused_by_their_identifiers : refused_tables report (bad_number ∷ unknown_header ∷ []) ≡ two_refused
refused_by_their_identifiers = refl

complete : outcome_at (table_ids report) [] end.Complete ≡ outcome.Done
complete = refl

ends_with_two_refused : outcome_at (table_ids report) (bad_number ∷ unknown_header ∷ []) end.Refused ≡ outcome.Tables two_refused
ends_with_two_refused = refl

failed_flush : flushed outcome.Done ≡ outcome.Output write.Failed
failed_flush = refl

failed_flush_of_refused_tables : flushed (outcome.Tables two_refused) ≡ outcome.Output write.Failed
failed_flush_of_refused_tables = refl

failed_flush_of_nothing : flushed (outcome.CannotRead (codes "x.json")) ≡ outcome.CannotRead (codes "x.json")
failed_flush_of_nothing = refl

statuses : map status_of (outcome.Done ∷ outcome.Report source.Types (at_tables refused.BadTypes) ∷ outcome.Tables two_refused ∷ outcome.CannotRead (codes "x.json") ∷ outcome.CannotWrite (codes "o.json")
    ∷ outcome.Run fault.Memory ∷ outcome.Output write.Zero ∷ []) ≡ 0 ∷ 1 ∷ 1 ∷ 3 ∷ 3 ∷ 3 ∷ 3 ∷ []
statuses = refl

statuses_of_words : map words_status (kind.DisplayHelp ∷ kind.DisplayVersion ∷ kind.OutOfMemory ∷ kind.UnknownArgument ∷ []) ≡ 0 ∷ 0 ∷ 3 ∷ 2 ∷ []
statuses_of_words = refl

lines_of_sources : map line_of (outcome.Report source.Report (at_tables refused.UnknownTemplate) ∷ outcome.Report source.Parameters (at_tables refused.BadParameter) ∷ outcome.Report source.Types (at_tables refused.BadTypes) ∷ [])
    ≡ codes "xbrl-json: report: UnknownTemplate (9)\n" ∷ codes "xbrl-json: parameters: BadParameter (13)\n" ∷ codes "xbrl-json: types: BadTypes (14)\n" ∷ []
unfolding digits
lines_of_sources = refl

lines_of_paths : map line_of (outcome.Done ∷ outcome.CannotRead (codes "t.csv") ∷ outcome.CannotWrite (codes "o.json") ∷ [])
    ≡ [] ∷ codes "xbrl-json: cannot read t.csv\n" ∷ codes "xbrl-json: cannot write o.json\n" ∷ []
lines_of_paths = refl

-- A name with a line feed, and one with a colour command. U+009B by itself also begins a command.
lines_for_a_terminal : map terminal_line_of (outcome.CannotRead (codes "a\nb" ++ 27 ∷ codes "[31m") ∷ outcome.CannotWrite (codes "o" ++ 127 ∷ 194 ∷ 155 ∷ []) ∷ outcome.Run fault.Memory ∷ [])
    ≡ codes "xbrl-json: cannot read a\\x0ab\\x1b[31m\n" ∷ codes "xbrl-json: cannot write o\\x7f\\x9b\n" ∷ codes "xbrl-json: run: Memory (53)\n" ∷ []
unfolding chars encode digits
lines_for_a_terminal = refl

unprinted_words : map unprinted_status (kind.DisplayHelp ∷ kind.DisplayVersion ∷ kind.OutOfMemory ∷ kind.UnknownArgument ∷ []) ≡ 3 ∷ 3 ∷ 3 ∷ 2 ∷ []
unprinted_words = refl

lines_of_the_run : map line_of (outcome.Run fault.Memory ∷ outcome.Output write.Failed ∷ []) ≡ codes "xbrl-json: run: Memory (53)\n" ∷ codes "xbrl-json: output: Write (56)\n" ∷ []
unfolding digits
lines_of_the_run = refl

line_of_each_refused_table : line_of (outcome.Tables two_refused)
    ≡ codes "xbrl-json: table t2, row 2, column 1: BadNumber (40)\nxbrl-json: table t3, row 0, column 1: UnknownHeader (23)\n"
unfolding digits
line_of_each_refused_table = refl

not_from_outside : IsFromOutside table.UnknownHeader → ⊥
not_from_outside (inl e) = cc
not_from_outside (inr (inl e)) = cc
not_from_outside (inr (inr e)) = cc

a_fault_of_the_table : AreDefined (unknown_header ∷ [])
a_fault_of_the_table = (not_from_outside, tt)

a_failed_read : AreDefined (fault_at 0 0 0 table.Read ∷ []) → ⊥
a_failed_read defined = defined.0 (inl refl)

module _ (layout : Layout) (old new : SinkView) where
  done_in_range : Leaves 1 None old old outcome.Done
  done_in_range = (refl, refl)

  not_done_out_of_range : Leaves 65 (range_fault 65 1) old new outcome.Done → ⊥
  not_done_out_of_range leaves = let e = leaves.0 in cc

  no_tables_without_a_fault : Leaves 1 None old new (outcome.Tables []) → ⊥
  no_tables_without_a_fault leaves = leaves.2 refl

  -- With one worker no thread and no ring is needed.
  threads_missing_for_two : (s : Stream) → AreHistoriesWith 2 (s ∷ []) ((Ending (Refused (file_fault 0 table.NoThread)) ∷ []) ∷ [])
  threads_missing_for_two s = inr (omega arith, (refl, tt))

  no_thread_missing_for_one : (s : Stream) (hs : List (List Item)) → (AreDecoded 0 (s ∷ []) hs → ⊥) → AreHistoriesWith 1 (s ∷ []) hs → ⊥
  no_thread_missing_for_one s hs other (inl decoded) = other decoded
  no_thread_missing_for_one s hs other (inr none) = omega (arith, none.0)

  not_lost_by_one : Breaks 1 layout report old new fault.Lost → ⊥
  not_lost_by_one lost = omega (arith, lost.0)

  lost_by_two : Leaves 2 None old new (outcome.Run fault.Lost)
  lost_by_two = inr (inr (refl, refl, omega arith))

  nothing_lost_by_one : Leaves 1 None old new (outcome.Run fault.Lost) → ⊥
  nothing_lost_by_one (inl memory) = let e = memory.0 in cc
  nothing_lost_by_one (inr (inl range)) = let e = range.0 in cc
  nothing_lost_by_one (inr (inr lost)) = omega (arith, lost.2)

  -- A report without tables has no fault of a table.
  no_fault_without_a_table : WritesStreams 2 layout report [] old new (unknown_header ∷ []) end.Refused → ⊥
  no_fault_without_a_table given = by given.written.histories given.written.are given.written.merged
    where
      by : (hs : List (List Item)) → AreHistoriesWith 2 [] hs → Merges layout old new (head_text report) hs (unknown_header ∷ []) end.Refused → ⊥
      by [] are merged = let e = merged.0 in cc
      by (h ∷ hs) (inl are) merged = are
      by (h ∷ hs) (inr are) merged = are.1
