-- Examples of the rules for reading a table in blocks (`specs/Blocks.antt`, `specs/state`).
use lib.Utf8.{encode}
use Rattle.std.proofs.Common.{◌≡◌, ◌++◌, ℕ, List, Option, [], ◌∷◌, Some, None, Ok, Err, true, false, refl, ap, arith, codes, length, map, inl, inr}
use Rattle.csv.specs.Reading.{strip_bom}
use Rattle.oim_records.specs.Grids.{Record}
use Rattle.oim_report.specs.Readers.{no_level}
use Rattle.oim_report.specs.ReportValue.{ReportValue}
use Rattle.oim_report.specs.declared.data.Column.{Column}
use Rattle.oim_report.specs.declared.data.ColumnKind.TheVariants as content
use Rattle.oim_resolve.specs.FactParts.{FactParts as Fact}
use Rattle.oim_rows.specs.FaultNames.{number_of}
use Rattle.oim_rows.specs.Header.{fault_at, file_fault}
use Rattle.oim_rows.specs.Streams.{ending}
use Rattle.oim_rows.specs.declared.fault.TableFault.{TableFault}
use Rattle.oim_rows.specs.declared.fault.TableKind.TheVariants as kind
use Rattle.oim_json.specs.Blocks.{behind_commas, ends_from}
use Rattle.oim_json.proofs.Blocks.{nothing_written}
use Rattle.oim_row.specs.Rows.{RowValue}
use Rattle.oim_decode.specs.state.RowParts.{AddsParts, BeginsTexts, ContinuesTexts, IsLeft, IsRestOf, RowRestValue, WritesRest, row_columns, with_rest}
use Rattle.oim_decode.specs.state.RowTexts.{AddsFacts, facts_of_answer}
use Rattle.oim_decode.specs.Blocks.{AnswersFacts, GivesFound, IsBehind, KeepsAnswer, LeavesNone, ReadsRows}
use Rattle.oim_decode.specs.state.Blocks.{AddsNone, CountsRow, TakesOne, end_or_left, has_row, turns_left}
use Rattle.oim_decode.specs.Heads.{header_in, table_header_in}
use Rattle.oim_decode.specs.state.Heads.{mark}

abbrev a : Fact
a = record { id = codes "a"; value = None; decimals = None; dimensions = [] }

abbrev b : Fact
b = record { id = codes "b"; value = None; decimals = None; dimensions = [] }

-- `end_or_left`: a settled table has only its end left.
ended : end_or_left (Some None) (Some (record { rows = (a ∷ []) ∷ []; fault = None })) ≡ Some (ending None)
ended = refl

-- `end_or_left`: also if it ended with a fault. An unsettled table has its rows.
abbrev failed : TableFault
failed = file_fault 0 kind.Read

left_then : (end_or_left None (Some (record { rows = (a ∷ []) ∷ []; fault = None })) ≡ Some (record { rows = (a ∷ []) ∷ []; fault = None }))
    × (end_or_left (Some (Some failed)) None ≡ Some (ending (Some failed)))
left_then = (refl, refl)

-- `turns_left`: two rows and the end after them are left to read, or nothing.
turns : (turns_left None 2 ≡ 3) × (turns_left (Some None) 2 ≡ 0)
turns = (refl, refl)

-- `has_row`: a row without facts is a row.
rows_or_none : map has_row (Ok (Some []) ∷ Ok (Some (a ∷ [])) ∷ Ok None ∷ Err failed ∷ []) ≡ Ok true ∷ Ok true ∷ Ok false ∷ Err failed ∷ []
rows_or_none = refl

-- `ReadsRows`: one of two rows was read.
one_of_two : ReadsRows 0 (record { rows = (a ∷ []) ∷ (b ∷ []) ∷ []; fault = None }) ((a ∷ []) ∷ []) (Some (record { rows = (b ∷ []) ∷ []; fault = None }))
one_of_two = inl (refl, refl)

-- `ReadsRows`: the reader failed after the first row.
broken : ReadsRows 0 (record { rows = (a ∷ []) ∷ (b ∷ []) ∷ []; fault = None }) ((a ∷ []) ∷ []) (Some (ending (Some (file_fault 0 kind.Read))))
broken = inr (((b ∷ []) ∷ [], refl), file_fault 0 kind.Read, inl refl, refl)

-- ANSWERS over facts (`AnswersFacts`). A block has a prefix of them and loses none.
a_block : AnswersFacts 0 (a ∷ b ∷ a ∷ []) (Ok (Some (a ∷ b ∷ []))) (a ∷ []) None
a_block = refl

a_lost_fact : AnswersFacts 0 (a ∷ b ∷ []) (Ok (Some (a ∷ []))) [] None → ⊥
a_lost_fact h = absurd (cc h)

-- The end is answered if no fact is pending, and then nothing is left.
the_end : AnswersFacts 0 [] (Ok None) [] (Some (ending None))
the_end = (refl, refl, refl)

an_early_end : AnswersFacts 0 (a ∷ []) (Ok None) [] (Some (ending None)) → ⊥
an_early_end h = absurd (cc h.0)

-- A fault is answered after all facts, except Memory for the block of the facts.
a_fault : AnswersFacts 0 [] (Err failed) [] (Some (ending (Some failed)))
a_fault = (refl, refl, inl refl)

an_early_fault : AnswersFacts 0 (a ∷ []) (Err failed) [] (Some (ending (Some failed))) → ⊥
an_early_fault h =
    elim h.2 [
      | inl e ↦ absurd (cc e)
      | inr e ↦ let numbers : 21 ≡ 42 = ap (λ (f : TableFault). number_of f.kind) e in absurd (omega (arith, numbers))
    ]

facts_lost_for_memory : AnswersFacts 0 (a ∷ []) (Err (file_fault 0 kind.Memory)) [] (Some (ending (Some (file_fault 0 kind.Memory))))
facts_lost_for_memory = (refl, refl, inr refl)

-- ROWS (`facts_of_answer`). The facts of an answer are added; a fault has none.
a_row_added : (facts_of_answer (Ok (a ∷ b ∷ [])) ≡ a ∷ b ∷ []) × (facts_of_answer (Err failed) ≡ [])
a_row_added = (refl, refl)

two_facts_added : AddsFacts 0 (Ok (a ∷ b ∷ [])) (b ∷ []) (b ∷ a ∷ b ∷ []) (Ok tt)
two_facts_added = (refl, refl)

one_of_them_lost : AddsFacts 0 (Ok (a ∷ b ∷ [])) [] (a ∷ []) (Ok tt) → ⊥
one_of_them_lost h = absurd (cc h.1)

no_facts_of_a_bad_row : AddsFacts 0 (Err failed) (b ∷ []) (b ∷ []) (Err failed)
no_facts_of_a_bad_row = (refl, inr refl)

a_bad_row_taken : AddsFacts 0 (Err failed) [] [] (Ok tt) → ⊥
a_bad_row_taken h = absurd (cc h.0)

-- PARTS (`with_rest`, `AddsParts`). The first of two facts is added, and the second is left.
abbrev second_left : RowRestValue
second_left = record { next = 1; written = 1; facts = b ∷ [] }

with_what_is_left : (with_rest (a ∷ []) (Some second_left) ≡ a ∷ b ∷ []) × (with_rest (a ∷ []) None ≡ a ∷ [])
with_what_is_left = (refl, refl)

first_added : AddsParts 0 (Ok (a ∷ b ∷ [])) [] (a ∷ []) (Ok (Some second_left))
first_added = (refl, refl)

second_lost : AddsParts 0 (Ok (a ∷ b ∷ [])) [] (a ∷ []) (Ok None) → ⊥
second_lost h = absurd (cc h.1)

no_part_of_a_bad_row : AddsParts 0 (Err failed) (b ∷ []) (b ∷ []) (Err failed)
no_part_of_a_bad_row = (refl, inr refl)

-- `WritesRest`: the texts after the first fact.
second_written : WritesRest (Ok (a ∷ b ∷ [])) 1 (codes "{") (codes "{" ++ behind_commas (b ∷ [])) [] (ends_from 1 (b ∷ []))
second_written = (a ∷ b ∷ [], refl, refl, refl)

-- A row without columns of facts (`row_columns`, `IsRestOf`, `BeginsTexts`, `ContinuesTexts`,
-- `IsLeft`): nothing is left of it, nor written.
abbrev bare : RowValue → RowValue
bare x = record { header = record { report = x.header.report; table = x.header.table; limit = x.header.limit; columns = None ∷ [] }; number = x.number; fields = x.fields }

no_columns : (x : RowValue) → row_columns (bare x) ≡ []
no_columns x = refl

abbrev nothing_left : RowRestValue
nothing_left = record { next = 0; written = 0; facts = [] }

none_left : (x : RowValue) → IsRestOf (bare x) nothing_left
none_left x = record { front = []; before = refl; behind = refl; within = omega arith; count = refl }

none_begun : (x : RowValue) → BeginsTexts (bare x) None [] [] [] []
none_begun x = record { facts = []; are = refl; text = nothing_written.0; ends = nothing_written.1 }

none_continued : (x : RowValue) → ContinuesTexts (bare x) nothing_left None [] [] [] []
none_continued x = nothing_written

short_of_long : (x : RowValue) → IsLeft (bare x) [] (Some nothing_left) → ⊥
short_of_long x h = absurd (omega (arith, h.1, ap length nothing_written.0))

abbrev number_found : Option TableFault → ℕ
number_found None = 0
number_found (Some f) = number_of f.kind

-- READING (`IsBehind`). One of three records was read as a row, and the next has a fault: the third
-- is left. The end is answered if none is left.
abbrev three : List Record
three = ([] ∷ []) ∷ ([] ∷ []) ∷ (codes "c" ∷ []) ∷ []

abbrev twice : TableFault
twice = fault_at 0 2 1 kind.RepeatedRowId

left_behind_a_fault : IsBehind 0 three 1 (Some (Some twice)) (Some ((codes "c" ∷ []) ∷ []))
left_behind_a_fault = inl refl

read_on_behind_a_fault : IsBehind 0 three 1 (Some (Some twice)) (Some []) → ⊥
read_on_behind_a_fault (inl e) = absurd (cc e)
read_on_behind_a_fault (inr (inl e, left)) = let numbers : 30 ≡ 21 = ap (λ (f : TableFault). number_of f.kind) e in absurd (omega (arith, numbers))
read_on_behind_a_fault (inr (inr e, left)) = let numbers : 30 ≡ 42 = ap (λ (f : TableFault). number_of f.kind) e in absurd (omega (arith, numbers))

left_behind_an_end : IsBehind 0 three 3 (Some None) (Some [])
left_behind_an_end = (refl, refl)

an_end_too_early : IsBehind 0 three 2 (Some None) (Some []) → ⊥
an_end_too_early h = absurd (cc h.0)

left_to_read : IsBehind 0 three 2 None (Some ((codes "c" ∷ []) ∷ []))
left_to_read = refl

-- `TakesOne`: one record at a time.
one_more_record : TakesOne 0 three (Ok true) (Some (([] ∷ []) ∷ (codes "c" ∷ []) ∷ []))
one_more_record = refl

rows_counted : CountsRow 2 (Ok true) 1 2 × (CountsRow 2 (Ok false) 2 2 × (CountsRow 2 (Err twice) 1 2 → ⊥))
rows_counted = ((refl, omega arith), (refl, λ h. absurd (omega (arith, h))))

facts_only_with_a_row : AddsNone (Err twice) (a ∷ []) (a ∷ []) None
facts_only_with_a_row = (refl, refl)

-- `GivesFound`: what was found is given once no fact waits.
found_and_given : GivesFound 0 [] (Some twice) (Err twice) (Some (Some twice))
found_and_given = inl (refl, refl)

found_and_forgotten : GivesFound 0 (a ∷ []) (Some twice) (Ok (Some (a ∷ []))) (Some None) → ⊥
found_and_forgotten h = absurd (cc h)

another_fault : GivesFound 0 [] (Some twice) (Err failed) (Some (Some failed)) → ⊥
another_fault (inl h) = let numbers : 30 ≡ 21 = ap number_found h.0 in absurd (omega (arith, numbers))
another_fault (inr h) = absurd (omega (arith, h.1))

-- `KeepsAnswer`: the end or a fault is answered again.
answered_again : KeepsAnswer {A = ℕ} (Ok None) (Some None) × KeepsAnswer {A = ℕ} (Err failed) (Some (Some failed)) × KeepsAnswer {A = ℕ} (Ok (Some 7)) None
    × (KeepsAnswer {A = ℕ} (Ok None) None → ⊥) × (KeepsAnswer {A = ℕ} (Err failed) (Some None) → ⊥)
answered_again = (refl, refl, tt, λ h. absurd (cc h), λ h. absurd (cc h))

waits_for_ever : LeavesNone (Err failed) (a ∷ []) → ⊥
waits_for_ever h = absurd (cc h)

-- HEADS. U+FEFF in UTF-8, the byte-order mark that a reader of records skips once.
mark_of_a_file : mark ≡ encode 0xFEFF
unfolding encode
mark_of_a_file = refl

mark_passed_over : (strip_bom (mark ++ codes "cash") ≡ codes "cash") × (strip_bom (mark ++ mark) ≡ mark)
unfolding strip_bom
mark_passed_over = (refl, refl)

-- `header_in`: the first record is the header, even if it is empty or the only one.
abbrev cash_record : Record
cash_record = codes "cash" ∷ codes "k" ∷ []

first_is_the_header : (header_in (cash_record ∷ ([] ∷ []) ∷ []) ≡ cash_record) × (header_in (([] ∷ []) ∷ cash_record ∷ []) ≡ [] ∷ []) × (header_in [] ≡ [])
first_is_the_header = (refl, refl, refl)

abbrev column : List ℕ → Column
column id = record { id = id; kind = content.Plain; level = no_level; groups = []; from = [] }

-- A report of two tables with a template each.
abbrev report : ReportValue
report = record {
  info = record { base_url = None; taxonomy = [] };
  namespaces = [];
  types = [];
  level = no_level;
  templates = record { id = codes "m"; columns = column (codes "cash") ∷ column (codes "k") ∷ []; row_id_column = None; level = no_level }
      ∷ record { id = codes "n"; columns = column (codes "k") ∷ []; row_id_column = None; level = no_level } ∷ [];
  tables = record { id = codes "t1"; url = codes "t1.csv"; is_optional = false; template = 0; parameters = [] }
      ∷ record { id = codes "t2"; url = codes "t2.csv"; is_optional = false; template = 1; parameters = [] } ∷ [];
  parameters = [];
}

-- `table_header_in`: the first record names the columns of the table's own template, in its order.
-- An empty cell names none.
rows_under_the_header : table_header_in report 0 9 ((codes "k" ∷ [] ∷ codes "cash" ∷ []) ∷ cash_record ∷ []) ≡ record { report = report; table = 0; limit = 9; columns = Some 1 ∷ None ∷ Some 0 ∷ [] }
rows_under_the_header = refl

rows_of_the_second_table : table_header_in report 1 7 ((codes "k" ∷ []) ∷ []) ≡ record { report = report; table = 1; limit = 7; columns = Some 0 ∷ [] }
rows_of_the_second_table = refl
