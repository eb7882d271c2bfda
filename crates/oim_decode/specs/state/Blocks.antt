-- How the rows of a table are read into blocks, one after another.
use Rattle.std.specs.Prelude.{⊤, ◌≡◌, ◌⊎◌, ◌+◌, ◌≤◌, Bool, true, false, List, [], ◌++◌, drop, ℕ, suc, Option, Some, None, IfSome, Result, Ok, Err}
use Rattle.std.specs.Option.{is_some}
use Rattle.oim_records.specs.Grids.{Record}
use Rattle.oim_resolve.specs.FactParts.{FactParts as Fact}
use Rattle.oim_rows.specs.RowFacts.{TableHeaderValue}
use Rattle.oim_rows.specs.Streams.{GivesNext, IsOutside, Stream, ending, facts_of_rows}
use Rattle.oim_rows.specs.declared.fault.TableFault.{TableFault}
use Rattle.oim_decode.specs.Blocks.{BlocksLeft, ReadsRows}
use Rattle.oim_decode.specs.state.RowParts.{RowRestValue, with_rest}

-- A table's header and how many of its rows were read. For a reader whose bytes are known, also the
-- stream of the other rows and the unread records. `rest` is what is not written yet of the last
-- row.
pub record RowsUnread : Type 0 where
  pub header : TableHeaderValue
  pub given : ℕ
  pub left : Option Stream
  pub unread : Option (List Record)
  pub rest : Option RowRestValue

-- The stream that is left of a table: its end once that was found, else the given stream.
abbrev pub end_or_left : Option (Option TableFault) → Option Stream → Option Stream
end_or_left None s = s
end_or_left (Some end) s = Some (ending end)

-- What is left of a table with these unread rows, these pending facts, and this end or fault, if
-- one was found.
abbrev pub blocks_left : RowsUnread → List Fact → Option (Option TableFault) → BlocksLeft
blocks_left rows facts settled = record {
  table = rows.header.table;
  limit = rows.header.limit;
  given = rows.given;
  pending = with_rest facts rows.rest;
  answered = settled;
  left = end_or_left settled rows.left;
  unread = rows.unread;
}

-- One more row was read and its facts were added to the pending ones; or none was, and the pending
-- facts are as before.
abbrev pub AddsRow : ℕ → Stream → List Fact → List Fact → Result Bool TableFault → Option Stream → Type 0
AddsRow table s before after (Ok true) left = (facts : List Fact) × (after ≡ before ++ facts) × GivesNext table s (Ok (Some facts)) left
AddsRow table s before after (Ok false) left = (after ≡ before) × GivesNext table s (Ok None) left
AddsRow table s before after (Err e) left = (after ≡ before) × GivesNext table s (Err e) left

-- One more of the records left was read as a row; or none is left; or the record that was read
-- settles the table; or the reader failed or memory ran out, and then none is left.
abbrev pub TakesOne : ℕ → List Record → Result Bool TableFault → Option (List Record) → Type 0
TakesOne table rs (Ok true) unread = unread ≡ Some (drop 1 rs)
TakesOne table rs (Ok false) unread = (rs ≡ []) × (unread ≡ Some [])
TakesOne table rs (Err e) unread = (unread ≡ Some (drop 1 rs)) ⊎ (IsOutside table e × (unread ≡ Some []))

-- The count grows by one if a row was read, and stays within the limit.
abbrev pub CountsRow : ℕ → Result Bool TableFault → ℕ → ℕ → Type 0
CountsRow limit (Ok true) before after = (after ≡ before + 1) × (after ≤ limit)
CountsRow limit (Ok false) before after = after ≡ before
CountsRow limit (Err e) before after = after ≡ before

-- Facts are added or left only with a row.
abbrev pub AddsNone : Result Bool TableFault → List Fact → List Fact → Option RowRestValue → Type 0
AddsNone (Ok true) before after rest = ⊤
AddsNone (Ok false) before after rest = (after ≡ before) × (rest ≡ None)
AddsNone (Err e) before after rest = (after ≡ before) × (rest ≡ None)

-- The answer for a row without its facts: whether there is a row, or the fault.
abbrev pub has_row : Result (Option (List Fact)) TableFault → Result Bool TableFault
has_row (Ok facts) = Ok (is_some facts)
has_row (Err e) = Err e

-- Rows of a stream were read, and their facts wait after those that waited before.
abbrev pub HasRead : ℕ → Stream → List Fact → List Fact → Option Stream → Type 0
HasRead table s before pending left = (rows : List (List Fact)) × ReadsRows table s rows left × (pending ≡ before ++ facts_of_rows rows)

abbrev pub HasReadOn : BlocksLeft → BlocksLeft → Type 0
HasReadOn old new = IfSome old.left (λ s. HasRead old.table s old.pending new.pending new.left)

-- At most how many more records are read, if at most n more rows are allowed.
abbrev pub turns_left : Option (Option TableFault) → ℕ → ℕ
turns_left None n = suc n
turns_left (Some answer) n = 0
