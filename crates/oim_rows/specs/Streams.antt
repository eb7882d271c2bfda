-- A table's stream: all its facts, row by row, up to its first fault. (xBRL-CSV 1.0, table files:
-- the first record is the header, row n is the nth record after it)
use Rattle.std.specs.Prelude.{⊤, List, [], ◌∷◌, ◌≡◌, ◌⊎◌, ℕ, ◌+◌, if◌then◌else◌, Option, Some, None, Result, Ok, Err}
use Rattle.std.specs.List.{flat_map}
use Rattle.oim_records.specs.Grids.{Field, Record, grid}
use Rattle.oim_report.specs.Readers.{columns_of, table_of}
use Rattle.oim_report.specs.ReportValue.{ReportValue}
use Rattle.oim_records.specs.declared.read_fault.ReadFault.{ReadFault}
use Rattle.oim_records.specs.declared.read_fault.ReadFault.TheVariants as read
use Rattle.oim_resolve.specs.FactParts.{FactParts as Fact}
use Rattle.oim_rows.specs.Header.{Header, file_fault, header_fault, header_of}
use Rattle.oim_rows.specs.RowFacts.{TableHeaderValue, id_place_of, ids_after, row_result}
use Rattle.oim_rows.specs.declared.fault.TableFault.{TableFault}
use Rattle.oim_rows.specs.declared.fault.TableKind.TheVariants as kind

-- The facts of each row before the first bad one, and the first fault.
pub record Stream : Type 0 where
  pub rows : List (List Fact)
  pub fault : Option TableFault

-- The facts of rows, row after row.
abbrev pub facts_of_rows : List (List Fact) → List Fact
facts_of_rows rows = flat_map (λ row. row) rows

-- All facts of a stream.
abbrev pub facts_of : Stream → List Fact
facts_of s = facts_of_rows s.rows

abbrev pub ending : Option TableFault → Stream
ending f = record { rows = []; fault = f }

abbrev pub row_in_front : Result (List Fact) TableFault → Stream → Stream
row_in_front (Err e) s = ending (Some e)
row_in_front (Ok facts) s = record { rows = facts ∷ s.rows; fault = s.fault }

-- The rows from number `n` on, if the rows before them have the identifiers `ids`.
unfoldable pub stream_from : TableHeaderValue → ℕ → List Field → List Record → Stream
stream_from g n ids [] = ending None
stream_from g n ids (r ∷ rows) = row_in_front (row_result g n ids r) (stream_from g (n + 1) (ids_after (id_place_of g) ids r) rows)

-- The table header that this header record gives.
abbrev pub table_header_of : ReportValue → ℕ → ℕ → Record → TableHeaderValue
table_header_of report table limit r = record { report = report; table = table; limit = limit; columns = header_of (columns_of report table) r }

-- The stream of a table whose file has these records, with a limit of rows.
abbrev pub stream_of : ReportValue → ℕ → ℕ → List Record → Stream
stream_of report table limit [] = ending (Some (file_fault table kind.NoHeader))
stream_of report table limit (r ∷ rows) = under (header_fault report table r)
  where
    under : Option TableFault → Stream
    under (Some e) = ending (Some e)
    under None = stream_from (table_header_of report table limit r) 1 [] rows

-- The stream of a table that has no file. It is empty, with a fault unless the table is optional.
abbrev pub no_file : ReportValue → ℕ → Stream
no_file report table = ending (if (table_of report table).is_optional then None else Some (file_fault table kind.NoFile))

-- The stream of a table whose file has these bytes, or that has no file.
abbrev pub table_stream : ReportValue → ℕ → ℕ → Option (List ℕ) → Stream
table_stream report table limit None = no_file report table
table_stream report table limit (Some bytes) = stream_of report table limit (grid bytes)

-- The reader failed, or memory ran out.
abbrev pub IsOutside : ℕ → TableFault → Type 0
IsOutside table e = (e ≡ file_fault table kind.Read) ⊎ (e ≡ file_fault table kind.Memory)

-- The fault of a table whose reader failed.
abbrev pub fault_of_read : ℕ → ReadFault → TableFault
fault_of_read table read.Read = file_fault table kind.Read
fault_of_read table read.Memory = file_fault table kind.Memory

-- The answer, unless memory ran out.
abbrev pub OrNoMemory : {A : Type 0} → ℕ → Result A TableFault → Result A TableFault → Type 0
OrNoMemory table result answer = (result ≡ Err (file_fault table kind.Memory)) ⊎ (result ≡ answer)

-- A result of a table with this stream: the next row, with the stream after it, or the end or the
-- fault of the stream. The reader may also have failed, or memory run out.
abbrev pub GivesNext : ℕ → Stream → Result (Option (List Fact)) TableFault → Option Stream → Type 0
GivesNext table s (Ok (Some facts)) None = ⊥
GivesNext table s (Ok (Some facts)) (Some rest) = s ≡ row_in_front (Ok facts) rest
GivesNext table s (Ok None) after = s ≡ ending None
GivesNext table s (Err e) after = IsOutside table e ⊎ (s ≡ ending (Some e))

-- What later calls repeat after a result.
abbrev pub kept_answer : Result (Option (List Fact)) TableFault → Option (Option TableFault)
kept_answer (Ok (Some facts)) = None
kept_answer (Ok None) = Some None
kept_answer (Err e) = Some (Some e)

-- The result of a table that has ended: its end, or its fault.
abbrev pub answer_of : {A : Type 0} → Option TableFault → Result (Option A) TableFault
answer_of None = Ok None
answer_of (Some e) = Err e

-- The columns of the first of the records left, a header without a fault.
abbrev pub TakesHeader : ReportValue → ℕ → Option (List Record) → Header → Option (List Record) → Type 0
TakesHeader report table None h after = ⊤
TakesHeader report table (Some []) h after = ⊥
TakesHeader report table (Some (r ∷ rows)) h after = (header_fault report table r ≡ None) × (h ≡ header_of (columns_of report table) r) × (after ≡ Some rows)
