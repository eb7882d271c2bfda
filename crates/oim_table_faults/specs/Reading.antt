-- What a reader of the bad rows of a table answers: each with its faults, in row order, and then
-- the end.
use Rattle.std.specs.Prelude.{⊤, ◌≡◌, ◌⊎◌, List, [], ◌∷◌, ◌++◌, ℕ, Option, Some, None, Result, Ok, Err, IfSome, slice_get}
use Rattle.oim_records.specs.Grids.{Record, grid}
use Rattle.oim_report.specs.ReportValue.{ReportValue}
use Rattle.oim_rows.specs.Header.{file_header_fault}
use Rattle.oim_rows.specs.Streams.{IsOutside}
use Rattle.oim_rows.specs.declared.fault.TableFault.{TableFault}
use Rattle.oim_table_faults.specs.TableFaults.{bad_rows_of, faults_of_rows, table_faults}

-- What is left of a table. `given` counts the rows that were read. `answered` is the end, or the
-- failure of the reader or of memory, once it was found. `left` are the bad rows that are left, if
-- the reader's bytes are known and nothing failed. `unread` are the records left in the reader,
-- `file` its bytes, if they are known, and `row` the current row.
pub record FaultsLeft : Type 0 where
  pub table : ℕ
  pub limit : ℕ
  pub given : ℕ
  pub answered : Option (Option TableFault)
  pub left : Option (List (List TableFault))
  pub unread : Option (List Record)
  pub file : Option (List ℕ)
  pub row : Record

-- The current row is the file's row of this number.
abbrev pub IsCurrent : Option (List ℕ) → ℕ → Record → Type 0
IsCurrent file number row = IfSome file (λ bytes. slice_get (grid bytes) number ≡ Some row)

-- The table, its limit and its file are the same.
abbrev pub KeepsTable : FaultsLeft → FaultsLeft → Type 0
KeepsTable old new = (new.table ≡ old.table) × (new.limit ≡ old.limit) × (new.file ≡ old.file)

-- An answer if these bad rows are left: the first one, and the others remain; or the end, if none
-- is left. Or the reader failed or memory ran out.
abbrev pub GivesBadRow : ℕ → List (List TableFault) → Result (Option (List TableFault)) TableFault → Option (List (List TableFault)) → Type 0
GivesBadRow table rows (Ok (Some faults)) None = ⊥
GivesBadRow table rows (Ok (Some faults)) (Some later) = rows ≡ faults ∷ later
GivesBadRow table rows (Ok None) left = rows ≡ []
GivesBadRow table rows (Err e) left = IsOutside table e

-- The end or a failure is what further calls answer.
abbrev pub KeepsEnd : Result (Option (List TableFault)) TableFault → Option (Option TableFault) → Type 0
KeepsEnd (Ok (Some faults)) answered = ⊤
KeepsEnd (Ok None) answered = answered ≡ Some None
KeepsEnd (Err e) answered = answered ≡ Some (Some e)

-- The faults of the first bad rows of a file, and then the failure of the reader or of memory. The
-- reader may fail before the header was read.
pub record IsCutShort (report : ReportValue) (table limit : ℕ) (bytes : List ℕ) (faults : List TableFault) : Type 0 where
  pub front : List (List TableFault)
  pub rest : List (List TableFault)
  pub failure : TableFault
  pub outside : IsOutside table failure
  pub begins : (front ≡ []) ⊎ ((file_header_fault report table (grid bytes) ≡ None) × (bad_rows_of report table limit (grid bytes) ≡ front ++ rest))
  pub faults_are : faults ≡ faults_of_rows front ++ failure ∷ []

-- All faults of a table whose file has these bytes, unless the reader failed or memory ran out.
abbrev pub IsFaultList : ReportValue → ℕ → ℕ → List ℕ → List TableFault → Type 0
IsFaultList report table limit bytes faults = (faults ≡ table_faults report table limit (Some bytes)) ⊎ IsCutShort report table limit bytes faults
