-- What cutting a table's file into pieces leaves.
use Rattle.std.specs.Prelude.{◌≡◌, ◌++◌, ◌+◌, ◌≤◌, ⊤, ℕ, List, [], length, Option, Some, None, IfSome}
use Rattle.oim_records.specs.Grids.{Record}
use Rattle.oim_rows.specs.Streams.{IsOutside}
use Rattle.oim_rows.specs.declared.fault.TableFault.{TableFault}

-- What a cutter has left. `next` is the number of the next row. `left` are the records and `unread`
-- the bytes that are not cut, if they are known. `over` is the end or the fault once nothing more
-- is cut.
pub record CutterLeft : Type 0 where
  pub table : ℕ
  pub limit : ℕ
  pub next : ℕ
  pub left : Option (List Record)
  pub over : Option (Option TableFault)
  pub unread : Option (List ℕ)

-- The records, or the bytes, that are left in a reader. After the end none are.
abbrev pub left_over : {A : Type 0} → Option (Option TableFault) → Option (List A) → Option (List A)
left_over None left = left
left_over (Some None) left = Some []
left_over (Some (Some e)) left = left

-- No record is left, or a fault from outside the table ends it.
abbrev pub IsOver : ℕ → Option (List Record) → Option TableFault → Type 0
IsOver table left None = IfSome left (λ records. records ≡ [])
IsOver table left (Some e) = IsOutside table e

-- The records that were left, if known, are those of the piece and then `new`.
abbrev pub TakesRows : Option (List Record) → List Record → Option (List Record) → Type 0
TakesRows None piece new = ⊤
TakesRows (Some records) piece None = ⊥
TakesRows (Some records) piece (Some rest) = records ≡ piece ++ rest

-- The bytes that were left, if known, are at least as many as those of the piece and `new`. Pieces
-- without a record are passed over.
abbrev pub HasAtLeast : Option (List ℕ) → List ℕ → Option (List ℕ) → Type 0
HasAtLeast None piece new = ⊤
HasAtLeast (Some xs) piece None = ⊥
HasAtLeast (Some xs) piece (Some ys) = length piece + length ys ≤ length xs
