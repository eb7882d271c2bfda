-- What a reader of a table's blocks answers: the table's facts in order, block after block, and
-- then its end or its first fault.
use Rattle.std.specs.Prelude.{⊤, ◌≡◌, ◌⊎◌, ◌+◌, ◌-◌, ◌≤◌, List, [], ◌++◌, drop, length, ℕ, Option, Some, None, IfSome, Result, Ok, Err}
use mathlib.Core.List.{IsPrefix}
use Rattle.oim_records.specs.Grids.{Record}
use Rattle.oim_resolve.specs.FactParts.{FactParts as Fact}
use Rattle.oim_rows.specs.Header.{file_fault}
use Rattle.oim_rows.specs.Streams.{IsOutside, Stream, ending, facts_of_rows}
use Rattle.oim_rows.specs.declared.fault.TableFault.{TableFault}
use Rattle.oim_rows.specs.declared.fault.TableKind.TheVariants as kind

-- What is left of a table. `given` counts the rows that were read. `pending` are the facts of these
-- rows that were not given. `left` is the stream after them, if it is known, and `unread` are the
-- records left in the reader. Once the table is settled, `answered` is the answer of each call that
-- finds no pending fact.
pub record BlocksLeft : Type 0 where
  pub table : ℕ
  pub limit : ℕ
  pub given : ℕ
  pub pending : List Fact
  pub answered : Option (Option TableFault)
  pub left : Option Stream
  pub unread : Option (List Record)

-- The rows were read from stream `s`, and `left` remains: the rest of `s`, or only a fault if the
-- reader failed or memory ran out.
abbrev pub ReadsRows : ℕ → Stream → List (List Fact) → Option Stream → Type 0
ReadsRows table s rows None = ⊥
ReadsRows table s rows (Some rest) =
    ((s.rows ≡ rows ++ rest.rows) × (s.fault ≡ rest.fault)) ⊎ (IsPrefix rows s.rows × (e : TableFault) × IsOutside table e × (rest ≡ ending (Some e)))

-- An answer over the facts that were pending or read: a prefix of them in a block; or, if there are
-- none, the end or a fault. Facts are lost only if memory runs out for their block.
abbrev pub AnswersFacts : ℕ → List Fact → Result (Option (List Fact)) TableFault → List Fact → Option Stream → Type 0
AnswersFacts table facts (Ok (Some block)) pending left = facts ≡ block ++ pending
AnswersFacts table facts (Ok None) pending left = (facts ≡ []) × (pending ≡ []) × (left ≡ Some (ending None))
AnswersFacts table facts (Err e) pending left = (pending ≡ []) × (left ≡ Some (ending (Some e))) × ((facts ≡ []) ⊎ (e ≡ file_fault table kind.Memory))

-- An answer when facts `before` were pending and stream `s` was left: some rows of `s` were read,
-- and the answer is over all these facts.
pub record GivesBlock (table : ℕ) (before : List Fact) (s : Stream) (result : Result (Option (List Fact)) TableFault) (pending : List Fact) (left : Option Stream) : Type 0 where
  pub rows : List (List Fact)
  pub reads : ReadsRows table s rows left
  pub answers : AnswersFacts table (before ++ facts_of_rows rows) result pending left

-- The end or a fault is what further calls answer.
abbrev pub KeepsAnswer : {A : Type 0} → Result (Option A) TableFault → Option (Option TableFault) → Type 0
KeepsAnswer (Ok (Some block)) answered = ⊤
KeepsAnswer (Ok None) answered = answered ≡ Some None
KeepsAnswer (Err e) answered = answered ≡ Some (Some e)

-- The records left after n of `rs` were read as rows: those after them. The end is found only
-- if none are left. At a fault those after the faulty record are left, unless the reader failed or
-- memory ran out.
abbrev pub IsBehind : ℕ → List Record → ℕ → Option (Option TableFault) → Option (List Record) → Type 0
IsBehind table rs n None unread = unread ≡ Some (drop n rs)
IsBehind table rs n (Some None) unread = (drop n rs ≡ []) × (unread ≡ Some [])
IsBehind table rs n (Some (Some e)) unread = (unread ≡ Some (drop (n + 1) rs)) ⊎ (IsOutside table e × ((unread ≡ Some (drop n rs)) ⊎ (unread ≡ Some [])))

-- What was read of an unsettled table: its rows, and nothing after the record that settled it.
abbrev pub ReadsBehind : BlocksLeft → BlocksLeft → Type 0
ReadsBehind old new = IfSome old.unread (λ rs. IsBehind old.table rs (new.given - old.given) new.answered new.unread)

-- No fact waits after the end or a fault.
abbrev pub LeavesNone : Result (Option (List Fact)) TableFault → List Fact → Type 0
LeavesNone (Ok (Some block)) pending = ⊤
LeavesNone (Ok None) pending = pending ≡ []
LeavesNone (Err e) pending = pending ≡ []

-- An answer after the end or a fault was found: a prefix of the facts that waited, and what was
-- found is kept; or what was found, if none waited; or Memory, for those that waited.
abbrev pub GivesFound : ℕ → List Fact → Option TableFault → Result (Option (List Fact)) TableFault → Option (Option TableFault) → Type 0
GivesFound table pending found (Ok (Some block)) answered = answered ≡ Some found
GivesFound table pending found (Ok None) answered = (found ≡ None) × (pending ≡ [])
GivesFound table pending found (Err e) answered = ((found ≡ Some e) × (pending ≡ [])) ⊎ ((e ≡ file_fault table kind.Memory) × (1 ≤ length pending))

-- A settled table gives what was found, and reads nothing.
abbrev pub KeepsFound : BlocksLeft → Result (Option (List Fact)) TableFault → BlocksLeft → Type 0
KeepsFound old result new = IfSome old.answered (λ found. GivesFound old.table old.pending found result new.answered × (new.given ≡ old.given) × (new.unread ≡ old.unread))
