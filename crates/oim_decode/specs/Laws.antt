-- Two calls of a table, one after the other.
use Rattle.std.specs.Prelude.{⊤, ◌≡◌, List, [], Option, Some, None, IfSome, Result, Ok, Err}
use Rattle.oim_resolve.specs.FactParts.{FactParts as Fact}
use Rattle.oim_rows.specs.Streams.{answer_of}
use Rattle.oim_rows.specs.declared.fault.TableFault.{TableFault}
use Rattle.oim_decode.specs.Blocks.{BlocksLeft, KeepsAnswer, LeavesNone}

-- What the contract of `next_block` promises over any reader: which answer is kept, that no fact
-- waits after the end or a fault, and that a settled table answers the same again.
pub record IsCall (old : BlocksLeft) (result : Result (Option (List Fact)) TableFault) (new : BlocksLeft) : Type 0 where
  pub kept : KeepsAnswer result new.answered
  pub none : LeavesNone result new.pending
  pub again : IfSome old.answered (λ kept. old.pending ≡ [] → (result ≡ answer_of kept) × (new ≡ old))

-- The answer is the end or a fault.
abbrev pub IsLast : Result (Option (List Fact)) TableFault → Type 0
IsLast (Ok (Some block)) = ⊥
IsLast (Ok None) = ⊤
IsLast (Err e) = ⊤

-- After the end or a fault the next call has the same answer, and does not change the table.
abbrev pub SameTwice : Type 0
SameTwice = (a b c : BlocksLeft) (first second : Result (Option (List Fact)) TableFault) → IsCall a first b → IsCall b second c → IsLast first → (second ≡ first) × (c ≡ b)
