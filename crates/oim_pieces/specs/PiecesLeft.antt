-- What is left of a table that is read in pieces, and how many steps that takes at most.
use Rattle.std.specs.Prelude.{◌≡◌, ◌+◌, ◌<◌, ◌≤◌, ⊤, ℕ, List, [], length, Option, Some, None, IfSome, option_map, Result, Ok, Err}
use Rattle.oim_resolve.specs.FactParts.{FactParts as Fact}
use Rattle.oim_rows.specs.Streams.{Stream, facts_of_rows}
use Rattle.oim_rows.specs.declared.fault.TableFault.{TableFault}
use Rattle.oim_decode.specs.Blocks.{GivesBlock}

-- What is left of a table. `limit` is the most rows that it may have, and `next` the number of the
-- next row to give. `left` is the stream, if it is known. `answered` is the end or the fault that
-- each further call answers, once it was found. `under_way` counts the pieces that are cut and not
-- joined. `unread` are the bytes after them, if they are known.
pub record PiecesLeft : Type 0 where
  pub table : ℕ
  pub limit : ℕ
  pub next : ℕ
  pub left : Option Stream
  pub answered : Option (Option TableFault)
  pub under_way : ℕ
  pub unread : Option (List ℕ)

-- The answer `blocks` fits a table with stream `s` left: rows of `s` were read, the blocks have
-- their facts, and `left` is what remains.
abbrev pub GivesBlocks : ℕ → Stream → List (List Fact) → Option Stream → Type 0
GivesBlocks table s blocks left = GivesBlock table [] s (Ok (Some (facts_of_rows blocks))) [] left

-- The steps left: one for each byte that is not cut, and one for each piece under way.
abbrev pub steps_for : ℕ → Option (List ℕ) → Option ℕ
steps_for pieces unread = option_map (λ xs. length xs + pieces) unread

-- The steps left of a table.
abbrev pub steps_left : PiecesLeft → Option ℕ
steps_left p = steps_for p.under_way p.unread

-- There are fewer steps than before, if their number was known.
abbrev pub FewerSteps : Option ℕ → Option ℕ → Type 0
FewerSteps None new = ⊤
FewerSteps (Some n) None = ⊥
FewerSteps (Some n) (Some m) = m < n

-- There are no more steps than before, if their number was known.
abbrev pub NoMoreSteps : Option ℕ → Option ℕ → Type 0
NoMoreSteps None new = ⊤
NoMoreSteps (Some n) None = ⊥
NoMoreSteps (Some n) (Some m) = m ≤ n

-- The stream does not change, if it was known.
abbrev pub KeepsStream : Option Stream → Option Stream → Type 0
KeepsStream old new = IfSome old (λ s. new ≡ Some s)
