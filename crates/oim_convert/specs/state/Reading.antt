-- A table that is being sent, block after block.
use Rattle.std.specs.Prelude.{◌≡◌, ◌++◌, ℕ, List, Option}
use Rattle.oim_decode.specs.Blocks.{ReadsRows}
use Rattle.oim_resolve.specs.FactParts.{FactParts as Fact}
use Rattle.oim_rows.specs.Streams.{Stream, facts_of_rows}

-- The facts of the rows read so far are those given and those pending, and this stream is left.
pub record IsReading (table : ℕ) (whole : Stream) (given pending : List Fact) (left : Option Stream) : Type 0 where
  pub rows : List (List Fact)
  pub reads : ReadsRows table whole rows left
  pub holds : given ++ pending ≡ facts_of_rows rows
