-- The rows of a table that a reader of it has left.
use Rattle.std.specs.Prelude.{List, ℕ, Option}
use Rattle.oim_records.specs.Grids.{Record}
use Rattle.oim_rows.specs.Streams.{Stream}
use Rattle.oim_rows.specs.declared.fault.TableFault.{TableFault}

-- `given` is the number of rows returned so far. `answered` is the result that each further call
-- repeats once it is settled: the end, or a fault. `left` is the stream that is left, if the
-- reader's bytes are known and nothing is settled. `unread` are the records left in the reader.
pub record RowsLeft : Type 0 where
  pub table : ℕ
  pub limit : ℕ
  pub given : ℕ
  pub answered : Option (Option TableFault)
  pub left : Option Stream
  pub unread : Option (List Record)
