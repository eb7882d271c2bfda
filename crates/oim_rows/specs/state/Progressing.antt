-- What a reader of a table's rows has left.
use Rattle.std.specs.Prelude.{List, ℕ, Option, Some, None, option_map}
use Rattle.oim_records.specs.Grids.{Field, Record}
use Rattle.oim_rows.specs.RowFacts.{TableHeaderValue}
use Rattle.oim_rows.specs.Streams.{Stream, stream_from}
use Rattle.oim_rows.specs.declared.fault.TableFault.{TableFault}

-- The stream of the records from row `n` on, unless the end or a fault was found.
abbrev pub left_of : Option (Option TableFault) → TableHeaderValue → ℕ → List Field → Option (List Record) → Option Stream
left_of None g n ids records = option_map (stream_from g n ids) records
left_of (Some end) g n ids records = None
