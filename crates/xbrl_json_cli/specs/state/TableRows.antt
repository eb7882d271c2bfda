-- The records of a CSV file (RFC 4180), and the rows of a table.
use Rattle.std.specs.Prelude.{ℕ, ◌-◌, List}
use Rattle.xbrl_json_cli.specs.RecordCounts.{all_passed, records_in}
use Rattle.xbrl_json_cli.specs.declared.record_count.RecordState.TheVariants as state

-- The records of a file.
abbrev pub records_of : List ℕ → ℕ
records_of bytes = records_in (all_passed (record { state = state.Start; ended = 0 }) bytes)

-- The rows of a table: its records without the header.
abbrev pub rows_of : List ℕ → ℕ
rows_of bytes = records_of bytes - 1
