-- The bytes that end a line of a text file, and a record of a CSV file outside quotes (RFC 4180, as
-- the `csv` crate reads it).
use Rattle.std.specs.Prelude.{ℕ, Bool, ◌==◌, ◌||◌}

-- LF or CR.
abbrev pub ends_line : ℕ → Bool
ends_line c = (c == 10) || (c == 13)
