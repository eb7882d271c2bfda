-- The records of a CSV file (RFC 4180, read as the `csv` crate reads it), counted byte by byte: a
-- line end outside quotes ends a record, blank lines do not count, and one byte-order mark is
-- passed.
use Rattle.std.specs.Prelude.{ℕ, ◌+◌, ◌==◌, ◌||◌, nat_lt, Bool, true, false, if◌then◌else◌, List, [], ◌∷◌}
use Rattle.xbrl_json_cli.specs.declared.record_count.RecordCount.{RecordCount}
use Rattle.xbrl_json_cli.specs.declared.record_count.RecordState.{RecordState}
use Rattle.xbrl_json_cli.specs.declared.record_count.RecordState.TheVariants as state

abbrev pub is_line_end : ℕ → Bool
is_line_end c = (c == 10) || (c == 13)

-- The state after a byte in a field.
abbrev pub in_field : ℕ → RecordState
in_field c = if c == 44 then state.FieldStart else if is_line_end c then state.Between else state.Field

-- The state after a byte at the start of a field.
abbrev pub at_field : ℕ → RecordState
at_field c = if c == 34 then state.Quoted else in_field c

-- The state after a byte.
abbrev pub state_after : RecordState → ℕ → RecordState
state_after state.Start c = if c == 239 then state.MarkBegun else at_field c
state_after state.MarkBegun c = if c == 187 then state.MarkHalf else in_field c
state_after state.MarkHalf c = if c == 191 then state.Between else in_field c
state_after state.Between c = at_field c
state_after state.FieldStart c = at_field c
state_after state.Field c = in_field c
state_after state.Quoted c = if c == 34 then state.QuoteSeen else state.Quoted
state_after state.QuoteSeen c = if c == 34 then state.Quoted else in_field c

-- Whether a byte ends a record.
abbrev pub ends_record : RecordState → ℕ → Bool
ends_record state.Start c = false
ends_record state.Between c = false
ends_record state.Quoted c = false
ends_record state.MarkBegun c = is_line_end c
ends_record state.MarkHalf c = is_line_end c
ends_record state.FieldStart c = is_line_end c
ends_record state.Field c = is_line_end c
ends_record state.QuoteSeen c = is_line_end c

-- One more, up to the largest number of 64 bits.
abbrev pub one_more : ℕ → ℕ
one_more n = if nat_lt n 18446744073709551615 then n + 1 else 18446744073709551615

-- The count after a byte, and after these bytes in turn.
abbrev pub count_after : RecordCount → ℕ → RecordCount
count_after n c = record { state = state_after n.state c; ended = if ends_record n.state c then one_more n.ended else n.ended }

abbrev pub all_passed : RecordCount → List ℕ → RecordCount
all_passed n [] = n
all_passed n (c ∷ rest) = all_passed (count_after n c) rest

-- Whether a record has begun and not ended.
abbrev pub is_begun : RecordState → Bool
is_begun state.Start = false
is_begun state.Between = false
is_begun state.MarkBegun = true
is_begun state.MarkHalf = true
is_begun state.FieldStart = true
is_begun state.Field = true
is_begun state.Quoted = true
is_begun state.QuoteSeen = true

-- The records of a file that ends after this count.
abbrev pub records_in : RecordCount → ℕ
records_in n = if is_begun n.state then one_more n.ended else n.ended
