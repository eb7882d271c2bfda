-- One field of a text: what the machine of the `csv` crate reads from its start to its end.
use Rattle.std.specs.Prelude.{◌≡◌, ◌≢◌, ◌+◌, ◌<◌, ◌≤◌, ℕ, List, [], ◌∷◌, ◌++◌, Option, Some, None, true, drop, length, map, slice_index, slice_range}
use Rattle.std.specs.List.{All, prefix_len}
use Rattle.csv.specs.Machine.{next_record}
use Rattle.csv.specs.Reading.{default_config}
use Rattle.csv.specs.declared.parser.State.{State}
use Rattle.csv.specs.declared.parser.State.TheVariants as state
use Rattle.oim_records.specs.state.Bytes.{ends_field, joins_field}
use Rattle.oim_records.specs.Grids.{Field, Record, records_left}
use Rattle.oim_records.specs.declared.field.FieldRange.{FieldRange}

-- Reading `text` from state `s` gives the same as reading `rest` from state `t`, with `joined`
-- appended to the current field.
abbrev pub Joins : State → List ℕ → List ℕ → State → List ℕ → Type 0
Joins s text joined t rest =
    (fields : List Field) (field : Field) → next_record default_config s fields field text ≡ next_record default_config t fields (field ++ joined) rest

-- The text is at its end, or begins with a byte that ends a field.
abbrev pub IsFieldEnd : List ℕ → Type 0
IsFieldEnd rest = 0 < length rest → ends_field (slice_index rest 0) ≡ true

-- The first field of a text, and the text from the field's end on.
pub record IsFirstField (text : List ℕ) (value : Field) (rest : List ℕ) : Type 0 where
  pub reads : Joins state.StartField text value state.InField rest
  pub ends : IsFieldEnd rest

-- The field that begins at `start` has no quotes, and ends at `stop`.
pub record IsPlainEnd (text : List ℕ) (start stop : ℕ) : Type 0 where
  pub unquoted : slice_index text start ≢ 34
  pub end : stop ≡ start + prefix_len joins_field (drop start text)
  pub within : stop ≤ length text

-- A range lies within the first `n` bytes.
abbrev pub IsWithin : ℕ → FieldRange → Type 0
IsWithin n range = (range.start ≤ range.end) × (range.end ≤ n)

abbrev pub field_in : List ℕ → FieldRange → Field
field_in text range = slice_range text range.start range.end

-- The fields in these ranges of a text.
abbrev pub fields_in : List ℕ → List FieldRange → Record
fields_in text ranges = map (field_in text) ranges

-- The first record of a text, and the text after it, whose records are those left.
abbrev pub IsFirstRecord : List ℕ → Record → List ℕ → Type 0
IsFirstRecord text fields rest = records_left state.StartRecord text ≡ fields ∷ records_left state.StartRecord rest

-- The first record of a text is read, and a position after it found, or none is left. The bytes of
-- the record may have changed by then.
abbrev pub ReadsFirst : List ℕ → Record → List ℕ → Option ℕ → Type 0
ReadsFirst old fields now None = records_left state.StartRecord old ≡ []
ReadsFirst old fields now (Some next) = IsFirstRecord old fields (drop next now)

-- The fields of a record, up to the position where the next one begins.
pub record IsReadTo (old now : List ℕ) (ranges : List FieldRange) (from start : ℕ) : Type 0 where
  pub reads : next_record default_config state.StartField [] [] (drop from old) ≡ next_record default_config state.StartField (fields_in now ranges) [] (drop start old)
  pub within : All (IsWithin start) ranges
  pub behind : drop start now ≡ drop start old

-- Fields were read from `start` to `next`: with their ranges added, a record that was read up to
-- `start` is read up to `next`.
abbrev pub ReadsOn : List ℕ → List FieldRange → List FieldRange → ℕ → ℕ → Type 0
ReadsOn now before after start next = (old : List ℕ) (from : ℕ) → IsReadTo old now before from start → IsReadTo old now after from next
