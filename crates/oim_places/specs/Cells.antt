-- What is in a cell of a file that is read again, and in a whole record, as a terminal shows it.
use Rattle.std.specs.Prelude.{◌&&◌, ℕ, List, [], ◌∷◌, ◌++◌, Option, Some, None, codes, flat_map, length, nat_le, nat_lt, take, if◌then◌else◌}
use Rattle.std.specs.Fmt.{decimal}
use Rattle.std.specs.Str.{is_utf8}
use Rattle.oim_records.specs.Grids.{Field, Record}
use Rattle.oim_places.specs.Shown.{escape_of, excerpt_of, in_quotes}

-- A byte of a field that is not UTF-8: itself if it is a printable ASCII character, else \x and its
-- two hexadecimal digits.
abbrev pub byte_shown : ℕ → List ℕ
byte_shown b = if nat_le 32 b && nat_lt b 127 then b ∷ [] else escape_of b

-- A field as a text.
abbrev pub as_text : Field → List ℕ
as_text field = if is_utf8 field then field else flat_map byte_shown field

-- How many bytes are shown of a field that is not UTF-8.
abbrev pub most_bytes : ℕ
most_bytes = 80

-- The beginning of a field that is not UTF-8; two dots replace the rest.
abbrev pub bytes_excerpt : Field → List ℕ
bytes_excerpt field =
    if nat_lt most_bytes (length field) then flat_map byte_shown (take most_bytes field) ++ codes ".." else flat_map byte_shown field

-- The beginning of a field.
abbrev pub field_excerpt : Field → List ℕ
field_excerpt field = if is_utf8 field then excerpt_of field else bytes_excerpt field

-- What is in a cell.
abbrev pub cell_text : Option Field → List ℕ
cell_text None = codes "(nothing)"
cell_text (Some field) = in_quotes (field_excerpt field)

-- What a record has as a whole: how many cells.
abbrev pub record_text : Record → List ℕ
record_text fields = codes "(a record of " ++ (decimal (length fields) ++ codes ")")
