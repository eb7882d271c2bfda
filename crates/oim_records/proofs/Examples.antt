-- The definitions on small texts, one for each rule. The expected values are those of RFC 4180. For
-- a text that RFC 4180 does not allow, and for empty lines, they are those of Rust's `csv` crate
-- with headers off and records of any length.
use Rattle.std.proofs.Common.{◌≡◌, ◌++◌, ℕ, zero, suc, List, [], ◌∷◌, Bool, true, false, Some, None, codes, map, refl, arith}
use Rattle.std.specs.List.{All, list_all, list_any}
use Rattle.std.specs.Str.{chars, is_utf8}
use Rattle.csv.specs.Machine.{next_record}
use Rattle.csv.specs.Reading.{records_from, strip_bom}
use Rattle.csv.specs.declared.parser.State.TheVariants as state
use Rattle.oim_records.specs.state.Bits.{differ, is_odd_below, is_set}
use Rattle.oim_records.specs.state.Blocks.{block_scanned, but, cut_behind, cut_rows_behind, firsts, is_opener, led, may_open, rows_behind}
use Rattle.oim_records.specs.Lines.{ends_line}
use Rattle.oim_records.specs.state.Bytes.{begins_none, begins_pair, ends_field, is_comma, is_quote, joins_field, is_unquoted, is_ascii, is_high}
use Rattle.oim_records.specs.Cuts.{ended, is_between, state_after}
use Rattle.oim_records.specs.state.Fields.{IsReadTo, IsWithin, ReadsFirst, fields_in}
use Rattle.oim_records.specs.Grids.{Record, grid, records_left}
use Rattle.oim_records.specs.state.KeptStates.{kept_in}
use Rattle.oim_records.specs.state.KeptTexts.{BeginsWith, file_text}
use Rattle.oim_records.specs.declared.kept_text.Kept.TheVariants as kept
use Rattle.oim_records.specs.PieceTaking.{bytes_left}
use Rattle.oim_records.specs.Pieces.{unread}
use Rattle.oim_records.specs.state.Places as places
use Rattle.oim_records.specs.state.Places.{at_field, ends_record, in_text, is_line_end, is_quoted, place_after, place_of}
use Rattle.oim_records.specs.state.Reads.{left_in}
use Rattle.oim_records.specs.state.Scans.{fresh, scanned}
use Rattle.oim_records.specs.Texts.{is_not_text}
use Rattle.oim_records.specs.declared.field.FieldRange.{FieldRange}
use Rattle.oim_records.specs.declared.csv_state.CsvState.TheVariants as place
use Rattle.oim_records.specs.declared.scan.Scan.{Scan}

-- LINES (RFC 4180, 2.1 and 2.2): CR LF ends a record, and so do LF and CR on their own. The last
-- record needs no line end.
abbrev two_rows : List Record
two_rows = (codes "a" ∷ codes "b" ∷ []) ∷ (codes "c" ∷ codes "d" ∷ []) ∷ []

cr_lf : grid (codes "a,b\r\nc,d\r\n") ≡ two_rows
unfolding records_left records_from next_record strip_bom
cr_lf = refl

lf : grid (codes "a,b\nc,d\n") ≡ two_rows
unfolding records_left records_from next_record strip_bom
lf = refl

cr : grid (codes "a,b\rc,d\r") ≡ two_rows
unfolding records_left records_from next_record strip_bom
cr = refl

no_last_line_end : grid (codes "a,b\r\nc,d") ≡ two_rows
unfolding records_left records_from next_record strip_bom
no_last_line_end = refl

empty_lines : grid (codes "\n\r\na,b\n\n\r\r\nc,d\r\n\r\n") ≡ two_rows
unfolding records_left records_from next_record strip_bom
empty_lines = refl

no_records : (grid [] ≡ []) × (grid (codes "\r\n\n\r") ≡ [])
unfolding records_left records_from next_record strip_bom
no_records = (refl, refl)

-- THE FIRST RECORD: none is left after line ends. Otherwise the position is the one after its line.
none_first : ReadsFirst (codes "\r\n\n") [] (codes "\r\n\n") None
unfolding records_left records_from next_record
none_first = refl

one_first : ReadsFirst (codes "\na,b\nc") (codes "a" ∷ codes "b" ∷ []) (codes "\na,b\nc") (Some 5)
unfolding records_left records_from next_record
one_first = refl

-- FIELDS (2.3 and 2.4): spaces are part of a field, records may differ in length, and an empty
-- field counts.
spaces : grid (codes " a , b\n") ≡ (codes " a " ∷ codes " b" ∷ []) ∷ []
unfolding records_left records_from next_record strip_bom
spaces = refl

lengths : grid (codes "a\nb,c\n,\n,,") ≡ (codes "a" ∷ []) ∷ (codes "b" ∷ codes "c" ∷ []) ∷ ([] ∷ [] ∷ []) ∷ ([] ∷ [] ∷ [] ∷ []) ∷ []
unfolding records_left records_from next_record strip_bom
lengths = refl

-- QUOTES (2.5 to 2.7): commas and line ends may be inside quotes, and a quote is doubled there.
quoted : grid (codes "\"a\",\"b,c\"\r\n\"d\r\ne\"\r\n") ≡ (codes "a" ∷ codes "b,c" ∷ []) ∷ (codes "d\r\ne" ∷ []) ∷ []
unfolding records_left records_from next_record strip_bom
quoted = refl

doubled : grid (codes "\"a\"\"b\",\"\"\"\",\"\",x\n") ≡ (codes "a\"b" ∷ codes "\"" ∷ [] ∷ codes "x" ∷ []) ∷ []
unfolding records_left records_from next_record strip_bom
doubled = refl

-- What RFC 4180 does not allow: a quote in the middle of a field is an ordinary byte, text after a
-- closing quote joins the field, and quotes that stay open reach to the end.
quote_in_the_middle : grid (codes "a\"b\"\"c,\"\nd") ≡ (codes "a\"b\"\"c" ∷ codes "\nd" ∷ []) ∷ []
unfolding records_left records_from next_record strip_bom
quote_in_the_middle = refl

text_behind_a_quote : grid (codes "\"a\"b\"c\"\"\" d,e\n") ≡ (codes "ab\"c\"\"\" d" ∷ codes "e" ∷ []) ∷ []
unfolding records_left records_from next_record strip_bom
text_behind_a_quote = refl

open_quotes : (grid (codes "a\n\"b,c\nd") ≡ (codes "a" ∷ []) ∷ (codes "b,c\nd" ∷ []) ∷ []) × (grid (codes "\"") ≡ ([] ∷ []) ∷ [])
unfolding records_left records_from next_record strip_bom
open_quotes = (refl, refl)

-- A BYTE-ORDER MARK: one at the start is skipped, even before a quote. A second or later one is
-- text.
abbrev mark : List ℕ
mark = 0xEF ∷ 0xBB ∷ 0xBF ∷ []

skipped_mark : grid (mark ++ codes "\"a,b\"\n") ≡ (codes "a,b" ∷ []) ∷ []
unfolding records_left records_from next_record strip_bom
skipped_mark = refl

kept_marks : (grid (mark ++ mark ++ codes "a") ≡ ((mark ++ codes "a") ∷ []) ∷ []) × (grid (codes "a\n" ++ mark) ≡ (codes "a" ∷ []) ∷ (mark ∷ []) ∷ [])
unfolding records_left records_from next_record strip_bom
kept_marks = (refl, refl)

-- CUTS: a text can be cut after a line's end, between its CR and LF too, and at its start, but not
-- inside quotes or inside a record.
abbrev can_cut : List ℕ → Bool
can_cut text = is_between (state_after state.StartRecord text)

cuts : list_all can_cut ([] ∷ codes "a\n" ∷ codes "a\r" ∷ codes "a\r\n" ∷ codes "\n" ∷ codes "\"a\"\n" ∷ codes "\"a\nb\"\r" ∷ codes "a\"b\n" ∷ []) ≡ true
unfolding state_after
cuts = refl

no_cuts : list_any can_cut (codes "a" ∷ codes "a," ∷ codes "a\nb" ∷ codes "\"a\n" ∷ codes "\"a\r\n" ∷ codes "\"a\"" ∷ codes "\"a\"\"\n" ∷ codes "a,\"\n" ∷ []) ≡ false
unfolding state_after
no_cuts = refl

ended_records : map (ended state.StartRecord) ([] ∷ codes "a" ∷ codes "a\nb\n" ∷ codes "a\r\n" ∷ codes "\n\na\n\n\nb" ∷ codes "\"a\nb\"\nc" ∷ codes "\"a\n" ∷ []) ≡ 0 ∷ 0 ∷ 2 ∷ 1 ∷ 1 ∷ 1 ∷ 0 ∷ []
unfolding ended
ended_records = refl

-- Where the last whole record ends, and how many end before it.
abbrev after_all : List ℕ → Scan
after_all text = scanned fresh text

last_whole_record : after_all (codes "a,b\r\n1,\"x\ny\"\r\n2,z") ≡ record { place = place.Field; seen = 17; rows = 2; cut = 14; cut_rows = 2 }
unfolding scanned
last_whole_record = refl

cut_before_open_quotes : after_all (codes "a\n\n\"b\nc\"\"\n") ≡ record { place = place.Quoted; seen = 10; rows = 1; cut = 3; cut_rows = 1 }
unfolding scanned
cut_before_open_quotes = refl

no_whole_record : after_all (codes "a,\"b\n") ≡ record { place = place.Quoted; seen = 5; rows = 0; cut = 0; cut_rows = 0 }
unfolding scanned
no_whole_record = refl

empty_lines_are_cuts : after_all (codes "\r\n\n") ≡ record { place = place.Between; seen = 3; rows = 0; cut = 3; cut_rows = 0 }
unfolding scanned
empty_lines_are_cuts = refl

whole_text : after_all (codes "a\r\"b\"\n") ≡ record { place = place.Between; seen = 6; rows = 2; cut = 6; cut_rows = 2 }
unfolding scanned
whole_text = refl

-- THE SCAN'S PLACES, one for each of the machine's states that the default settings reach.
places_of_states : map place_of (state.StartRecord ∷ state.AfterCr ∷ state.StartField ∷ state.InField ∷ state.InQuoted ∷ state.AfterQuote ∷ state.InEscape ∷ state.InComment ∷ [])
    ≡ place.Between ∷ place.Between ∷ place.FieldStart ∷ place.Field ∷ place.Quoted ∷ place.QuoteSeen ∷ place.Field ∷ place.Field ∷ []
places_of_states = refl

-- A comma, a quote, LF, CR and an `a` in each place.
abbrev letters : List ℕ
letters = codes ",\"\n\ra"

led_to : map (λ p. map (place_after p) letters) (place.Between ∷ place.FieldStart ∷ place.Field ∷ place.Quoted ∷ place.QuoteSeen ∷ [])
    ≡ (place.FieldStart ∷ place.Quoted ∷ place.Between ∷ place.Between ∷ place.Field ∷ [])
    ∷ (place.FieldStart ∷ place.Quoted ∷ place.Between ∷ place.Between ∷ place.Field ∷ [])
    ∷ (place.FieldStart ∷ place.Field ∷ place.Between ∷ place.Between ∷ place.Field ∷ [])
    ∷ (place.Quoted ∷ place.QuoteSeen ∷ place.Quoted ∷ place.Quoted ∷ place.Quoted ∷ [])
    ∷ (place.FieldStart ∷ place.Quoted ∷ place.Between ∷ place.Between ∷ place.Field ∷ []) ∷ []
led_to = refl

ends : map (λ p. map (ends_record p) letters) (place.Between ∷ place.FieldStart ∷ place.Field ∷ place.Quoted ∷ place.QuoteSeen ∷ [])
    ≡ (false ∷ false ∷ false ∷ false ∷ false ∷ []) ∷ (false ∷ false ∷ true ∷ true ∷ false ∷ []) ∷ (false ∷ false ∷ true ∷ true ∷ false ∷ []) ∷ (false ∷ false ∷ false ∷ false ∷ false ∷ [])
    ∷ (false ∷ false ∷ true ∷ true ∷ false ∷ []) ∷ []
ends = refl

between_places : map places.is_between (place.Between ∷ place.FieldStart ∷ place.Field ∷ place.Quoted ∷ place.QuoteSeen ∷ []) ≡ true ∷ false ∷ false ∷ false ∷ false ∷ []
between_places = refl

quoted_places : map is_quoted (place.Between ∷ place.FieldStart ∷ place.Field ∷ place.Quoted ∷ place.QuoteSeen ∷ []) ≡ false ∷ false ∷ false ∷ true ∷ false ∷ []
quoted_places = refl

-- BITS: 5 has the lowest bit and the bit two above it.
bits : (map (is_set 5) (0 ∷ 1 ∷ 2 ∷ 3 ∷ []) ≡ true ∷ false ∷ true ∷ false ∷ []) × (map (is_odd_below 5) (0 ∷ 1 ∷ 2 ∷ 3 ∷ []) ≡ false ∷ true ∷ true ∷ false ∷ [])
unfolding is_odd_below is_set
bits = (refl, refl)

either_alone : (map (differ true) (true ∷ false ∷ []) ≡ false ∷ true ∷ []) × (map (differ false) (true ∷ false ∷ []) ≡ true ∷ false ∷ [])
either_alone = (refl, refl)

-- BLOCKS
first_alone : (map (but true) (true ∷ false ∷ []) ≡ false ∷ true ∷ []) × (map (but false) (true ∷ false ∷ []) ≡ false ∷ false ∷ [])
first_alone = (refl, refl)

openings : (map is_opener letters ≡ true ∷ true ∷ true ∷ true ∷ false ∷ [])
    × (map may_open (place.Between ∷ place.FieldStart ∷ place.Field ∷ place.Quoted ∷ place.QuoteSeen ∷ []) ≡ true ∷ true ∷ false ∷ false ∷ true ∷ [])
openings = (refl, refl)

led_by_letters : (map (led false) letters ≡ place.FieldStart ∷ place.QuoteSeen ∷ place.Between ∷ place.Between ∷ place.Field ∷ []) × (map (led true) (codes ",a") ≡ place.Quoted ∷ place.Quoted ∷ [])
led_by_letters = (refl, refl)

-- The first of consecutive line ends ends a record, unless another one directly precedes the block.
first_ends : (firsts false (true ∷ true ∷ false ∷ true ∷ []) ≡ true ∷ false ∷ false ∷ true ∷ []) × (firsts true (true ∷ true ∷ false ∷ true ∷ []) ≡ false ∷ false ∷ false ∷ true ∷ [])
unfolding firsts
first_ends = (refl, refl)

scanned_blocks : (block_scanned (record { place = place.Field; seen = 4; rows = 1; cut = 2; cut_rows = 1 }) place.Quoted (false ∷ true ∷ true ∷ false ∷ []) ≡ record { place = place.Quoted; seen = 8; rows = 2; cut = 7; cut_rows = 2 })
    × (block_scanned (record { place = place.Between; seen = 4; rows = 1; cut = 4; cut_rows = 1 }) place.Field (true ∷ false ∷ []) ≡ record { place = place.Field; seen = 6; rows = 1; cut = 5; cut_rows = 1 })
    × (block_scanned (record { place = place.Field; seen = 4; rows = 1; cut = 2; cut_rows = 1 }) place.Field (false ∷ false ∷ []) ≡ record { place = place.Field; seen = 6; rows = 1; cut = 2; cut_rows = 1 })
unfolding rows_behind cut_behind cut_rows_behind
scanned_blocks = (refl, refl, refl)

-- BYTES
field_ends : (map ends_field letters ≡ true ∷ false ∷ true ∷ true ∷ false ∷ []) × (map joins_field letters ≡ false ∷ true ∷ false ∷ false ∷ true ∷ [])
field_ends = (refl, refl)

line_ends : (map ends_line letters ≡ false ∷ false ∷ true ∷ true ∷ false ∷ []) × (map is_line_end letters ≡ false ∷ false ∷ true ∷ true ∷ false ∷ [])
line_ends = (refl, refl)

quotes : (map is_quote letters ≡ false ∷ true ∷ false ∷ false ∷ false ∷ []) × (map is_unquoted letters ≡ true ∷ false ∷ true ∷ true ∷ true ∷ [])
quotes = (refl, refl)

commas : map is_comma letters ≡ true ∷ false ∷ false ∷ false ∷ false ∷ []
commas = refl

-- UTF-8: bytes above 127 are not ASCII.
high_bytes : (map is_high (0 ∷ 127 ∷ 128 ∷ 255 ∷ []) ≡ false ∷ false ∷ true ∷ true ∷ []) × (map is_ascii (0 ∷ 127 ∷ 128 ∷ 255 ∷ []) ≡ true ∷ true ∷ false ∷ false ∷ [])
high_bytes = (refl, refl)

-- UTF-8 (RFC 3629, 4): a two-byte character is %xC2-DF and one of %x80-BF.
character_bytes :
    (map begins_pair (0 ∷ 0xC1 ∷ 0xC2 ∷ 0xDF ∷ 0xE0 ∷ []) ≡ false ∷ false ∷ true ∷ true ∷ false ∷ [])
    × (map begins_none (0 ∷ 0x7F ∷ 0x80 ∷ 0xBF ∷ 0xC0 ∷ []) ≡ false ∷ false ∷ true ∷ true ∷ false ∷ [])
character_bytes = (refl, refl)

texts : map is_not_text ([] ∷ codes "a" ∷ (0xC3 ∷ 0xA9 ∷ []) ∷ (0xC3 ∷ []) ∷ (0xFF ∷ []) ∷ []) ≡ false ∷ false ∷ false ∷ true ∷ true ∷ []
unfolding chars is_utf8 lib.Utf8.encode
texts = refl

-- RANGES OF FIELDS, and what is left of a text, a piece and a file.
field_places : fields_in (codes "ab,cd") (record { start = 0; end = 2 } ∷ record { start = 3; end = 5 } ∷ record { start = 5; end = 5 } ∷ []) ≡ codes "ab" ∷ codes "cd" ∷ [] ∷ []
field_places = refl

-- Two fields of a record are read, and the third begins.
abbrev two_places : List FieldRange
two_places = record { start = 0; end = 2 } ∷ record { start = 3; end = 5 } ∷ []

two_read : IsReadTo (codes "ab,cd,e\n") (codes "ab,cd,e\n") two_places 0 6
unfolding next_record
two_read = record { reads = refl; within = λ k d lt. each k d lt; behind = refl }
  where
    each : All (IsWithin 6) two_places
    each zero d lt = (omega arith, omega arith)
    each (suc zero) d lt = (omega arith, omega arith)
    each (suc (suc k)) d lt = absurd (omega arith)

nothing_read : unread two_rows ≡ record { left = two_rows; fields = [] }
nothing_read = refl

known_bytes : (bytes_left (record { held = codes "ab"; behind = Some (codes "c") }) ≡ Some (codes "abc")) × (bytes_left (record { held = codes "ab"; behind = None }) ≡ None)
known_bytes = (refl, refl)

left_of_a_file : (left_in false ((codes "x" ∷ []) ∷ []) (record { held = codes "a,b\nc"; behind = Some (codes ",d") }) ≡ Some ((codes "x" ∷ []) ∷ two_rows))
    × (left_in false [] (record { held = codes "a"; behind = None }) ≡ None) × (left_in true two_rows (record { held = codes "a"; behind = None }) ≡ Some [])
unfolding records_left records_from next_record
left_of_a_file = (refl, refl, refl)

-- THE FILE'S TEXT: the text itself while it has not changed, else its copy, unless that is lost.
file_texts : (file_text None (codes "a") ≡ Some (codes "a")) × (file_text (Some (Some (codes "b"))) (codes "a") ≡ Some (codes "b")) × (file_text (Some None) (codes "a") ≡ None)
file_texts = (refl, refl, refl)

kept_states : (kept_in kept.Unchanged (codes "a") ≡ None) × (kept_in kept.Copied (codes "a") ≡ Some (Some (codes "a"))) × (kept_in kept.Lost (codes "a") ≡ Some None)
kept_states = (refl, refl, refl)

record_begins : BeginsWith (codes "\na,b\nc") (codes "a" ∷ codes "b" ∷ [])
unfolding records_left records_from next_record
record_begins some = refl

later_record : BeginsWith (codes "a\nc") (codes "c" ∷ []) → codes "c" ∷ [] ≡ codes "a" ∷ []
unfolding records_left records_from next_record
later_record h = h (omega arith)
