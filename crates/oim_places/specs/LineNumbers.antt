-- The line of a file at which a record begins. Records are those of `grid`: commas separate fields,
-- inside quotes a quote is doubled, LF, CR or CRLF ends a record, and an empty line is not a
-- record. A line ends with LF, CR or CRLF, also inside quotes.
use Rattle.std.specs.Prelude.{◌≡◌, ◌≤◌, ◌++◌, drop, length, ℕ, ◌+◌, ◌-◌, ◌^◌, min, Bool, false, not, ◌&&◌, nat_eq, List, ◌∷◌, Option, Some, None, IfSome, fold, if◌then◌else◌}
use Rattle.csv.specs.Reading.{strip_bom}
use Rattle.csv.specs.declared.parser.State.TheVariants as state
use Rattle.oim_records.specs.Grids.{grid, records_left}
use Rattle.oim_records.specs.Lines.{ends_line}
use Rattle.oim_places.specs.declared.line_number.LineCounter.{LineCounter}
use Rattle.oim_places.specs.declared.line_number.Spot.{Spot}
use Rattle.oim_places.specs.declared.line_number.Spot.TheVariants.{Between, Start, Field, Quoted, Quote}

-- Where the byte after this one is. This one is not a quote, and is outside of quotes.
abbrev pub after_plain : ℕ → Spot
after_plain b = if ends_line b then Between else if nat_eq b 44 then Start else Field

-- Where the byte after a quote is.
abbrev pub after_quote : Spot → Spot
after_quote Between = Quoted
after_quote Start = Quoted
after_quote Field = Field
after_quote Quoted = Quote
after_quote Quote = Quoted

-- Where the byte after any other byte is.
abbrev pub after_other : Spot → ℕ → Spot
after_other Between b = after_plain b
after_other Start b = after_plain b
after_other Field b = after_plain b
after_other Quoted b = Quoted
after_other Quote b = after_plain b

abbrev pub after_spot : Spot → ℕ → Spot
after_spot s b = if nat_eq b 34 then after_quote s else after_other s b

-- A record begins with this byte.
abbrev pub begins : Spot → ℕ → Bool
begins Between b = not (ends_line b)
begins Start b = false
begins Field b = false
begins Quoted b = false
begins Quote b = false

-- The line of the byte after this one. LF after CR ends no further line. The number has 64 bits.
abbrev pub line_behind_byte : ℕ → Bool → ℕ → ℕ
line_behind_byte line after_cr b = if ends_line b && not (after_cr && nat_eq b 10) then min (line + 1) (2 ^ 64 - 1) else line

abbrev pub line_after : LineCounter → ℕ → ℕ
line_after c b = line_behind_byte c.line c.after_cr b

-- The counter one byte on, before the record begins.
abbrev pub one_byte_on : LineCounter → ℕ → LineCounter
one_byte_on c b = record {
  spot = after_spot c.spot b;
  after_cr = nat_eq b 13;
  line = line_after c b;
  before = if begins c.spot b then c.before - 1 else c.before;
  has_begun = nat_eq c.before 0 && begins c.spot b;
}

-- Once it has begun nothing changes.
abbrev pub after_byte : LineCounter → ℕ → LineCounter
after_byte c b = if c.has_begun then c else one_byte_on c b

-- The counter for the record with this number, before the first byte.
abbrev pub counter_for : ℕ → LineCounter
counter_for number = record { spot = Between; after_cr = false; line = 1; before = number; has_begun = false }

abbrev pub line_in : LineCounter → Option ℕ
line_in c = if c.has_begun then Some c.line else None

-- The line at which the record with this number begins, the header being 0.
abbrev pub line_of_record : ℕ → List ℕ → Option ℕ
line_of_record number bytes = line_in (fold after_byte (counter_for number) (strip_bom bytes))

-- The line, if there is one, is that at which this record begins.
abbrev pub IsLineOf : ℕ → List ℕ → Option ℕ → Type 0
IsLineOf number bytes line = IfSome line (λ n. line_of_record number bytes ≡ Some n)

-- ---- what a line is

-- The line of the byte after one more, and whether a CR is before it.
abbrev pub next_line : ℕ × Bool → ℕ → ℕ × Bool
next_line at b = (line_behind_byte at.0 at.1 b, nat_eq b 13)

-- The line at which the text after these bytes begins.
abbrev pub line_behind : List ℕ → ℕ
line_behind front = (fold next_line (1, false) front).0

-- The record of this number begins at this line. After the bytes that end the lines before it is
-- a text that does not begin with a line's end, and whose records are the file's from this one on.
pub record BeginsAt (bytes : List ℕ) (number line : ℕ) : Type 0 where
  pub front : List ℕ
  pub first : ℕ
  pub rest : List ℕ
  pub split : strip_bom bytes ≡ front ++ first ∷ rest
  pub text : ends_line first ≡ false
  pub records : records_left state.StartRecord (first ∷ rest) ≡ drop number (grid bytes)
  pub counted : line ≡ line_behind front

-- Each record begins at its line, and a number that has no line is that of no record.
abbrev pub HasLine : List ℕ → ℕ → Option ℕ → Type 0
HasLine bytes number None = length (grid bytes) ≤ number
HasLine bytes number (Some line) = BeginsAt bytes number line

abbrev pub LineLaw : Type 0
LineLaw = (number : ℕ) (bytes : List ℕ) → HasLine bytes number (line_of_record number bytes)
