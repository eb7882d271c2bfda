-- A block of bytes as a scan for cuts sees it: a Bool for each byte.
use Rattle.std.specs.Prelude.{ℕ, List, [], ◌∷◌, ◌+◌, Bool, true, false, not, ◌||◌, ◌==◌, if◌then◌else◌, length}
use Rattle.oim_records.specs.state.Bytes.{ends_field, is_quote}
use Rattle.oim_records.specs.state.Places.{is_between, is_line_end}
use Rattle.oim_records.specs.declared.csv_state.CsvState.{CsvState}
use Rattle.oim_records.specs.declared.csv_state.CsvState.TheVariants as place
use Rattle.oim_records.specs.declared.scan.Scan.{Scan}

-- Whether the first holds and the second does not.
abbrev pub but : Bool → Bool → Bool
but true b = not b
but false b = false

-- Whether a quote opens quotes here.
abbrev pub may_open : CsvState → Bool
may_open place.Between = true
may_open place.FieldStart = true
may_open place.Field = false
may_open place.Quoted = false
may_open place.QuoteSeen = true

-- Whether a quote after this byte opens quotes, if the byte is outside quotes or closes them.
abbrev pub is_opener : ℕ → Bool
is_opener c = ends_field c || is_quote c

-- The place after a byte, given whether the byte leads into quotes.
abbrev pub led : Bool → ℕ → CsvState
led true c = place.Quoted
led false c = if c == 34 then place.QuoteSeen else if c == 44 then place.FieldStart else if is_line_end c then place.Between else place.Field

-- The line ends that do not directly follow another one. Each ends a record.
unfoldable pub firsts : Bool → List Bool → List Bool
firsts before [] = []
firsts before (e ∷ es) = but e before ∷ firsts e es

-- The number of records ended after these bytes, given which of them end a line outside quotes.
unfoldable pub rows_behind : ℕ → Bool → List Bool → ℕ
rows_behind rows before [] = rows
rows_behind rows before (e ∷ es) = rows_behind (rows + (if but e before then 1 else 0)) e es

-- The last position between two records.
unfoldable pub cut_behind : ℕ → ℕ → List Bool → ℕ
cut_behind cut seen [] = cut
cut_behind cut seen (e ∷ es) = cut_behind (if e then seen + 1 else cut) (seen + 1) es

-- The number of records before it.
unfoldable pub cut_rows_behind : ℕ → ℕ → Bool → List Bool → ℕ
cut_rows_behind cut_rows rows before [] = cut_rows
cut_rows_behind cut_rows rows before (e ∷ es) =
    cut_rows_behind (if e then rows + (if but e before then 1 else 0) else cut_rows) (rows + (if but e before then 1 else 0)) e es

-- The scan after a block that leads to a place, given which of its bytes end a line outside quotes.
abbrev pub block_scanned : Scan → CsvState → List Bool → Scan
block_scanned s p es = record {
  place = p;
  seen = s.seen + length es;
  rows = rows_behind s.rows (is_between s.place) es;
  cut = cut_behind s.cut s.seen es;
  cut_rows = cut_rows_behind s.cut_rows s.rows (is_between s.place) es;
}
