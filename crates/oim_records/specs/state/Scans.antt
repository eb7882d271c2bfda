-- A scan for cuts, byte by byte.
use Rattle.std.specs.Prelude.{ℕ, List, [], ◌∷◌, ◌+◌, if◌then◌else◌}
use Rattle.oim_records.specs.state.Places.{ends_record, is_between, place_after}
use Rattle.oim_records.specs.declared.csv_state.CsvState.TheVariants as place
use Rattle.oim_records.specs.declared.scan.Scan.{Scan}

-- The number of records ended after a byte.
abbrev pub rows_after : Scan → ℕ → ℕ
rows_after s c = s.rows + (if ends_record s.place c then 1 else 0)

-- The scan after a byte. A position between two records is a cut.
abbrev pub scan_after : Scan → ℕ → Scan
scan_after s c = record {
  place = place_after s.place c;
  seen = s.seen + 1;
  rows = rows_after s c;
  cut = if is_between (place_after s.place c) then s.seen + 1 else s.cut;
  cut_rows = if is_between (place_after s.place c) then rows_after s c else s.cut_rows;
}

-- The scan after these bytes in turn.
unfoldable pub scanned : Scan → List ℕ → Scan
scanned s [] = s
scanned s (c ∷ xs) = scanned (scan_after s c) xs

-- A scan that has seen nothing.
abbrev pub fresh : Scan
fresh = record { place = place.Between; seen = 0; rows = 0; cut = 0; cut_rows = 0 }
