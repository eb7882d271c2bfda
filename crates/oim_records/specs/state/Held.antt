-- A text in the first bytes of a vector that is read record by record.
use Rattle.std.specs.Prelude.{◌≡◌, ◌≤◌, ℕ, List, Bool, true, length, drop, take}
use Rattle.std.specs.List.{All}
use Rattle.csv.specs.Records.{AllText}
use Rattle.csv.specs.declared.parser.State.TheVariants as state
use Rattle.oim_records.specs.state.Fields.{IsWithin, fields_in}
use Rattle.oim_records.specs.Grids.{records_left}
use Rattle.oim_records.specs.Texts.{AreTexts}
use Rattle.oim_records.specs.declared.field.FieldRange.{FieldRange}

-- The text ends at `end`, the records from `at` on are left, and the fields of the current record
-- are before its end. If `is_text`, all these fields are UTF-8.
abbrev pub Holds : List ℕ → ℕ → ℕ → List FieldRange → Bool → Type 0
Holds bytes end at ranges is_text = (end ≤ length bytes) × (at ≤ end) × All (IsWithin end) ranges
    × (is_text ≡ true → AreTexts (records_left state.StartRecord (drop at (take end bytes))) × AllText (fields_in bytes ranges))
