-- A record of the file of faults while it is written, field after field.
use Rattle.std.specs.Prelude.{◌≡◌, [], ◌∷◌, ◌++◌}
use Rattle.csv.specs.Records.{Row, fields_of, partial_of}
use Rattle.oim_records.specs.Grids.{Field}

-- A record with one more field.
abbrev pub PutsField : Row → Row → Field → Type 0
PutsField before after field = (fields_of after ≡ fields_of before ++ field ∷ []) × (partial_of after ≡ [])
