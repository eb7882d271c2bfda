-- What a reader of pieces has left, and the record that it finds.
use Rattle.std.specs.Prelude.{◌≡◌, ⊤, List, [], ◌∷◌, Bool, true, false, Option, Some, None, if◌then◌else◌}
use Rattle.oim_records.specs.Grids.{Record}
use Rattle.oim_records.specs.PieceTaking.{TextLeft}
use Rattle.oim_records.specs.Reads.{left_behind}

-- The records that are left: none once the file has ended.
abbrev pub left_in : Bool → List Record → TextLeft → Option (List Record)
left_in ended piece text = if ended then Some [] else left_behind piece text

-- A record is the next one of those left, if they were known.
abbrev pub TakesFound : Option (List Record) → Bool → Record → Option (List Record) → Type 0
TakesFound None found r after = ⊤
TakesFound (Some []) found r after = found ≡ false
TakesFound (Some (x ∷ rest)) found r after = (found ≡ true) × (r ≡ x) × (after ≡ Some rest)
