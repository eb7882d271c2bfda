-- The field of a record at an index.
use Rattle.std.proofs.Common.{◌≡◌, ℕ, zero, suc, List, [], ◌∷◌, Option, Some, refl, sym, ap, ◌∙◌}
use Rattle.std.specs.List.{slice_get}
use Rattle.std.specs.Option.{unwrap_or}
use Rattle.csv.specs.Records.{field_at}
use Rattle.oim_records.specs.Grids.{Record}
use Rattle.oim_rows.specs.RowFacts.{field_or_empty}

pub field_there : (r : Record) (p : ℕ) → field_at r p ≡ slice_get r p
unfolding field_at
field_there [] p = refl
field_there (f ∷ fs) zero = refl
field_there (f ∷ fs) (suc p) = field_there fs p

-- A field that was found at an index, or was not.
pub found : (r : Record) (p : ℕ) (o : Option (List ℕ)) → o ≡ slice_get r p → unwrap_or o [] ≡ field_or_empty r (Some p)
found r p o e = ap (λ x. unwrap_or x []) (e ∙ sym (field_there r p))
