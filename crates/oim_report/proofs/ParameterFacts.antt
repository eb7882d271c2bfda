-- A parameter by its name, in two joined lists.
use Rattle.std.proofs.Common.{◌≡◌, ◌++◌, ℕ, List, [], ◌∷◌, Bool, true, false, refl}
use Rattle.std.specs.Option.{option_or}
use Rattle.std.specs.Str.{bytes_eq}
use Rattle.oim_names.specs.Lookup.{value_at}

-- The value in two joined lists: that of the first list, else that of the second.
pub value_in_both : {V : Type 0} (name : List ℕ) (first second : List (List ℕ × V)) → value_at name (first ++ second) ≡ option_or (value_at name first) (value_at name second)
value_in_both name [] second = refl
value_in_both name (e ∷ es) second = by (bytes_eq e.0 name) refl (value_in_both name es second)
  where
    by : (b : Bool) → bytes_eq e.0 name ≡ b → value_at name (es ++ second) ≡ option_or (value_at name es) (value_at name second)
        → value_at name ((e ∷ es) ++ second) ≡ option_or (value_at name (e ∷ es)) (value_at name second)
    by true h more = rw h refl
    by false h more = rw h more
