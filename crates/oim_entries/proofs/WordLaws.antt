-- The value of a word in a table whose values are made of another's.
use Rattle.std.proofs.Common.{◌≡◌, ℕ, List, [], ◌∷◌, Bool, true, false, refl, map, option_map}
use Rattle.std.specs.Str.{bytes_eq}
use Rattle.oim_names.specs.Lookup.{value_at}

pub value_of_map : {V W : Type 0} (f : V → W) (w : List ℕ) (es : List (List ℕ × V)) → value_at w (map (λ e. (e.0, f e.1)) es) ≡ option_map f (value_at w es)
value_of_map f w [] = refl
value_of_map {V} {W} f w (e ∷ es) = by (bytes_eq e.0 w) refl (value_of_map f w es)
  where
    by : (b : Bool) → bytes_eq e.0 w ≡ b → value_at w (map (λ e. (e.0, f e.1)) es) ≡ option_map f (value_at w es)
        → value_at w (map (λ e. (e.0, f e.1)) (e ∷ es)) ≡ option_map f (value_at w (e ∷ es))
    by true h same = rw h refl
    by false h same = rw (h, same) refl
