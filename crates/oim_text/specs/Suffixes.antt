-- The accuracy that the suffix of a numeral states. (xBRL-CSV 1.0, the decimals suffix of a
-- numeral)
use Rattle.std.specs.Prelude.{◌≡◌, ℕ, List, ◌∷◌}
use Rattle.oim_cells.specs.Numeral.{IsDecimals}
use Rattle.oim_cells.specs.declared.cells.Accuracy.{Accuracy}

-- `d`, then the decimals.
pub record IsSuffix (s : List ℕ) (a : Accuracy) : Type 0 where
  pub text : List ℕ
  pub marked : s ≡ 100 ∷ text
  pub states : IsDecimals text a
