-- A fact, as contracts see it. (Open Information Model 1.0, simple facts and their dimensions)
use Rattle.std.specs.Prelude.{ℕ, ℤ, List, Option}

-- Its identifier, the text of its value (`None` for nil), its decimals, and each dimension with its
-- value (`None` for nil).
pub record FactParts : Type 0 where
  pub id : List ℕ
  pub value : Option (List ℕ)
  pub decimals : Option ℤ
  pub dimensions : List (List ℕ × Option (List ℕ))
