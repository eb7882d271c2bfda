-- What contracts see of a growing text.
use Rattle.std.specs.Prelude.{ℕ, List}

-- Its bytes.
pub record BufferText : Type 0 where
  pub items : List ℕ
