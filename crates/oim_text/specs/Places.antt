-- Bytes that are written at a position of a buffer.
use Rattle.std.specs.Prelude.{◌≡◌, ◌+◌, ◌++◌, ℕ, List, length, take}

-- The bytes `xs` follow the first `at` bytes of the old buffer, up to `end`. The bytes after them
-- have no meaning.
pub record Placed (old new : List ℕ) (at : ℕ) (xs : List ℕ) (end : ℕ) : Type 0 where
  pub bytes : take end new ≡ take at old ++ xs
  pub moved : end ≡ at + length xs
  pub len : length new ≡ length old
