-- The buffer of a text: what is within it, and what of it stays.
use Rattle.std.specs.Prelude.{◌+◌, ◌<◌, ◌≤◌, ℕ, List, length, ◌≡◌, take}

-- A text of `len` bytes is within the buffer, with 32 more bytes if it is not empty.
pub record IsPadded (len : ℕ) (memory : List ℕ) : Type 0 where
  pub within : len ≤ length memory
  pub behind : 0 < len → len + 32 ≤ length memory

-- The bytes before a position of the buffer stay.
pub record Stays (old new : List ℕ) (at : ℕ) : Type 0 where
  pub front : take at new ≡ take at old
  pub len : length new ≡ length old
