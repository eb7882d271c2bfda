-- The sizes of a ring.
use Rattle.std.specs.Prelude.{◌≤◌, ℕ}

-- The largest size of a ring, in blocks.
abbrev pub largest_ring : ℕ
largest_ring = 65_536

-- The size of a ring: room for at least one block and at most `largest_ring` blocks.
abbrev pub IsRingSize : ℕ → Type 0
IsRingSize size = (1 ≤ size) × (size ≤ largest_ring)
