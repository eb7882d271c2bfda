-- Names in byte order.
use Rattle.std.specs.Prelude.{ℕ, List}
use Rattle.std.specs.Ordering.{nat_cmp}
use Rattle.std.specs.Cmp.Lexicographic.{slice_cmp}
use Rattle.std.specs.List.Sorted.{IsStrictlySortedBy}

-- Each name is below the names after it, in byte order.
abbrev pub IsRising : List (List ℕ) → Type 0
IsRising = IsStrictlySortedBy (slice_cmp nat_cmp)
