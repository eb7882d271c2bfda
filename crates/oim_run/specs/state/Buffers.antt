-- The bytes that a writer holds, with those that wait before it.
use Rattle.std.specs.Prelude.{ℕ, nat_le, if◌then◌else◌, List, ◌∷◌, ◌++◌, Option, Some, None, length}

-- The count of bytes that a writer held at first, then its present bytes, then the waiting bytes;
-- if it holds at least as many as at first.
abbrev pub told_since : ℕ → List ℕ → List ℕ → Option (List ℕ)
told_since first now waiting = if nat_le first (length now) then Some (first ∷ (now ++ waiting)) else None

-- The same, if contracts see the writer's bytes.
abbrev pub told_behind : Option (List ℕ) → Option (List ℕ) → List ℕ → Option (List ℕ)
told_behind None now waiting = None
told_behind (Some first) None waiting = None
told_behind (Some first) (Some now) waiting = told_since (length first) now waiting
