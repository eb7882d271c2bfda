-- The number of workers that a conversion on threads accepts.
use Rattle.std.specs.Prelude.{◌≤◌, ℕ}

-- The largest number of workers.
abbrev pub most_workers : ℕ
most_workers = 64

-- The count of workers: at least one, and at most `most_workers`.
abbrev pub IsWorkerCount : ℕ → Type 0
IsWorkerCount workers = (1 ≤ workers) × (workers ≤ most_workers)
