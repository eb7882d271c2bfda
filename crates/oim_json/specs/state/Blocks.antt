-- What a block keeps.
use Rattle.std.specs.Prelude.{◌≡◌, ◌≤◌, ℕ, List, length}
use Rattle.oim_resolve.specs.FactParts.{FactParts as Fact}
use Rattle.oim_json.specs.Blocks.{behind_commas, ends_from}

-- A block of 1 to 256 facts keeps their texts, each after a comma, and where each ends.
abbrev pub IsBlockOf : List ℕ → List ℕ → List Fact → Type 0
IsBlockOf bytes ends facts = (bytes ≡ behind_commas facts) × (ends ≡ ends_from 0 facts) × (1 ≤ length facts) × (length facts ≤ 256)
