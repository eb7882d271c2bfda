-- A file whose lines are counted while its records are passed.
use Rattle.std.specs.Prelude.{⊤, ◌≡◌, ◌≤◌, ◌+◌, ◌++◌, ℕ, false, List, [], ◌∷◌, Option, Some, None, drop, fold, length, take}
use Rattle.std.specs.Io.KnownBytes.{prepend_known}
use Rattle.csv.specs.Reading.{strip_bom}
use Rattle.oim_places.specs.LineNumbers.{after_byte, counter_for}
use Rattle.oim_places.specs.declared.line_number.LineCounter.{LineCounter}

-- The counter for the record that many after this one's.
abbrev pub further : ℕ → LineCounter → LineCounter
further records c = record c { before = c.before + records }

-- The counter for the next record, right after one has begun.
abbrev pub resumed : LineCounter → LineCounter
resumed c = record c { has_begun = false }

-- The record begins with the last of the first `count` bytes, and not before.
abbrev pub StopsAt : LineCounter → List ℕ → ℕ → Type 0
StopsAt c bytes count = (front : List ℕ) × (last : ℕ) × (take count bytes ≡ front ++ last ∷ []) × ((fold after_byte c front).has_begun ≡ false)

-- The counter has passed the bytes of a file that are not left, after its byte-order mark.
abbrev pub CountsOn : ℕ → Option (List ℕ) → Option (List ℕ) → LineCounter → Type 0
CountsOn number None left c = ⊤
CountsOn number (Some bytes) None c = ⊥
CountsOn number (Some bytes) (Some left) c = (passed : List ℕ) × (strip_bom bytes ≡ passed ++ left) × (c ≡ fold after_byte (counter_for number) passed)

-- The bytes of a file, if they are known, and the number of the next record that can be found.
pub record FileLines : Type 0 where
  pub file : Option (List ℕ)
  pub next : ℕ

-- What is left of a piece and what is after it are not passed yet.
pub record IsOn (file : Option (List ℕ)) (next : ℕ) (c : LineCounter) (piece : List ℕ) (at : ℕ) (behind : Option (List ℕ)) : Type 0 where
  pub within : at ≤ length piece
  pub looks : c.has_begun ≡ false
  pub counts : CountsOn next file (prepend_known (drop at piece) behind) c
