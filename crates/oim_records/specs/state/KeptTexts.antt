-- A text as its file has it, if quotes are taken out of it in place.
use Rattle.std.specs.Prelude.{◌≡◌, ◌<◌, ◌≤◌, ℕ, List, [], ◌∷◌, Option, Some, None, drop, length, take}
use Rattle.csv.specs.declared.parser.State.TheVariants as state
use Rattle.oim_records.specs.Grids.{Record, records_left}

-- The file's text, if it is known: the text itself, or what was kept before it changed.
abbrev pub file_text : Option (Option (List ℕ)) → List ℕ → Option (List ℕ)
file_text None text = Some text
file_text (Some kept) text = kept

-- The file's text is the same, or it is lost.
abbrev pub KeepsFile : Option (List ℕ) → Option (List ℕ) → Type 0
KeepsFile old new = (file : List ℕ) → new ≡ Some file → old ≡ Some file

-- The record is the first of these.
abbrev pub IsFirstOf : List Record → Record → Type 0
IsFirstOf [] r = ⊥
IsFirstOf (x ∷ rest) r = r ≡ x

-- A record with a field is the first record of a text.
abbrev pub BeginsWith : List ℕ → Record → Type 0
BeginsWith text r = 0 < length r → IsFirstOf (records_left state.StartRecord text) r

-- The file's text: as long as the text, the same from `at` on, and its record at `start`, if it
-- has a field, is the current record.
pub record IsKeptFileOf (text : List ℕ) (at start : ℕ) (current : Record) (file : List ℕ) : Type 0 where
  pub long : length file ≡ length text
  pub left : drop at file ≡ drop at text
  pub begins : BeginsWith (drop start file) current

-- A text that ends at `end`, past `start`, and what is kept of it: if the file's text is known, the
-- current record begins at `start` in it.
abbrev pub HoldsFile : Option (Option (List ℕ)) → List ℕ → ℕ → ℕ → ℕ → Record → Type 0
HoldsFile kept bytes end at start current = (start ≤ end) × ((file : List ℕ) → file_text kept (take end bytes) ≡ Some file → IsKeptFileOf (take end bytes) at start current file)
