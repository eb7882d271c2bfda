-- The bytes of an identifier as the program keeps it, and the identifiers that it keeps.
use Rattle.std.specs.Prelude.{◌≡◌, ◌||◌, Bool, ℕ, List, String}
use Rattle.std.specs.BTreeSet.{BTreeSet, contains_text}
use Rattle.std.specs.List.{list_any}
use Rattle.std.specs.Str.{bytes_eq}
use Rattle.std.specs.String.{string_bytes}
use Rattle.oim_rows.specs.declared.row_id.IdText.{IdText}
use Rattle.oim_rows.specs.declared.row_id.IdText.TheVariants as kept

abbrev pub bytes_kept : IdText → List ℕ
bytes_kept (kept.Short s) = s
bytes_kept (kept.Long s) = string_bytes s

-- A text is an identifier of the hash set, or of those in order.
abbrev pub is_kept : {Y : Type 0} → List (List ℕ) → BTreeSet (String Y) → List ℕ → Bool
is_kept hashed ordered id = list_any (bytes_eq id) hashed || contains_text ordered id

-- The identifiers of all rows are those that are kept.
abbrev pub AreAllKept : {Y : Type 0} → List (List ℕ) → List (List ℕ) → BTreeSet (String Y) → Type 0
AreAllKept all hashed ordered = (id : List ℕ) → list_any (bytes_eq id) all ≡ is_kept hashed ordered id
