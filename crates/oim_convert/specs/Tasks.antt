-- The histories of tables that were served, and of tables that were not.
use Rattle.std.specs.Prelude.{ℕ, suc, Bool, true, false, List, [], ◌∷◌, Option}
use Rattle.oim_report.specs.ReportValue.{ReportValue}
use Rattle.oim_ring.specs.declared.item.Item.{Item}
use Rattle.oim_rows.specs.Streams.{table_stream}
use Rattle.oim_records.specs.Reads.{IsFileOf}
use Rattle.oim_convert.specs.Histories.{IsDecoded, IsUnserved}

-- P holds of each element and its number, counted from n.
abbrev pub Each : {X : Type 0} → (ℕ → X → Type 0) → ℕ → List X → Type 0
Each P n [] = Unit {0}
Each P n (x ∷ xs) = P n x × Each P (suc n) xs

module _ {R : Type 0} where
  -- The history of a table: decoded from its file, if it was served and contracts see its reader's
  -- bytes.
  abbrev pub IsKept : (R → Option (List ℕ)) → ReportValue → ℕ → Bool → ℕ → Option R → List Item → Type 0
  IsKept told report limit true table reader history = (file : Option (List ℕ)) → IsFileOf told reader file → IsDecoded table (table_stream report table limit file) history
  IsKept told report limit false table reader history = IsUnserved table history
