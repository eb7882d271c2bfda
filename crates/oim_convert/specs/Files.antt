-- The files of a report's tables, by their readers.
use Rattle.std.specs.Prelude.{⊤, ℕ, List, [], ◌∷◌, Option}
use Rattle.oim_records.specs.Reads.{IsFileOf}

-- The files of the readers, one for each.
abbrev pub AreFilesOf : {R : Type 0} → (R → Option (List ℕ)) → List (Option R) → List (Option (List ℕ)) → Type 0
AreFilesOf told [] [] = ⊤
AreFilesOf told [] (f ∷ fs) = ⊥
AreFilesOf told (r ∷ rs) [] = ⊥
AreFilesOf told (r ∷ rs) (f ∷ fs) = IsFileOf told r f × AreFilesOf told rs fs
