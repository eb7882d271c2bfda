-- A file that a folder opened for a reader is one of the files of a report's tables.
use Rattle.std.proofs.Common.{List, ℕ, Option, IfSome}
use Rattle.oim_records.specs.Reads.{IsFileOf}
use Rattle.oim_files.specs.Folders.{Files}

pub found_file : {R : Type 0} (told : R → Option (List ℕ)) (known : Option Files) (path : List ℕ) (r : Option R)
    → IfSome known (λ at. IsFileOf told r (at path)) → IfSome known (λ at. IsFileOf told r (at path))
found_file told known path r is = is
