-- What is so of the file at a path of a folder.
use Rattle.std.specs.Prelude.{◌≡◌, ℕ, List, Option, Some, IfSome}
use Rattle.oim_files.specs.Folders.{Files}

-- This is found in the file at the path, which is there.
abbrev pub FoundIn : Files → List ℕ → (List ℕ → Type 0) → Type 0
FoundIn files path holds = (bytes : List ℕ) × (files path ≡ Some bytes) × holds bytes

-- The same for a folder, if its files are known.
abbrev pub FoundAt : Option Files → List ℕ → (List ℕ → Type 0) → Type 0
FoundAt known path holds = IfSome known (λ files. FoundIn files path holds)

-- This holds of the bytes that a folder has at the path, if its files are known and one is there.
abbrev pub HoldsAt : Option Files → List ℕ → (List ℕ → Type 0) → Type 0
HoldsAt known path holds = IfSome known (λ files. IfSome (files path) holds)
