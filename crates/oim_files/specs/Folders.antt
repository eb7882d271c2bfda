-- The files of a folder, and the folder of a path.
use Rattle.std.specs.Prelude.{◌≡◌, ◌≢◌, ◌⊎◌, ℕ, List, [], ◌∷◌, ◌++◌, Option, Some, None, if◌then◌else◌}
use Rattle.std.specs.List.{All}
use Rattle.std.specs.Str.{bytes_eq}
use Rattle.std.specs.Borrow.{Bor}

-- The bytes of the file at each path.
abbrev pub Files : Type 0
Files = List ℕ → Option (List ℕ)

-- A path up to and including its last slash, or the empty text if it has none.
pub record IsFolderOf (base path : List ℕ) : Type 0 where
  pub name : List ℕ
  pub split : path ≡ base ++ name
  pub no_slash : All (λ b. b ≢ 47) name
  pub whole : (base ≡ []) ⊎ ((front : List ℕ) × (base ≡ front ++ 47 ∷ []))

-- The bytes of the first file with this path.
abbrev pub first_at : List (Bor (List ℕ) × Bor (List ℕ)) → Files
first_at [] path = None
first_at (f ∷ rest) path = if bytes_eq f.0.now path then Some f.1.now else first_at rest path
