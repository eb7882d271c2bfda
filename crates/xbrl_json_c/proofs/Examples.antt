-- The definitions of this crate, executed on worked cases.
use Rattle.std.specs.Prelude.{◌≡◌, ◌∷◌, [], List, ℕ, Some, None, codes}
use Rattle.std.specs.Borrow.{Bor}
use Rattle.std.proofs.Common.{refl}
use Rattle.oim_json.specs.declared.layout.Layout.TheVariants as layout
use Rattle.xbrl_json_c.specs.Answers.{files_at, layout_at}
use Rattle.xbrl_json_c.specs.declared.files.File.{File}

-- A text, wherever it is in memory.
abbrev text : List ℕ → Bor (List ℕ)
text bytes = record { ref_ptr = (0, 0); now = bytes }

abbrev file : (path bytes : List ℕ) → File
file path bytes = record { path = text path; bytes = text bytes }

-- Two files have one path, and the first counts.
abbrev files : List File
files = file (codes "m.json") (codes "1") ∷ file (codes "t.csv") (codes "2") ∷ file (codes "t.csv") (codes "3") ∷ []

first_of_two : files_at files (codes "t.csv") ≡ Some (codes "2")
first_of_two = refl

no_such_file : files_at files (codes "t.cs") ≡ None
no_such_file = refl

-- An empty file is there.
empty_file : files_at (file (codes "a") [] ∷ []) (codes "a") ≡ Some []
empty_file = refl

on_one_line : layout_at 0 ≡ Some layout.Compact
on_one_line = refl

a_line_for_each_fact : layout_at 1 ≡ Some layout.Lines
a_line_for_each_fact = refl

no_such_layout : layout_at 2 ≡ None
no_such_layout = refl
