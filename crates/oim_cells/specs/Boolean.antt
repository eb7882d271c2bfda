-- The boolean values (XML Schema Part 2, second edition: the lexical forms of boolean), as a table
-- and as a test.
use Rattle.std.specs.Prelude.{ℕ, Bool, ◌||◌, List, codes}
use Rattle.std.specs.Str.{bytes_eq}

pub data IsBoolean : List ℕ → Type 0 where
  true_word : IsBoolean (codes "true")
  false_word : IsBoolean (codes "false")
  one : IsBoolean (codes "1")
  zero : IsBoolean (codes "0")

abbrev pub is_boolean_text : List ℕ → Bool
is_boolean_text t = bytes_eq t (codes "true") || bytes_eq t (codes "false") || bytes_eq t (codes "1") || bytes_eq t (codes "0")
