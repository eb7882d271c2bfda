-- Decimals that are not well-formed (xBRL-CSV 1.0: decimals).
use Rattle.std.specs.Prelude.{ℕ, List, Bool, not, ◌||◌, ◌&&◌, bytes_eq, Option, Some, None, is_some, codes}
use Rattle.serde_json.specs.Data.{Data}
use Rattle.serde_json.specs.Find.{get, as_str}
use Rattle.oim_cells.specs.Cells.{accuracy_of}
use Rattle.oim_names.specs.Names.{is_identifier}
use Rattle.oim_meta.specs.Members.{if_there}
use Rattle.oim_meta.specs.Decimals.{whole_of}
use Rattle.oim_meta.specs.Faults.{is_fact}
use Rattle.oim_meta.specs.Levels.{any_level}
use Rattle.oim_meta.specs.Written.{strip_front}

abbrev pub is_decimals_by_dollar : List ℕ → Option (List ℕ) → Bool
is_decimals_by_dollar s (Some name) = is_identifier name
is_decimals_by_dollar s None = bytes_eq s (codes "#none") || is_some (accuracy_of s)

-- A reference, #none, or a text of decimals.
abbrev pub is_decimals_text : List ℕ → Bool
is_decimals_text s = is_decimals_by_dollar s (strip_front (codes "$") s)

-- A whole number of 32 bits, or such a text.
unfoldable pub is_decimals : Data → Bool
is_decimals d = is_some (whole_of d) || if_there is_decimals_text (as_str d)

-- Decimals of one level that are not well-formed.
abbrev pub has_bad_decimals_there : Data → Bool
has_bad_decimals_there d = if_there (λ v. not (is_decimals v)) (get (codes "decimals") d)

-- 12: bad decimals of report, template, fact column or property group.
unfoldable pub has_bad_decimals : Data → Bool
has_bad_decimals = any_level has_bad_decimals_there (λ c. is_fact c && has_bad_decimals_there c)
