-- The meaning of a cell's text (xBRL-CSV 1.0, special values). And the numeral and the accuracy
-- that a text states (xBRL-CSV 1.0, the decimals suffix of a numeral; Open Information Model 1.0,
-- decimals).
use Rattle.std.specs.Prelude.{◌≢◌, ℕ, List, [], ◌∷◌, ◌++◌, ◌||◌, ◌&&◌, nat_eq, drop, Option, Some, None, if◌then◌else◌, codes}
use Rattle.std.specs.Borrow.{Bor}
use Rattle.std.specs.List.{starts_with}
use Rattle.std.specs.Option.{option_map}
use Rattle.std.specs.Str.{bytes_eq}
use Rattle.std.specs.Str.Parse.{signed_digits_value}
use Rattle.oim_cells.specs.declared.cells.NumberKind.{NumberKind}
use Rattle.oim_cells.specs.declared.cells.Accuracy.{Accuracy}
use Rattle.oim_cells.specs.declared.cells.Accuracy.TheVariants.{Infinite, Places}
use Rattle.oim_cells.specs.declared.cells.CellMeaning.{CellMeaning}
use Rattle.oim_cells.specs.declared.cells.CellMeaning.TheVariants as seen
use Rattle.oim_cells.specs.Blanks.{trimmed}
use Rattle.oim_cells.specs.Numeral.{is_integer_text, is_in_places, is_numeral_text, parts_at}

-- The meanings.
pub data Meaning : Type 0 where
  Absent : Meaning
  Nil : Meaning
  Empty : Meaning
  Text : List ℕ → Meaning
  Unknown : Meaning

-- The text after the `#` of a text that is not a special value and does not begin with two `#`.
abbrev pub IsOther : List ℕ → Type 0
IsOther rest = (rest ≢ codes "none") × (rest ≢ codes "nil") × (rest ≢ codes "empty") × ((more : List ℕ) → rest ≢ codes "#" ++ more)

-- The text has this meaning, as a table.
pub data Means : List ℕ → Meaning → Type 0 where
  nothing : Means [] Absent
  none : Means (codes "#none") Absent
  nil : Means (codes "#nil") Nil
  empty : Means (codes "#empty") Empty
  doubled : (rest : List ℕ) → Means (codes "##" ++ rest) (Text (codes "#" ++ rest))
  other : (rest : List ℕ) → IsOther rest → Means (codes "#" ++ rest) Unknown
  plain : (first : ℕ) (rest : List ℕ) → first ≢ 35 → Means (first ∷ rest) (Text (first ∷ rest))

-- The same table as a function. The contract of `meaning` states that they agree.
unfoldable pub meaning_of : List ℕ → Meaning
meaning_of t =
    if bytes_eq t [] || bytes_eq t (codes "#none") then Absent
    else if bytes_eq t (codes "#nil") then Nil
    else if bytes_eq t (codes "#empty") then Empty
    else if starts_with nat_eq t (codes "##") then Text (drop 1 t)
    else if starts_with nat_eq t (codes "#") then Unknown
    else Text t

-- The program's meaning of a cell as a meaning of the table.
abbrev pub seen_meaning : CellMeaning → Meaning
seen_meaning seen.Absent = Absent
seen_meaning seen.Nil = Nil
seen_meaning seen.Empty = Empty
seen_meaning (seen.Text t) = Text t.now
seen_meaning seen.Unknown = Unknown

-- The accuracy that a text of decimals states, as a function. The contract of `decimals` states
-- that it agrees with `IsDecimals`.
unfoldable pub accuracy_of : List ℕ → Option Accuracy
accuracy_of t =
    if bytes_eq t (codes "INF") then Some Infinite
    else if is_integer_text t && is_in_places (signed_digits_value 10 t) then Some (Places (signed_digits_value 10 t))
    else None

-- The numeral of a text, by the parts before and after its first `d`. The part before is the
-- numeral, and the part after states its accuracy. Without a `d` the whole text is the numeral.
abbrev pub numeral_at : NumberKind → List ℕ → Option (List ℕ × List ℕ) → Option (List ℕ × Option Accuracy)
numeral_at kind t None = if is_numeral_text kind t then Some (t, None) else None
numeral_at kind t (Some p) = if is_numeral_text kind p.0 then option_map (λ a. (p.0, Some a)) (accuracy_of p.1) else None

-- The numeral that a text writes between the blanks at its ends, and the accuracy that it states,
-- as a function. The contract of `split_numeral` states that it agrees with `IsSplit`.
unfoldable pub numeral_of : NumberKind → List ℕ → Option (List ℕ × Option Accuracy)
numeral_of kind text = let t = trimmed text in numeral_at kind t (parts_at 100 t)

-- The program's pair of a numeral and its accuracy, as bytes.
abbrev pub seen_numeral : Bor (List ℕ) × Option Accuracy → List ℕ × Option Accuracy
seen_numeral p = (p.0.now, p.1)
