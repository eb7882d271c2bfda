-- Units as texts (xBRL-JSON 1.0, unit): measures joined by `*`, and at most one `/`. Measures may
-- be in any order, and each side may be in one pair of parentheses.
use Rattle.std.specs.Prelude.{◌-◌, ℕ, List, [], ◌∷◌, ◌++◌, Option, Some, None, Bool, false, ◌&&◌, ◌||◌, ◌==◌, codes, is_some, if◌then◌else◌, length, take, drop, slice_index}
use Rattle.std.specs.List.{list_all, slice_split, before_first, after_first}
use Rattle.std.specs.Str.{bytes_eq}
use Rattle.oim_names.specs.Bindings.{Bindings}
use Rattle.oim_names.specs.QName.{Name, IsQName, qname_of}
use Rattle.oim_names.specs.declared.unit_kind.UnitKind.{UnitKind}
use Rattle.oim_names.specs.declared.unit_kind.UnitKind.TheVariants.{Pure, Written}

-- Measures joined by `*`, and their names in order. Each measure is a QName.
pub data IsProduct : Bindings → List ℕ → List Name → Type 0 where
  measure : (names : Bindings) (text : List ℕ) (name : Name) → IsQName names text name → IsProduct names text (name ∷ [])
  product : (names : Bindings) (text text₂ : List ℕ) (name : Name) (more : List Name) → IsQName names text name → IsProduct names text₂ more
      → IsProduct names (text ++ codes "*" ++ text₂) (name ∷ more)

-- Such a list, bare or in one pair of parentheses.
pub data IsSide : Bindings → List ℕ → List Name → Type 0 where
  bare : (names : Bindings) (text : List ℕ) (measures : List Name) → IsProduct names text measures → IsSide names text measures
  bracketed : (names : Bindings) (text : List ℕ) (measures : List Name) → IsProduct names text measures → IsSide names (codes "(" ++ text ++ codes ")") measures

-- One side, or two with `/` between them: the measures above the line, and the measures below it.
pub data IsUnit : Bindings → List ℕ → List Name → List Name → Type 0 where
  whole : (names : Bindings) (text : List ℕ) (measures : List Name) → IsSide names text measures → IsUnit names text measures []
  quotient : (names : Bindings) (text text₂ : List ℕ) (above below : List Name) → IsSide names text above → IsSide names text₂ below
      → IsUnit names (text ++ codes "/" ++ text₂) above below

-- The text is a unit.
abbrev pub HasMeasures : Bindings → List ℕ → Type 0
HasMeasures names text = (above : List Name) × (below : List Name) × IsUnit names text above below

-- The measure of a pure number: `pure` of the namespace of XBRL 2.1's instances.
abbrev pub pure_name : Name
pure_name = (codes "http://www.xbrl.org/2003/instance", codes "pure")

-- The text is a unit whose only measure is `pure_name`.
abbrev pub IsPure : Bindings → List ℕ → Type 0
IsPure names text = IsUnit names text (pure_name ∷ []) []

-- The grammar as functions. First: whether the text is in one pair of parentheses, and the text
-- without it.
abbrev pub is_bracketed : List ℕ → Bool
is_bracketed text = (slice_index text 0 == 40) && (slice_index text (length text - 1) == 41)

abbrev pub inside : List ℕ → List ℕ
inside text = if is_bracketed text then take (length text - 2) (drop 1 text) else text

-- The parts between the `*` are QNames.
abbrev pub are_measures : Bindings → List ℕ → Bool
are_measures names text = list_all (λ measure. is_some (qname_of names measure)) (slice_split (λ c. c == 42) text)

-- A side: QNames joined by `*`, bare or in parentheses.
abbrev pub is_side : Bindings → List ℕ → Bool
is_side names text = are_measures names (inside text)

-- The text above the line, and the text below it.
abbrev pub above_of : List ℕ → List ℕ
above_of text = before_first (λ c. c == 47) text

abbrev pub below_of : List ℕ → List ℕ
below_of text = after_first (λ c. c == 47) text

abbrev pub is_unit : Bindings → List ℕ → Bool
is_unit names text = is_side names text || (is_side names (above_of text) && is_side names (below_of text))

abbrev pub is_pure_name : Option Name → Bool
is_pure_name None = false
is_pure_name (Some name) = bytes_eq name.0 pure_name.0 && bytes_eq name.1 pure_name.1

-- The kind of a unit, or `None` if the text is not a unit.
unfoldable pub unit_of : Bindings → List ℕ → Option UnitKind
unit_of names text =
    if is_unit names text
    then Some (if is_pure_name (qname_of names (inside text)) then Pure else Written)
    else None
