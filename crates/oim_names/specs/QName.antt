-- Qualified names (xBRL-JSON 1.0 and xBRL-CSV 1.0, QName and SQName), over declared prefixes.
use Rattle.std.specs.Prelude.{◌≡◌, ℕ, List, ◌++◌, Option, Some, None, option_map, Bool, true, false, not, ◌&&◌, ◌||◌, ◌==◌, codes, if◌then◌else◌}
use Rattle.std.specs.Borrow.{Bor}
use Rattle.std.specs.List.{AllByRecursion, before_first, after_first}
use Rattle.oim_names.specs.Bindings.{Bindings, uri_of}
use Rattle.oim_names.specs.Names.{is_ncname, begins_and_goes_on}

-- A URI and a local part.
abbrev pub Name : Type 0
Name = List ℕ × List ℕ

-- The same for a pair of borrowed texts.
abbrev pub seen_name : Bor (List ℕ) × Bor (List ℕ) → List ℕ × List ℕ
seen_name p = (p.0.now, p.1.now)

-- The text does not contain the character.
abbrev pub Lacks : ℕ → List ℕ → Type 0
Lacks mark text = AllByRecursion (λ c. (c == mark) ≡ false) text

-- `prefix:local`, both names without a colon, and the prefix is declared.
pub data IsQName : Bindings → List ℕ → Name → Type 0 where
  qname : (names : Bindings) (prefix local uri : List ℕ) → is_ncname prefix ≡ true → is_ncname local ≡ true → uri_of names prefix ≡ Some uri
      → IsQName names (prefix ++ codes ":" ++ local) (uri, local)

-- Not a space, tab, carriage return or line feed.
abbrev pub is_no_blank : ℕ → Bool
is_no_blank c = not ((c == 32) || (c == 9) || (c == 13) || (c == 10))

-- Not empty, and without blanks.
abbrev pub is_solid : List ℕ → Bool
is_solid text = begins_and_goes_on is_no_blank is_no_blank text

-- Cut at the first colon: a declared prefix, and a rest that is not empty and has no blanks.
pub data IsSQName : Bindings → List ℕ → Name → Type 0 where
  sqname : (names : Bindings) (prefix rest uri : List ℕ) → Lacks 58 prefix → is_solid rest ≡ true → uri_of names prefix ≡ Some uri
      → IsSQName names (prefix ++ codes ":" ++ rest) (uri, rest)

-- The option is the only value of the relation, or `None` if it has no value.
abbrev pub IsOnly : {A : Type 0} → (A → Type 0) → Option A → Type 0
IsOnly {A} P None = (x : A) → P x → ⊥
IsOnly {A} P (Some y) = P y × ((x : A) → P x → x ≡ y)

-- The text before the first colon, and the text after it.
abbrev pub prefix_of : List ℕ → List ℕ
prefix_of text = before_first (λ c. c == 58) text

abbrev pub local_of : List ℕ → List ℕ
local_of text = after_first (λ c. c == 58) text

-- QName and SQName as functions: the URI and the local part, or `None`.
unfoldable pub qname_of : Bindings → List ℕ → Option (List ℕ × List ℕ)
qname_of names text =
    if is_ncname (prefix_of text) && is_ncname (local_of text)
    then option_map (λ uri. (uri, local_of text)) (uri_of names (prefix_of text))
    else None

unfoldable pub sqname_of : Bindings → List ℕ → Option (List ℕ × List ℕ)
sqname_of names text =
    if is_solid (local_of text)
    then option_map (λ uri. (uri, local_of text)) (uri_of names (prefix_of text))
    else None
