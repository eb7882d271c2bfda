-- Prefixes with their URIs (Open Information Model 1.0, namespaces), as a list in byte order of
-- prefix.
use Rattle.std.specs.Prelude.{◌≡◌, ℕ, List, ◌∷◌, ◌++◌, Option, Some, is_some, Bool, true, ◌||◌, filter, if◌then◌else◌}
use Rattle.std.specs.List.{AllByRecursion, list_any, IsDistinct}
use Rattle.std.specs.List.Sorted.{IsStrictlySortedBy}
use Rattle.std.specs.Map.{keys_of, values_of}
use Rattle.std.specs.Cmp.Lexicographic.{slice_cmp}
use Rattle.std.specs.Ordering.{nat_cmp, is_lt}
use Rattle.std.specs.Str.{bytes_eq}
use Rattle.oim_names.specs.Lookup.{value_at}
use Rattle.oim_names.specs.Names.{is_ncname}

abbrev pub Bindings : Type 0
Bindings = List (List ℕ × List ℕ)

-- The prefixes are in strict byte order, so each occurs once.
abbrev pub AreInOrder : Bindings → Type 0
AreInOrder b = IsStrictlySortedBy (slice_cmp nat_cmp) (keys_of b)

-- Each URI occurs once.
abbrev pub HaveOwnUris : Bindings → Type 0
HaveOwnUris b = IsDistinct bytes_eq (values_of b)

-- Each prefix is a name without a colon.
abbrev pub HaveNames : Bindings → Type 0
HaveNames b = AllByRecursion (λ prefix. is_ncname prefix ≡ true) (keys_of b)

-- What holds for all namespaces.
abbrev pub IsNamespaces : Bindings → Type 0
IsNamespaces b = AreInOrder b × HaveOwnUris b × HaveNames b

-- The URI of a prefix.
abbrev pub uri_of : Bindings → List ℕ → Option (List ℕ)
uri_of b prefix = value_at prefix b

-- `new` extends `b` by a prefix: this prefix has the URI, and every other prefix has what it had in
-- `b`.
abbrev pub Extends : Bindings → List ℕ → List ℕ → Bindings → Type 0
Extends b prefix uri new = (other : List ℕ) → uri_of new other ≡ (if bytes_eq prefix other then Some uri else uri_of b other)

-- The URI is bound to a prefix.
abbrev pub has_uri : Bindings → List ℕ → Bool
has_uri b uri = list_any (λ e. bytes_eq e.1 uri) b

-- The prefix or the URI is already bound.
abbrev pub is_bound : Bindings → (prefix uri : List ℕ) → Bool
is_bound b prefix uri = is_some (uri_of b prefix) || has_uri b uri

-- One text is before another in byte order.
abbrev pub is_before : List ℕ → List ℕ → Bool
is_before a b = is_lt (slice_cmp nat_cmp a b)

-- The bindings with a new one inserted in order.
unfoldable pub bound : Bindings → List ℕ → List ℕ → Bindings
bound b prefix uri = filter (λ e. is_before e.0 prefix) b ++ (prefix, uri) ∷ filter (λ e. is_before prefix e.0) b
