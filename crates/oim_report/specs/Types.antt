-- The types of concepts and dimensions: the records of the types table, in file order.
use Rattle.std.specs.Prelude.{ℕ, List, [], ◌∷◌, ◌++◌, Bool, true, false, ◌&&◌, Option, option_map, find}
use Rattle.std.specs.List.{list_any}
use Rattle.std.specs.Str.{bytes_eq}
use Rattle.oim_report.specs.declared.kind.Kind.{Kind}
use Rattle.oim_report.specs.declared.kind.Kind.TheVariants.{Member}
use Rattle.oim_report.specs.declared.typed_name.TypedName.{TypedName}

abbrev pub TypesValue : Type 0
TypesValue = List TypedName

-- The record has this URI and local part.
abbrev pub is_of : List ℕ → List ℕ → TypedName → Bool
is_of uri local name = bytes_eq name.uri uri && bytes_eq name.local local

-- The kind of the concept or dimension of a URI and a local part: that of its first record.
abbrev pub kind_in : TypesValue → List ℕ → List ℕ → Option Kind
kind_in types uri local = option_map (λ (name : TypedName). name.kind) (find (is_of uri local) types)

-- The types with one more record at the end.
abbrev pub with_kind : TypesValue → List ℕ → List ℕ → Kind → TypesValue
with_kind types uri local k = types ++ record { uri = uri; local = local; kind = k } ∷ []

-- A kind is that of a member. The types have members if a record names one.
abbrev pub is_member : Kind → Bool
is_member Member = true
is_member _ = false

abbrev pub has_members : TypesValue → Bool
has_members types = list_any (λ (name : TypedName). is_member name.kind) types
