-- Sets of members (Extensible Enumerations 2.0): QNames between blanks, of which no two have the
-- same URI and local part.
use Rattle.std.specs.Prelude.{◌≢◌, ℕ, Bool, true, false, not, ◌&&◌, List, [], ◌∷◌, Option, Some, None}
use Rattle.std.specs.List.{AllByRecursion, join_with_byte, list_any, slice_split}
use Rattle.std.specs.Str.{bytes_eq}
use Rattle.oim_cells.specs.Blanks.{is_blank}
use Rattle.oim_names.specs.Bindings.{Bindings}
use Rattle.oim_names.specs.QName.{Name, IsQName, qname_of}

-- The texts between two blanks, some of them empty.
abbrev pub parts_of : List ℕ → List (List ℕ)
parts_of text = slice_split is_blank text

-- The parts that are not empty name these members, in order.
pub data AreMembers : Bindings → List (List ℕ) → List Name → Type 0 where
  end : (names : Bindings) → AreMembers names [] []
  blank : (names : Bindings) (parts : List (List ℕ)) (members : List Name) → AreMembers names parts members → AreMembers names ([] ∷ parts) members
  member : (names : Bindings) (part : List ℕ) (parts : List (List ℕ)) (name : Name) (members : List Name) → IsQName names part name
      → AllByRecursion (λ other. other ≢ name) members → AreMembers names parts members → AreMembers names (part ∷ parts) (name ∷ members)

abbrev pub IsMemberSet : Bindings → List ℕ → Type 0
IsMemberSet names text = (members : List Name) × AreMembers names (parts_of text) members

-- The same as tests.
abbrev pub is_same_name : Name → Option Name → Bool
is_same_name name None = false
is_same_name name (Some other) = bytes_eq name.0 other.0 && bytes_eq name.1 other.1

abbrev pub names_one : Bindings → Name → List (List ℕ) → Bool
names_one names name parts = list_any (λ part. is_same_name name (qname_of names part)) parts

abbrev pub is_member : Bindings → Option Name → List (List ℕ) → Bool
is_member names None parts = false
is_member names (Some name) parts = not (names_one names name parts)

abbrev pub is_part : Bindings → List ℕ → List (List ℕ) → Bool
is_part names [] parts = true
is_part names (c ∷ cs) parts = is_member names (qname_of names (c ∷ cs)) parts

abbrev pub are_members : Bindings → List (List ℕ) → Bool
are_members names [] = true
are_members names (part ∷ parts) = is_part names part parts && are_members names parts

unfoldable pub is_member_set : Bindings → List ℕ → Bool
is_member_set names text = are_members names (parts_of text)

-- The parts that are not empty.
abbrev pub filled : List (List ℕ) → List (List ℕ)
filled [] = []
filled ([] ∷ parts) = filled parts
filled ((c ∷ cs) ∷ parts) = (c ∷ cs) ∷ filled parts

-- How a set is written: its parts in their order, joined by one space.
unfoldable pub joined : List ℕ → List ℕ
joined text = join_with_byte 32 (filled (parts_of text))
