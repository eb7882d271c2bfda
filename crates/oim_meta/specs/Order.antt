-- Members in order, and one text under two names.
use Rattle.std.specs.Prelude.{⊤, ◌≡◌, ℕ, List, Bool, not, ◌&&◌, bytes_eq}
use Rattle.std.specs.List.{AllByRecursion}
use Rattle.std.specs.Ordering.{nat_cmp}
use Rattle.std.specs.declared.cmp.Ordering.TheVariants.{Less}
use Rattle.std.specs.Cmp.Lexicographic.{slice_cmp}
use Rattle.serde_json.specs.Data.{Data, null, boolean, number, string, array, object, Members, no_members, member}
use Rattle.oim_meta.specs.Members.{text_of, any_member, map_members}

abbrev pub names_of : Members → List (List ℕ)
names_of = map_members (λ k _. k)

-- Another name has this text.
abbrev pub has_other : List ℕ → List ℕ → Members → Bool
has_other name text = any_member (λ other d. not (bytes_eq name other) && bytes_eq text (text_of d))

-- One text under two names.
abbrev pub repeats_text : Members → Bool
repeats_text ms = any_member (λ name d. has_other name (text_of d) ms) ms

-- A name is below each of these members' names.
abbrev pub IsAbove : List ℕ → Members → Type 0
IsAbove name ms = AllByRecursion (λ other. slice_cmp nat_cmp name other ≡ Less) (names_of ms)

-- The names of an object are in strict byte order, and so are those of each object among its
-- values. This definition requires nothing of a list's items.
abbrev mutual
  pub IsInOrder : Data → Type 0
  IsInOrder null = ⊤
  IsInOrder (boolean b) = ⊤
  IsInOrder (number n) = ⊤
  IsInOrder (string s) = ⊤
  IsInOrder (array ds) = ⊤
  IsInOrder (object ms) = AreInOrder ms

  pub AreInOrder : Members → Type 0
  AreInOrder no_members = ⊤
  AreInOrder (member name d ms) = IsAbove name ms × IsInOrder d × AreInOrder ms
