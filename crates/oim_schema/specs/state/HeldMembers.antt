-- The members of a set that were read before a part of its text, as the program holds them.
use Rattle.std.specs.Prelude.{ℕ, Bool, true, false, not, ◌&&◌, ◌||◌, List, [], ◌∷◌, ◌++◌, Some}
use Rattle.std.specs.Borrow.{Bor}
use Rattle.std.specs.BTreeSet.{BTreeSet}
use Rattle.std.specs.List.{list_any}
use Rattle.std.specs.Option.{option_map_or}
use Rattle.std.specs.Str.{bytes_eq}
use Rattle.oim_names.specs.Bindings.{Bindings}
use Rattle.oim_names.specs.QName.{Name, qname_of}
use Rattle.oim_schema.specs.Members.{is_same_name}

-- A name is held. Each member is its local part and its URI.
abbrev pub holds : BTreeSet (Bor (List ℕ) × Bor (List ℕ)) → Name → Bool
holds members name = list_any (λ member. bytes_eq name.1 member.0.now && bytes_eq name.0 member.1.now) members.keys

-- A part is empty, or a QName of a member that is not held.
abbrev pub is_unheld : Bindings → (Name → Bool) → List ℕ → Bool
is_unheld names held [] = true
is_unheld names held (c ∷ cs) = option_map_or (λ name. not (held name)) (qname_of names (c ∷ cs)) false

-- A name is held after a part.
abbrev pub holds_after : Bindings → (Name → Bool) → List ℕ → Name → Bool
holds_after names held part name = option_map_or (λ other. is_same_name other (Some name)) (qname_of names part) false || held name

-- A text with one more part, joined by one space.
abbrev pub with_part : List ℕ → List ℕ → List ℕ
with_part so_far [] = so_far
with_part [] (c ∷ cs) = c ∷ cs
with_part (d ∷ so_far) (c ∷ cs) = (d ∷ so_far) ++ 32 ∷ c ∷ cs
