-- Members, written one after another.
use Rattle.std.proofs.Common.{◌≡◌, ◌≤◌, ◌<◌, ◌+◌, ℕ, suc, Bool, true, false, List, [], ◌∷◌, ◌++◌, length, map, take, drop, refl, sym, ap, ◌∙◌, append_assoc, append-nil, arith}
use Rattle.std.specs.Prelude.{Some}
use Rattle.std.specs.List.{slice_get}
use Rattle.std.proofs.lemmas.List.{take_more, take-append-drop}
use Rattle.std.proofs.lemmas.Option.{get_or_from_slice_get, slice_get_within}
use Rattle.oim_resolve.specs.FactParts.{FactParts as Fact}
use Rattle.oim_json.specs.Blocks.{behind_commas}
use Rattle.oim_json.specs.Document.{members, more_members, piece, placed_member}
use Rattle.oim_json.specs.state.Writing.{has_any}
use Rattle.oim_json.specs.JsonText.{joined}
use Rattle.oim_json.specs.declared.layout.Layout.{Layout}
use Rattle.oim_json.specs.declared.layout.Layout.TheVariants.{Compact}

joined_more : (l : Layout) (f : Fact) (fs : List Fact) → joined (map (placed_member l) (f ∷ fs)) ≡ placed_member l f ++ more_members l true fs
joined_more l f [] = sym (append-nil (placed_member l f))
joined_more l f (g ∷ gs) = ap (λ t. placed_member l f ++ (44 ∷ t)) (joined_more l g gs)

-- The members of a document are those after none.
pub members_are : (l : Layout) (fs : List Fact) → members l fs ≡ more_members l false fs
unfolding members
members_are l [] = refl
members_are l (f ∷ fs) = joined_more l f fs

pub more_append : (l : Layout) (any : Bool) (fs gs : List Fact) → more_members l any (fs ++ gs) ≡ more_members l any fs ++ more_members l (has_any any fs) gs
more_append l any [] gs = refl
more_append l any (f ∷ fs) gs =
    ap (λ t. piece any (placed_member l f) ++ t) (rest fs) ∙ sym (append_assoc (piece any (placed_member l f)) (more_members l true fs) (more_members l true gs))
  where
    rest : (fs : List Fact) → more_members l true (fs ++ gs) ≡ more_members l true fs ++ more_members l true gs
    rest [] = refl
    rest (h ∷ hs) = ap (λ t. piece true (placed_member l h) ++ t) (rest hs) ∙ sym (append_assoc (piece true (placed_member l h)) (more_members l true hs) (more_members l true gs))

pub has_any_append : (any : Bool) (fs gs : List Fact) → has_any any (fs ++ gs) ≡ has_any (has_any any fs) gs
has_any_append any [] gs = refl
has_any_append any (f ∷ fs) [] = refl
has_any_append any (f ∷ fs) (g ∷ gs) = refl

pub has_some : (any : Bool) (fs : List Fact) → 1 ≤ length fs → has_any any fs ≡ true
has_some any [] some = absurd (omega (arith, some))
has_some any (f ∷ fs) some = refl

-- Some more members.
pub members_more : (l : Layout) (fs gs : List Fact) → members l (fs ++ gs) ≡ members l fs ++ more_members l (has_any false fs) gs
members_more l fs gs = members_are l (fs ++ gs) ∙ more_append l false fs gs ∙ ap (λ t. t ++ more_members l (has_any false fs) gs) (sym (members_are l fs))

pub no_members : (l : Layout) → members l [] ≡ []
unfolding members
no_members l = refl

-- ONE MORE FACT

pub one_more : (l : Layout) (any : Bool) (fs : List Fact) (i : ℕ) (f : Fact) → slice_get fs i ≡ Some f
    → more_members l any (take (i + 1) fs) ≡ more_members l any (take i fs) ++ piece (has_any any (take i fs)) (placed_member l f)
one_more l any fs i f at =
    ap (more_members l any) (taken_more fs i f at) ∙ more_append l any (take i fs) (f ∷ [])
    ∙ ap (λ t. more_members l any (take i fs) ++ t) (append-nil (piece (has_any any (take i fs)) (placed_member l f)))
  where
    taken_more : (fs : List Fact) (i : ℕ) (f : Fact) → slice_get fs i ≡ Some f → take (i + 1) fs ≡ take i fs ++ f ∷ []
    taken_more fs i f at = take_more fs i f (slice_get_within fs i f at) ∙ ap (λ g. take i fs ++ g ∷ []) (get_or_from_slice_get fs i f f at)

pub has_one_more : (any : Bool) (fs : List Fact) (i : ℕ) → i < length fs → has_any any (take (i + 1) fs) ≡ true
has_one_more any [] i h = absurd (omega (arith, h))
has_one_more any (f ∷ fs) i h = let one : i + 1 ≡ suc i = omega arith in ap (λ n. has_any any (take n (f ∷ fs))) one

-- The members of the first facts, then the others.
pub members_cut : (l : Layout) (any : Bool) (fs : List Fact) (n : ℕ) → more_members l any fs ≡ more_members l any (take n fs) ++ more_members l (has_any any (take n fs)) (drop n fs)
members_cut l any fs n = ap (more_members l any) (sym (take-append-drop n fs)) ∙ more_append l any (take n fs) (drop n fs)

-- THE BYTES OF A BLOCK

pub commas_are : (fs : List Fact) → behind_commas fs ≡ more_members Compact true fs
unfolding behind_commas
commas_are [] = refl
commas_are (f ∷ fs) = ap (λ t. piece true (placed_member Compact f) ++ t) (commas_are fs)

pub without_comma : (fs : List Fact) → 1 ≤ length fs → drop 1 (more_members Compact true fs) ≡ more_members Compact false fs
without_comma [] some = absurd (omega (arith, some))
without_comma (f ∷ fs) some = refl
