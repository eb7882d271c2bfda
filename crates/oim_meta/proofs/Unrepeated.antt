-- Tests that all members fail, and names that differ.
use Rattle.std.proofs.Common.{◌≡◌, ℕ, List, Bool, true, false, not, ◌||◌, ◌&&◌, refl, bytes_eq}
use Rattle.std.specs.Bool.{Decides}
use Rattle.std.proofs.lemmas.Slice.Eq.{bytes_eq-Decides}
use Rattle.serde_json.specs.Data.{Data, Members, no_members, member}
use Rattle.oim_meta.specs.Members.{any_member}

pub left : (a b : Bool) → (a || b) ≡ false → a ≡ false
left true b h = absurd cc
left false b h = refl

pub right : (a b : Bool) → (a || b) ≡ false → b ≡ false
right true b h = absurd cc
right false b h = h

-- A test that fails if another does.
pub fewer : (p q : List ℕ → Data → Bool) → ((k : List ℕ) (d : Data) → p k d ≡ false → q k d ≡ false) → (ms : Members) → any_member p ms ≡ false → any_member q ms ≡ false
fewer p q h no_members e = refl
fewer p q h (member k d ms) e = rw (h k d (left (p k d) _ e), fewer p q h ms (right (p k d) _ e)) refl

differs_back : (t u : List ℕ) → bytes_eq t u ≡ false → bytes_eq u t ≡ false
differs_back t u h = at (bytes_eq u t) refl (bytes_eq-Decides u t)
  where
    at : (b : Bool) → bytes_eq u t ≡ b → Decides (bytes_eq u t) (u ≡ t) → b ≡ false
    at false e d = refl
    at true e d = let same : u ≡ t = d.0 e in cc

pub unlike : (a b : Bool) → a ≡ false → (not a && b) ≡ false → b ≡ false
unlike true b e h = absurd cc
unlike false b e h = h
