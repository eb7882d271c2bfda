-- Tests of a walk's findings, as Booleans: of joined lists, of members, and of faults that a part
-- cannot have.
use Rattle.std.proofs.Common.{◌≡◌, ◌∙◌, ◌++◌, ℕ, List, Option, Some, None, Bool, true, false, ◌||◌, ◌&&◌, refl, sym, nat_eq}
use Rattle.std.specs.Prelude.{option_map, option_and_then, unwrap_or}
use Rattle.std.proofs.Math.Bool.{and-false}
use Rattle.std.proofs.lemmas.List.Folds.{list_any-append}
use Rattle.serde_json.specs.Data.{Data, null, boolean, number, string, array, object, Members, no_members, member}
use Rattle.serde_json.specs.Find.{as_object}
use Rattle.oim_entries.specs.declared.fault.MetaFault.{MetaFault}
use Rattle.oim_meta.specs.declared.findings.Finding.{Finding}
use Rattle.oim_entries.specs.FaultNames.{fault_number}
use Rattle.oim_meta.specs.Members.{any_member, if_there, no_object_or}
use Rattle.oim_meta.specs.Faults.{is_no_object}
use Rattle.oim_meta.specs.Findings.{found}
use Rattle.oim_meta.specs.FindingPlaces.{has, is_of}
use Rattle.oim_meta.specs.Paths.{Path}
use Rattle.oim_meta.specs.Walk.{in_members}

-- e is this fault.
abbrev pub w : MetaFault → MetaFault → Bool
w e f = nat_eq (fault_number f) (fault_number e)

pub two : (e : MetaFault) (xs ys : List Finding) (a b : Bool) → has e xs ≡ a → has e ys ≡ b → has e (xs ++ ys) ≡ (a || b)
two e xs ys a b p q = list_any-append (is_of e) xs ys ∙ rw (p, q) refl

pub here : (e f : MetaFault) (p : Path) (b : Bool) → has e (found f p b) ≡ (w e f && b)
here e f p true = at (w e f)
  where
    at : (x : Bool) → (x || false) ≡ (x && true)
    at true = refl
    at false = refl
here e f p false = sym (and-false (w e f))

pub each : (e : MetaFault) (p : List ℕ → Data → List Finding) (q : List ℕ → Data → Bool) → ((k : List ℕ) (d : Data) → has e (p k d) ≡ q k d)
    → (ms : Members) → has e (in_members p ms) ≡ any_member q ms
each e p q h no_members = refl
each e p q h (member k d ms) = two e (p k d) (in_members p ms) (q k d) (any_member q ms) (h k d) (each e p q h ms)

pub alike : (p q : List ℕ → Data → Bool) → ((k : List ℕ) (d : Data) → p k d ≡ q k d) → (ms : Members) → any_member p ms ≡ any_member q ms
alike p q h no_members = refl
alike p q h (member k d ms) = rw (h k d, alike p q h ms) refl

pub none : (p : List ℕ → Data → Bool) → ((k : List ℕ) (d : Data) → p k d ≡ false) → (ms : Members) → any_member p ms ≡ false
none p h no_members = refl
none p h (member k d ms) = rw (h k d) (none p h ms)

pub nor : (a b : Bool) → a ≡ false → b ≡ false → (a || b) ≡ false
nor a b p q = rw (p, q) refl

pub off : (a b : Bool) → a ≡ false → (a && b) ≡ false
off a b p = rw p refl

-- A value at a key that is not an object, or has a member that passes the test.
pub object_or : (p : List ℕ → Data → Bool) (o : Option Data)
    → (if_there is_no_object o || any_member p (unwrap_or (option_and_then as_object o) no_members)) ≡ if_there (no_object_or (any_member p)) o
object_or p None = refl
object_or p (Some null) = refl
object_or p (Some (boolean b)) = refl
object_or p (Some (number n)) = refl
object_or p (Some (string s)) = refl
object_or p (Some (array ds)) = refl
object_or p (Some (object ms)) = refl

-- The same for a value that must exist.
pub needed_or : (p : List ℕ → Data → Bool) (o : Option Data)
    → (unwrap_or (option_map is_no_object o) true || any_member p (unwrap_or (option_and_then as_object o) no_members)) ≡ unwrap_or (option_map (no_object_or (any_member p)) o) true
needed_or p None = refl
needed_or p (Some null) = refl
needed_or p (Some (boolean b)) = refl
needed_or p (Some (number n)) = refl
needed_or p (Some (string s)) = refl
needed_or p (Some (array ds)) = refl
needed_or p (Some (object ms)) = refl

-- Only the first, or only the last, can be true.
pub first : (a b : Bool) → b ≡ false → (a || b) ≡ a
first true b h = refl
first false b h = h

pub last : (a b : Bool) → a ≡ false → (a || b) ≡ b
last a b h = rw h refl

pub or-same : (a b c d : Bool) → a ≡ c → b ≡ d → (a || b) ≡ (c || d)
or-same a b c d p q = rw (p, q) refl
