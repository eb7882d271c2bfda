-- The place of a name among members whose names are in strict byte order.
use Rattle.std.proofs.Common.{◌≡◌, ℕ, suc, ◌+◌, ◌<◌, List, [], ◌∷◌, length, map, Bool, Ok, Err, false, true, cond, refl, sym, ap, ◌∙◌, arith}
use Rattle.std.specs.Prelude.{not, if◌then◌else◌}
use Rattle.std.specs.List.{position_or_len}
use Rattle.std.specs.Str.{bytes_eq}
use Rattle.std.specs.Ordering.{nat_cmp}
use Rattle.std.specs.Cmp.Lexicographic.{nat_list_eq_equiv, slice_cmp}
use Rattle.std.specs.List.Sorted.{IsSearchInRange, IsBinarySearchResult}
use Rattle.serde_json.specs.Data.{Members, no_members, member}
use Rattle.oim_report.proofs.Searches.{searched}
use Rattle.oim_report.specs.Rising.{IsRising}
use Rattle.oim_meta.specs.Order.{names_of}
use Rattle.oim_meta.specs.Value.{place_of}

-- A place among things is that among their names.
position_of_names : {X : Type 0} (name : X → List ℕ) (xs : List X) (n : List ℕ) → position_or_len (λ x. bytes_eq (name x) n) xs ≡ position_or_len (λ k. bytes_eq k n) (map name xs)
position_of_names name [] n = refl
position_of_names name (x ∷ xs) n = rw (position_of_names name xs n) refl

-- The place of a name among members is that among their names.
place_among_names : (n : List ℕ) (ms : Members) → place_of n ms ≡ position_or_len (λ k. bytes_eq k n) (names_of ms)
place_among_names n no_members = refl
place_among_names n (member k d ms) = rw (nat_list_eq_equiv.symm n k) (by (bytes_eq k n) (place_among_names n ms))
  where
    by : (b : Bool) → place_of n ms ≡ position_or_len (λ j. bytes_eq j n) (names_of ms)
        → (if b then 0 else suc (place_of n ms)) ≡ cond (not b) (1 + position_or_len (λ j. bytes_eq j n) (names_of ms)) 0
    by true more = refl
    by false more = omega (arith, more)

-- A binary search among the names of members returns the place of the name, or that it is at no
-- place.
pub member_found : {X : Type 0} (name : X → List ℕ) (xs : List X) (n : List ℕ) (ms : Members) (i : ℕ) (d : X) → map name xs ≡ names_of ms → IsRising (names_of ms)
    → i < length xs → IsBinarySearchResult (λ x. slice_cmp nat_cmp (name x) n) xs (Ok i) → i ≡ place_of n ms
member_found name xs n ms i d same rise within equal =
    let here : position_or_len (λ x. bytes_eq (name x) n) xs ≡ i = searched name xs n (Ok i) (rw same rise) within equal d in
    sym here ∙ position_of_names name xs n ∙ ap (position_or_len (λ k. bytes_eq k n)) same ∙ sym (place_among_names n ms)

pub member_missing : {X : Type 0} (name : X → List ℕ) (xs : List X) (n : List ℕ) (ms : Members) (i count : ℕ) → map name xs ≡ names_of ms → IsRising (names_of ms)
    → count ≡ length xs → IsSearchInRange (Err i) (length xs) → IsBinarySearchResult (λ x. slice_cmp nat_cmp (name x) n) xs (Err i) → count ≡ place_of n ms
member_missing name xs n ms i count same rise all within parted =
    let none : position_or_len (λ x. bytes_eq (name x) n) xs ≡ length xs = searched name xs n (Err i) (rw same rise) within parted in
    all ∙ sym none ∙ position_of_names name xs n ∙ ap (position_or_len (λ k. bytes_eq k n)) same ∙ sym (place_among_names n ms)
