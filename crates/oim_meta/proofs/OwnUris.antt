-- If no text has two names, the namespaces that an object gives are in order, and each has its own
-- URI.
use Rattle.std.proofs.Common.{◌≡◌, ℕ, List, ◌∷◌, false, not, ◌&&◌, Less, refl, ap, bytes_eq, nat_cmp}
use Rattle.std.specs.List.{AllByRecursion, IsDistinct}
use Rattle.std.specs.List.Sorted.{IsStrictlySortedBy}
use Rattle.std.specs.Map.{keys_of, values_of}
use Rattle.std.specs.Cmp.Lexicographic.{slice_cmp}
use Rattle.serde_json.specs.Data.{Members, no_members, member}
use Rattle.oim_meta.specs.Members.{text_of, any_member, map_members}
use Rattle.oim_meta.specs.Order.{names_of, has_other, repeats_text}
use Rattle.oim_report.specs.Rising.{IsRising}
use Rattle.oim_meta.specs.Value.{named_text}
use Rattle.oim_meta.proofs.Unrepeated.{left, right, fewer, unlike}
use Rattle.oim_report.proofs.Searches.{below-differs}

-- The text of a name below all others is not one of theirs.
no_text : (k t : List ℕ) (ms : Members) → AllByRecursion (λ l. slice_cmp nat_cmp k l ≡ Less) (names_of ms) → has_other k t ms ≡ false
    → AllByRecursion (λ u. bytes_eq t u ≡ false) (values_of (map_members named_text ms))
no_text k t no_members above h = tt
no_text k t (member l d ms) above h =
    (unlike (bytes_eq k l) _ (below-differs k l above.0) (left _ (has_other k t ms) h), no_text k t ms above.1 (right (not (bytes_eq k l) && bytes_eq t (text_of d)) _ h))

pub own_uris : (ms : Members) → IsRising (names_of ms) → repeats_text ms ≡ false → IsDistinct bytes_eq (values_of (map_members named_text ms))
unfolding IsStrictlySortedBy IsDistinct
own_uris no_members rising h = tt
own_uris (member k d ms) rising h =
    let all = member k d ms in
    let head : has_other k (text_of d) all ≡ false = left (has_other k (text_of d) all) (any_member (λ name e. has_other name (text_of e) all) ms) h in
    let others : has_other k (text_of d) ms ≡ false = right (not (bytes_eq k k) && bytes_eq (text_of d) (text_of d)) _ head in
    let tail = right (has_other k (text_of d) all) (any_member (λ name e. has_other name (text_of e) all) ms) h in
    let rest : repeats_text ms ≡ false =
    fewer (λ name e. has_other name (text_of e) all) (λ name e. has_other name (text_of e) ms)
    (λ name e p. right (not (bytes_eq name k) && bytes_eq (text_of e) (text_of d)) (has_other name (text_of e) ms) p) ms tail
    in
    (no_text k (text_of d) ms rising.0 others, own_uris ms rising.1 rest)

pub in_order : (ms : Members) → IsRising (names_of ms) → IsStrictlySortedBy (slice_cmp nat_cmp) (keys_of (map_members named_text ms))
in_order ms rising = rw (keys_kept ms) rising
  where
    keys_kept : (ns : Members) → keys_of (map_members named_text ns) ≡ names_of ns
    keys_kept no_members = refl
    keys_kept (member k d ns) = ap (λ (t : List (List ℕ)). k ∷ t) (keys_kept ns)
