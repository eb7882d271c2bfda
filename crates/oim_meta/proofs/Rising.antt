-- The keys of a `Map` are in strict byte order, and so are the names of its members. Both have the
-- same count.
use Rattle.std.proofs.Common.{◌≡◌, List, length, refl, ap, suc, [], ◌∷◌, String, Global, Less, string_bytes, string_cmp, nat_cmp}
use Rattle.std.specs.List.{AllByRecursion}
use Rattle.std.specs.List.Sorted.{IsStrictlySortedBy}
use Rattle.std.specs.Map.{keys_of}
use Rattle.std.specs.Cmp.Lexicographic.{slice_cmp}
use Rattle.serde_json.specs.View.{members_view}
use Rattle.serde_json.specs.declared.value.Value.{Value}
use Rattle.oim_meta.specs.Order.{names_of}
use Rattle.oim_report.specs.Rising.{IsRising}

above : (x : String Global) (es : List (String Global × Value)) → AllByRecursion (λ y. string_cmp x y ≡ Less) (keys_of es)
    → AllByRecursion (λ y. slice_cmp nat_cmp (string_bytes x) y ≡ Less) (names_of (members_view es))
above x [] h = tt
above x (e ∷ es) h = (h.0, above x es h.1)

pub names_rise : (es : List (String Global × Value)) → IsStrictlySortedBy string_cmp (keys_of es) → IsRising (names_of (members_view es))
unfolding IsStrictlySortedBy
names_rise [] h = tt
names_rise (e ∷ es) h = (above e.0 es h.0, names_rise es h.1)

pub names_count : (es : List (String Global × Value)) → length (names_of (members_view es)) ≡ length es
names_count [] = refl
names_count (e ∷ es) = ap suc (names_count es)
