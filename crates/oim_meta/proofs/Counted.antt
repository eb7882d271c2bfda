-- A `Map` has as many members as entries. A list that is not empty has some item, and an object
-- whose count is above 0 has some member.
use Rattle.std.proofs.Common.{◌≡◌, ◌==◌, suc, List, [], ◌∷◌, String, Global, true, not, length, refl, ap, arith}
use Rattle.std.specs.Prelude.{nat_lt}
use Rattle.serde_json.specs.Data.{Members, no_members, member}
use Rattle.serde_json.specs.View.{members_view, items_view}
use Rattle.serde_json.specs.declared.value.Value.{Value}
use Rattle.oim_meta.specs.Members.{any_item, any_member}
use Rattle.oim_meta.specs.Faults.{is_anything}
use Rattle.oim_meta.specs.Counts.{count_of}

pub count_is : (es : List (String Global × Value)) → count_of (members_view es) ≡ length es
count_is [] = refl
count_is (e ∷ es) = ap suc (count_is es)

pub some_item : (vs : List Value) → any_item (λ _. true) (items_view vs) ≡ not (length vs == 0)
some_item [] = refl
some_item (v ∷ vs) = grind arith

-- An object has some member exactly if its count is above 0.
pub any_is_counted : (ms : Members) → any_member is_anything ms ≡ nat_lt 0 (count_of ms)
any_is_counted no_members = refl
any_is_counted (member k d ms) = grind arith
