-- If no text has two names and each name is an NCName, the members' texts are namespaces.
use Rattle.std.proofs.Common.{◌≡◌, Bool, true, false, not, refl}
use Rattle.serde_json.specs.Data.{Members, no_members, member}
use Rattle.oim_names.specs.Bindings.{HaveNames, IsNamespaces}
use Rattle.oim_names.specs.Names.{is_ncname}
use Rattle.oim_meta.specs.Members.{is_text, any_member}
use Rattle.oim_meta.specs.Faults.{is_bad_prefix, has_bad_prefix}
use Rattle.oim_meta.specs.Order.{names_of}
use Rattle.oim_report.specs.Rising.{IsRising}
use Rattle.oim_meta.specs.Prefixes.{bindings_of}
use Rattle.oim_meta.proofs.Unrepeated.{left, right}
use Rattle.oim_meta.proofs.OwnUris.{own_uris, in_order}

holds : (b : Bool) → not b ≡ false → b ≡ true
holds true h = refl
holds false h = absurd cc

have_names : (ms : Members) → any_member is_bad_prefix ms ≡ false → HaveNames (bindings_of ms)
have_names no_members h = tt
have_names (member k d ms) h = (
  holds (is_ncname k) (left (not (is_ncname k)) (not (is_text d)) (left (is_bad_prefix k d) (any_member is_bad_prefix ms) h)),
  have_names ms (right (is_bad_prefix k d) (any_member is_bad_prefix ms) h),
)

-- Members in order, without a bad prefix.
pub namespaces_are : (ms : Members) → IsRising (names_of ms) → has_bad_prefix ms ≡ false → IsNamespaces (bindings_of ms)
namespaces_are ms rising h =
    (in_order ms rising, own_uris ms rising (right (any_member is_bad_prefix ms) _ h), have_names ms (left (any_member is_bad_prefix ms) _ h))
