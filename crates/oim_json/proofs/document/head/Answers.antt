use Rattle.std.proofs.Common.{refl}
use Rattle.oim_json.specs.JsonText.{head_text}
use Rattle.oim_json.proofs.document.head.Goals as goal

pub returns : goal.returns
unfolding head_text
returns c =
    rw (
      c.in_ok-extend_from_slice-3.ensures.items,
      c.in_ok-push_joined.ensures,
      c.in_ok-extend_from_slice-2.ensures.items,
      c.in_ok-push_bindings.ensures,
      c.in_ok-extend_from_slice.ensures.items,
      c.in_ok-push_base_url.ensures,
      c.in_ok-out.ensures.items,
      c.as_slice.ensures,
      c.info-2.ensures,
      c.info.ensures,
      c.namespaces.ensures,
    ) refl
