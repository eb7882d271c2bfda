use Rattle.std.proofs.Common.{append_assoc}
use Rattle.oim_json.specs.JsonText.{member_text}
use Rattle.oim_json.proofs.member.push_member.Goals as goal

pub returns : goal.returns
unfolding member_text
returns c =
    rw (
      c.in_ok-push.ensures.items,
      c.in_ok-push_value.ensures,
      c.value.ensures,
      c.in_ok-extend_from_slice-3.ensures.items,
      c.in_ok-push_joined.ensures,
      c.dimensions.ensures.dimensions,
      c.in_ok-extend_from_slice-2.ensures.items,
      c.in_ok-push_decimals.ensures,
      c.decimals.ensures,
      c.in_ok-extend_from_slice.ensures.items,
      c.in_ok-push_text.ensures,
      c.id.ensures,
    ) (simp append_assoc)
