use Rattle.std.proofs.Common.{◌∙◌, sym, ap, rules}
use Rattle.std.specs.String.{string_bytes}
use Rattle.oim_schema.specs.Members.{joined, parts_of}
use Rattle.oim_schema.proofs.JoinedLaws.{all_joined, with_parts}
use Rattle.oim_schema.proofs.joined.joined_members.Goals as goal

pub loop-part-init : goal.loop-part-init
unfolding joined
loop-part-init c = (ap (λ s. with_parts s (parts_of c.args.text.now)) c.in_ok-so_far.ensures.bytes ∙ all_joined (parts_of c.args.text.now), c.utf8.text)

pub loop-part-preserved : goal.loop-part-preserved
unfolding with_parts
loop-part-preserved c =
    let so_far = string_bytes c.loop-part.so_far in
    let cut = ap (with_parts so_far) c.in-Some.ensures.0 in
    (ap (λ s. with_parts s (parts_of c.in-Some.rest.now)) c.in_ok-append_part.ensures ∙ sym cut ∙ c.loop-part.invariant.0, search rules)

pub returns : goal.returns
unfolding with_parts
returns c =
    let so_far = string_bytes c.loop-part.so_far in
    let cut = ap (with_parts so_far) c.in_default.ensures in
    c.new.ensures ∙ c.in_ok-append_part-2.ensures ∙ sym cut ∙ c.loop-part.invariant.0
