use Rattle.std.proofs.Common.{◌≡◌, ◌&&◌, ◌∙◌, sym, ap, true, false, rules}
use Rattle.std.specs.List.{list_any}
use Rattle.std.proofs.lemmas.Result.{IfOk-weaker}
use Rattle.oim_schema.specs.Members.{are_members, parts_of}
use Rattle.oim_schema.specs.state.HeldMembers.{holds, is_unheld}
use Rattle.oim_schema.proofs.HeldLaws.{and_true, free, free_none, last_part, next_members, no_members}
use Rattle.oim_schema.proofs.held_members.are_held_members.Goals as goal

pub loop-part-init : goal.loop-part-init
loop-part-init c =
    let b = c.args.names.now in
    let parts = parts_of c.args.text.now in
    let none = free_none b (holds c.new-members.result) (λ n. ap (list_any _) c.new-members.ensures.empty) parts in
    (sym (and_true (are_members b parts)) ∙ ap (λ x. are_members b parts && x) (sym none), c.utf8.text)

pub returns-then-not-branch : goal.returns-then-not-branch
returns-then-not-branch c =
    let b = c.args.names.now in
    let held = holds c.loop-part.members in
    let new : c.in_ok-hold.field-0 ≡ false = search rules in
    let old : is_unheld b held c.in-Some.part.now ≡ false = sym c.in_ok-hold.ensures.new ∙ new in
    sym (c.loop-part.invariant.0 ∙ ap (λ ps. are_members b ps && free b held ps) c.in-Some.ensures.0 ∙ no_members b held c.in-Some.part.now (parts_of c.in-Some.rest.now) old)

pub loop-part-preserved : goal.loop-part-preserved
loop-part-preserved c =
    let b = c.args.names.now in
    let held = holds c.loop-part.members in
    let new : c.in_ok-hold.field-0 ≡ true = search rules in
    let fresh : is_unheld b held c.in-Some.part.now ≡ true = sym c.in_ok-hold.ensures.new ∙ new in (
      c.loop-part.invariant.0 ∙ ap (λ ps. are_members b ps && free b held ps) c.in-Some.ensures.0
          ∙ next_members b held (holds c.hold.new.members) c.in-Some.part.now (parts_of c.in-Some.rest.now) fresh (c.in_ok-hold.ensures.held new),
      search rules,
    )

pub returns : goal.returns
returns c =
    let b = c.args.names.now in
    let held = holds c.loop-part.members in
    let all = c.loop-part.invariant.0 ∙ ap (λ ps. are_members b ps && free b held ps) c.in_default.ensures ∙ last_part b held c.loop-part.others.now in
    IfOk-weaker c.hold-2.result _ _ (λ r e. e ∙ sym all) c.hold-2.ensures.new
