use Rattle.std.proofs.Common.{◌≡◌, List, arith, length, sym, ap, subst, ◌∙◌, ◌++◌, ◌∷◌, []}
use Rattle.std.specs.List.{All, slice_get}
use Rattle.oim_fast.specs.state.FrameParts.{IsPart}
use Rattle.oim_fast.specs.declared.frame.part.FramePart.{FramePart}
use Rattle.oim_row.proofs.Growth.{all_push, slice_get-last}
use Rattle.oim_fast.proofs.frame.parts.FrameParts.keep.Goals as goal

pub returns-in_err-add-clause-parts : goal.returns-in_err-add-clause-parts
returns-in_err-add-clause-parts c = λ f keys all part.
    let before = c.make_room.new.self.list.items in
    subst (All (IsPart f keys)) (sym c.in_ok-push.ensures.items) (all_push (IsPart f keys) before c.args.part (c.make_room.ensures f keys all) part)

pub returns-clause-parts : goal.returns-clause-parts
returns-clause-parts c = λ f keys all part.
    let before = c.make_room.new.self.list.items in
    subst (All (IsPart f keys)) (sym c.in_ok-push.ensures.items) (all_push (IsPart f keys) before c.args.part (c.make_room.ensures f keys all) part)

pub returns-in_err-push-clause-parts : goal.returns-in_err-push-clause-parts
returns-in_err-push-clause-parts c = λ f keys all is. subst (All (IsPart f keys)) (sym c.in_err-push.ensures.items) (c.make_room.ensures f keys all)

pub returns-clause-place : goal.returns-clause-place
returns-clause-place c =
    let before = c.make_room.new.self.list.items in
    let place : c.len-place.result ≡ length before = omega (arith, c.len-place.ensures, c.make_room.new.self.list.ok.0) in
    ap (λ (xs : List FramePart). slice_get xs c.len-place.result) c.in_ok-push.ensures.items ∙ ap (slice_get (before ++ c.args.part ∷ [])) place ∙ slice_get-last before c.args.part
