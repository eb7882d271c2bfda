use Rattle.std.proofs.Common.{◌≡◌, List, arith, length, sym, ap, subst, ◌∙◌, ◌++◌, ◌∷◌, []}
use Rattle.std.specs.List.{All, slice_get}
use Rattle.oim_fast.specs.state.KeptFrames.{IsFrame}
use Rattle.oim_fast.specs.declared.frame.frame.Frame.{Frame}
use Rattle.oim_row.proofs.Growth.{all_push, slice_get-last}
use Rattle.oim_fast.proofs.frame.frames.Frames.keep.Goals as goal

pub returns-in_err-add-clause-frames : goal.returns-in_err-add-clause-frames
returns-in_err-add-clause-frames c = λ f keys all is.
    let before = c.make_room.new.self.list.items in
    subst (All (IsFrame f keys)) (sym c.in_ok-push.ensures.items) (all_push (IsFrame f keys) before c.args.frame (c.make_room.ensures f keys all) is)

pub returns-clause-frames : goal.returns-clause-frames
returns-clause-frames c = λ f keys all is.
    let before = c.make_room.new.self.list.items in
    subst (All (IsFrame f keys)) (sym c.in_ok-push.ensures.items) (all_push (IsFrame f keys) before c.args.frame (c.make_room.ensures f keys all) is)

pub returns-in_err-push-clause-frames : goal.returns-in_err-push-clause-frames
returns-in_err-push-clause-frames c = λ f keys all is. subst (All (IsFrame f keys)) (sym c.in_err-push.ensures.items) (c.make_room.ensures f keys all)

pub returns-clause-place : goal.returns-clause-place
returns-clause-place c =
    let before = c.make_room.new.self.list.items in
    let place : c.len-place.result ≡ length before = omega (arith, c.len-place.ensures, c.make_room.new.self.list.ok.0) in
    ap (λ (xs : List Frame). slice_get xs c.len-place.result) c.in_ok-push.ensures.items ∙ ap (slice_get (before ++ c.args.frame ∷ [])) place ∙ slice_get-last before c.args.frame
