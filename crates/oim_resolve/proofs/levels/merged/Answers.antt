use Rattle.std.proofs.Common.{List, ℕ, [], ◌++◌, ap, ◌∙◌, arith}
use Rattle.std.specs.Borrow.{Bor}
use Rattle.oim_resolve.proofs.Merges.{first_ended, later_rise, rest_is, second_ended, took_both, took_first, took_second}
use Rattle.oim_resolve.proofs.levels.merged.Goals as goal
use Rattle.oim_resolve.proofs.levels.merged.Goals.{then-loop-i-test+else-j-second, else-loop-i-test}

pub loop-i-preserved-in-Less : goal.loop-i-preserved-in-Less
loop-i-preserved-in-Less c =
    let kept = c.loop-i.invariant in
    record {
      within_first = omega (arith, c.loop-i-test.true);
      within_second = kept.within_second;
      rise = kept.rise;
      so_far = took_first c.loop-i.names.items c.args.first.now c.args.second.now _ c.loop-i.i c.loop-i.j kept.rise kept.so_far _ _ c.loop-i-test.true c.if-j-second.true
          c.push.new.self.items c.in_ok-push-in-Less.ensures.items c.in-Less.ensures;
    }

pub loop-i-preserved-in-Equal : goal.loop-i-preserved-in-Equal
loop-i-preserved-in-Equal c =
    let kept = c.loop-i.invariant in
    record {
      within_first = omega (arith, c.loop-i-test.true);
      within_second = omega (arith, c.if-j-second.true);
      rise = later_rise c.loop-i.names.items c.args.first.now c.args.second.now _ c.loop-i.i c.loop-i.j kept.rise kept.so_far (record { ref_ptr = (0, 0); now = [] }) (record { ref_ptr = (0, 0); now = [] }) c.loop-i-test.true c.if-j-second.true;
      so_far = took_both c.loop-i.names.items c.args.first.now c.args.second.now _ c.loop-i.i c.loop-i.j kept.rise kept.so_far _ _ c.loop-i-test.true c.if-j-second.true
          c.push-in-Equal.new.self.items c.in_ok-push-in-Equal.ensures.items c.in-Equal.ensures;
    }

pub loop-i-preserved : goal.loop-i-preserved
loop-i-preserved c =
    let kept = c.loop-i.invariant in
    record {
      within_first = kept.within_first;
      within_second = omega (arith, c.if-j-second.true);
      rise = later_rise c.loop-i.names.items c.args.first.now c.args.second.now _ c.loop-i.i c.loop-i.j kept.rise kept.so_far (record { ref_ptr = (0, 0); now = [] }) (record { ref_ptr = (0, 0); now = [] }) c.loop-i-test.true c.if-j-second.true;
      so_far = took_second c.loop-i.names.items c.args.first.now c.args.second.now _ c.loop-i.i c.loop-i.j kept.rise kept.so_far _ _ c.loop-i-test.true c.if-j-second.true
          c.push-in-Greater.new.self.items c.in_ok-push-in-Greater.ensures.items c.in-Greater.ensures;
    }

pub returns : goal.returns
returns c =
    let kept = c.loop-i.invariant in
    let first = c.in_ok-extend_from_slice.ensures.items ∙ ap (λ (xs : List (Bor (List ℕ))). c.loop-i.names.items ++ xs) (rest_is c.args.first.now c.loop-i.i) in
    let second = c.in_ok-extend_from_slice-2.ensures.items
    ∙ ap (λ (xs : List (Bor (List ℕ))). c.extend_from_slice.new.self.items ++ xs) (rest_is c.args.second.now c.loop-i.j) in
    elim c.loop-i-test.branch [
      | then-loop-i-test+else-j-second w ↦
          second_ended c.loop-i.names.items c.args.first.now c.args.second.now _ c.loop-i.i c.loop-i.j kept.rise kept.so_far
          c.extend_from_slice.new.self.items c.extend_from_slice-2.new.self.items first second (omega (arith, w.if-j-second))
      | else-loop-i-test w ↦
          first_ended c.loop-i.names.items c.args.first.now c.args.second.now _ c.loop-i.i c.loop-i.j kept.rise kept.so_far
          c.extend_from_slice.new.self.items c.extend_from_slice-2.new.self.items first second (omega (arith, w.loop-i-test))
    ]
