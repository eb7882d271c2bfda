use Rattle.std.proofs.Common.{arith, subst}
use Rattle.oim_crew.specs.Shifts.{IsShift, IsStarted, serving}
use Rattle.oim_crew.proofs.LongerLists.{all-first, all-more}
use Rattle.oim_crew.proofs.crew.join_crew.Goals as goal

pub loop-handle-preserved : goal.loop-handle-preserved
loop-handle-preserved g c =
    let shared = c.args.site.now.shared.now in let server = serving c.args.under_way.served c.args.site.now in let now = c.args.site.now.claims.now in let old = c.loop-handle.invariant in
    let step = c.in-Some.ensures.steps in
    let next = all-first (IsStarted server shared now) _ _ _ step.0 old.left in
    let pushed = c.push_reserved.ensures in
    let kept = subst (λ z. IsShift (g.S.Serve.gives z c.in-Some.handle.promise.shared.value) c.in-Some.handle.promise.claims.value c.join.result) next.0.0 c.join.ensures in
    let kept' = subst (λ z. IsShift (g.S.Serve.gives server z) c.in-Some.handle.promise.claims.value c.join.result) next.0.1 kept in
    record {
      left = next.1;
      done = all-more (IsShift (g.S.Serve.gives server shared) now) _ _ _ pushed.items old.done (subst (λ z. IsShift (g.S.Serve.gives server shared) z c.join.result) next.0.2 kept');
      count = omega (arith, step.1, pushed.len, old.count);
      room = omega (arith, pushed.capacity, old.room);
    }
