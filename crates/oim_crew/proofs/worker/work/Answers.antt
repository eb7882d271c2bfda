use Rattle.std.proofs.Common.{arith, ap, ◌∙◌, subst, length, length-append, slice_get, ◌≡◌, ◌∷◌, [], Some}
use Rattle.oim_crew.specs.Shifts.{IsServed}
use Rattle.oim_crew.proofs.LongerLists.{zip-push}
use Rattle.oim_crew.proofs.worker.work.Goals as goal

pub loop-number-preserved : goal.loop-number-preserved
loop-number-preserved g c =
    let gives = g.S.Serve.gives c.args.server.now c.args.shared.now in let now = c.args.claims.now in let old = c.loop-number.invariant in
    let drawn = c.in-Some.ensures in
    let after = drawn.3 in
    let pushed = c.push_reserved.ensures in
    let numbers = ap (λ d. d.numbers) after in
    let here = subst (λ z. slice_get z.items c.in-Some.number ≡ Some c.in-Some.item) old.mine drawn.1 in
    record {
      mine = ap (λ d. d.claims) after ∙ old.mine;
      served = zip-push (IsServed gives now.items) _ _ _ _ c.in-Some.number c.serve.result numbers pushed.items old.served (c.in-Some.item, here, c.serve.ensures);
      count = omega (
        arith,
        ap length numbers,
        ap length pushed.items,
        length-append c.loop-number.seat.numbers (c.in-Some.number ∷ []),
        length-append c.loop-number.done.items (c.serve.result ∷ []),
        old.count,
      );
      room = omega (arith, pushed.capacity, old.room);
    }
