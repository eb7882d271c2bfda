use Rattle.std.proofs.Common.{arith, subst, sym, ap, ◌∙◌, All, vec_len, vec_capacity}
use Rattle.oim_crew.specs.Shifts.{IsShift, IsStarted, IsStation}
use Rattle.oim_crew.proofs.StoppedWorkers.{all_stopped_more, none_may}
use Rattle.oim_crew.proofs.LongerLists.{all-first, all-more}
use Rattle.oim_crew.proofs.crew.start_each.Goals as goal
use Rattle.oim_crew.proofs.crew.start_each.Goals.{in-Ok, in-Err}

pub loop-station-preserved : goal.loop-station-preserved
loop-station-preserved g c =
    let server = c.args.site.now.server.now in let shared = c.args.site.now.shared.now in let gives = g.S.Serve.gives server shared in let now = c.args.site.now.claims.now in let old = c.loop-station.invariant in
    let step = c.in-Some.ensures.steps in
    let next = all-first (IsStation now) _ _ _ step.0 old.left in
    elim c.match-start.branch [
      | in-Ok w ↦
          let pushed = w.push_reserved.ensures in
          let started = ap (λ r. vec_len r.started) w.room-is in let shifts = ap (λ r. vec_len r.shifts) w.room-is in
          let room = ap (λ r. vec_capacity r.started) w.room-is in let room' = ap (λ r. vec_capacity r.shifts) w.room-is in record {
            left = next.1;
            started = all-more (IsStarted server shared now) _ _ _ (ap (λ r. r.started.items) w.room-is ∙ pushed.items) old.started (w.in-Ok.ensures.started);
            refused = subst (λ l. All (IsShift gives now) l) (sym (ap (λ r. r.shifts.items) w.room-is)) old.refused;
            count = omega (arith, old.count, pushed.len);
            all = omega (arith, step.1, old.all);
            alone = λ none. absurd (w.in-Ok.ensures.unasked (none_may c.loop-station.place c.args.starts none));
            room = (omega (arith, old.room.0, pushed.capacity), omega (arith, old.room.1, pushed.capacity));
          }
      | in-Err w ↦
          let pushed = w.push_reserved-in-Err.ensures in
          let started = ap (λ r. vec_len r.started) w.room-is in let shifts = ap (λ r. vec_len r.shifts) w.room-is in
          let room = ap (λ r. vec_capacity r.started) w.room-is in let room' = ap (λ r. vec_capacity r.shifts) w.room-is in record {
            left = next.1;
            started = subst (λ l. All (IsStarted server shared now) l) (sym (ap (λ r. r.started.items) w.room-is)) old.started;
            refused = all-more (IsShift gives now) _ _ _ (ap (λ r. r.shifts.items) w.room-is ∙ pushed.items) old.refused (w.in-Err.ensures.refused);
            count = omega (arith, old.count, pushed.len);
            all = omega (arith, step.1, old.all);
            alone = λ none.
                let before = old.alone none in (
                  ap (λ r. r.started.items) w.room-is ∙ before.0,
                  all_stopped_more _ _ _ (ap (λ r. r.shifts.items) w.room-is ∙ pushed.items) before.1 (w.in-Err.ensures.unasked (none_may c.loop-station.place c.args.starts none)),
                );
            room = (omega (arith, old.room.0, pushed.capacity), omega (arith, old.room.1, pushed.capacity));
          }
    ]
