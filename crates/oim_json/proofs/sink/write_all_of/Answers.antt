use Rattle.std.proofs.Common.{arith, ◌∙◌, ◌<◌}
use Rattle.oim_json.proofs.Writes.{writes_more, stops}
use Rattle.oim_json.proofs.sink.write_all_of.Goals as goal

pub loop-at-preserved : goal.loop-at-preserved
loop-at-preserved g c =
    let wrote = c.in-Ok.ensures in
    let some : 0 < c.in-Ok.n = let zero = c.in-Ok.n-test.1 in omega arith in
    let more = writes_more _ _ _ _ _ _ c.loop-at.invariant.0 wrote.0 c.loop-at.invariant.2 (wrote.2 some).1 in
    (more.0, (wrote.2 some).0 ∙ c.loop-at.invariant.1, more.1)

pub returns-in-Ok-eq0 : goal.returns-in-Ok-eq0
returns-in-Ok-eq0 g c =
    let wrote = c.in-Ok-eq0.ensures.1 (omega arith) in
    (wrote.0, stops _ _ _ _ _ (omega arith) c.loop-at.invariant.2 wrote.1)

pub returns-in-Err : goal.returns-in-Err
returns-in-Err g c = let wrote = c.in-Err.ensures in (wrote.0, stops _ _ _ _ _ (omega arith) c.loop-at.invariant.2 wrote.1)
