use Rattle.std.proofs.Common.{arith}
use Rattle.oim_resolve.proofs.Overrides.{found_decimals, none_decimals}
use Rattle.oim_resolve.proofs.levels.written_decimals.Goals as goal

pub returns-in-Some : goal.returns-in-Some
returns-in-Some c = found_decimals c.args.levels.now c.loop-level.level-index c.level-item.result c.loop-level-test.true c.level-item.is _ c.in-Some.ensures.value c.loop-level.invariant

pub returns : goal.returns
returns c = none_decimals c.args.levels.now c.loop-level.level-index (omega arith) c.loop-level.invariant
