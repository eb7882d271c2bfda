use Rattle.oim_row.proofs.Growth.{grows_none}
use Rattle.oim_fast.proofs.frame.frame_maker.decimals_of.Goals as goal

pub returns-then-not-has_decimals-clause-grows : goal.returns-then-not-has_decimals-clause-grows
returns-then-not-has_decimals-clause-grows c = grows_none c.args.references.now

pub returns-in-None-clause-grows : goal.returns-in-None-clause-grows
returns-in-None-clause-grows c = grows_none c.args.references.now
