use Rattle.std.proofs.Common.{refl}
use Rattle.oim_run.proofs.request.request_of.Goals as goal

pub returns-clause-answers : goal.returns-clause-answers
returns-clause-answers c = (_, refl, record { values = c.request_by.ensures.values; fails = c.request_by.ensures.fails })
