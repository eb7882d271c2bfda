use Rattle.oim_period.proofs.DateTexts.{day_tells, day_test}
use Rattle.oim_period.proofs.written_date.is_date.Goals as goal

pub returns-clause-means : goal.returns-clause-means
returns-clause-means c = rw (c.is_some.ensures, ← c.as_bytes.ensures.value) (day_tells c.as_bytes.result.now c.date.result c.date.ensures.exact)

pub returns-clause-value : goal.returns-clause-value
returns-clause-value c = rw (c.is_some.ensures, ← c.as_bytes.ensures.value) (day_test c.as_bytes.result.now c.date.result c.date.ensures.exact)
