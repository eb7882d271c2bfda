use Rattle.std.proofs.Common.{ap, rules}
use Rattle.oim_files.proofs.StepFacts.{read_most}
use Rattle.oim_files.proofs.steps.bytes_of.Goals as goal

pub returns-in-Ok-clause-bytes : goal.returns-in-Ok-clause-bytes
returns-in-Ok-clause-bytes g c =
    read_most g.R.Read.remaining c.args.reader.now.reader c.take.result.inner.now.reader c.take.result.limit c.new-bytes.result.items c.read_to_end.new.buf.items
    (ap (λ r. r.now.reader) c.take.ensures.inner) (search rules) (search rules) c.in-Ok.ensures.bytes
