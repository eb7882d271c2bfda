use Rattle.oim_convert.proofs.WrittenIds.{answer_ids, run_ids}
use Rattle.oim_convert.proofs.laws.written_identifiers_differ.Goals as goal

pub returns-clause-answer : goal.returns-clause-answer
returns-clause-answer c = λ limit files small within. answer_ids c.args.report.now limit files (c.fact_identifiers_differ.ensures limit files small within)

pub returns-clause-runs : goal.returns-clause-runs
returns-clause-runs c = λ limit files hs small within are. run_ids c.args.report.now limit files hs (c.fact_identifiers_differ.ensures limit files small within) are
