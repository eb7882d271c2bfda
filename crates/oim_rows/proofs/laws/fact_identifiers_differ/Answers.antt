use Rattle.std.proofs.Common.{arith}
use Rattle.oim_rows.proofs.FactIds.{report_ids_differ}
use Rattle.oim_rows.proofs.laws.fact_identifiers_differ.Goals as goal

pub returns : goal.returns
returns c = λ limit files small within. (report_ids_differ c.args.report.now c.stands_in_order.ensures.order c.stands_in_order.ensures.identifiers limit 0 files small (omega (arith, within))).1
