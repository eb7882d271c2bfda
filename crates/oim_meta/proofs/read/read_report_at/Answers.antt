use Rattle.oim_meta.proofs.Refused.{of_unread}
use Rattle.oim_meta.proofs.read.read_report_at.Goals as goal

pub returns-in-Err-clause-fault : goal.returns-in-Err-clause-fault
returns-in-Err-clause-fault c =
    rw c.of_whole.ensures (of_unread c.args.limits c.args.parameters c.args.types c.args.bytes.now c.in-Err.fault c.in-Err.ensures.fault)
