use Rattle.oim_meta.proofs.Refused.{of_refusal}
use Rattle.oim_meta.proofs.read.read_report.Goals as goal

pub returns-in-Err-clause-fault : goal.returns-in-Err-clause-fault
returns-in-Err-clause-fault c =
    rw c.fault.ensures (of_refusal c.args.limits c.args.parameters c.args.types c.args.bytes.now c.in-Err.refusal c.in-Err.ensures.fault)
