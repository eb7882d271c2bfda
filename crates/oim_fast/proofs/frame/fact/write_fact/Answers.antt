use Rattle.std.proofs.Common.{arith}
use Rattle.oim_fast.proofs.FactTextLaws.{fact_written}
use Rattle.oim_fast.proofs.frame.fact.write_fact.Goals as goal

pub returns-clause-fact : goal.returns-clause-fact
returns-clause-fact c = fact_written c.args.references.now c.args.frame.now c.args.value.now c.write_object.new.memory c.args.start.now.items c.write_object.result (omega (arith, c.requires.memory)) c.copy_text-at.ensures c.write_object.ensures.object
