use Rattle.oim_merge.proofs.writer.DocumentWriter.begin.Goals as goal

pub invariant_of-result : goal.invariant_of-result
invariant_of-result g c = rw (c.of-before.ensures, c.of.ensures, c.of-2.ensures, c.of-3.ensures) (c.write_head-progress.ensures c.args.layout)
