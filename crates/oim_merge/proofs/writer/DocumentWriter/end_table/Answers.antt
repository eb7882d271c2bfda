use Rattle.std.proofs.Common.{refl}
use Rattle.oim_merge.specs.Writers.{writing}
use Rattle.oim_merge.proofs.writer.DocumentWriter.end_table.Goals as goal

pub invariant_of-self : goal.invariant_of-self
invariant_of-self c =
    let i = c.self.inside in
    let w = writing i.layout i.head.value i.items.value i.before.value i.sink.value in
    rw c.of.ensures (c.note_ending.ensures.advances i.layout i.sink.value w refl refl c.self.invariant)
