use Rattle.std.proofs.Common.{ap, refl, ◌∙◌}
use Rattle.oim_merge.specs.Writers.{WriterView, writing}
use Rattle.oim_merge.proofs.writer.DocumentWriter.put.Goals as goal

pub invariant_of-self : goal.invariant_of-self
invariant_of-self g c =
    let i = c.self.inside in
    let w = writing i.layout i.head.value i.items.value i.before.value i.sink.value in
    rw (c.of.ensures, c.of-2.ensures) (c.write_block.ensures w refl (ap (λ (v : WriterView). v.sink) c.self.view_is ∙ c.requires) c.self.invariant)
