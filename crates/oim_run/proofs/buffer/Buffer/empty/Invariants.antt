use Rattle.std.proofs.Common.{◌≡◌, vec_len}
use Rattle.std.specs.Io.KnownBytes.{Keeps}
use Rattle.oim_run.specs.state.Buffers.{told_behind}
use Rattle.oim_run.proofs.buffer.Buffer.empty.Given as goal

abbrev pub invariant-loop-self : goal.invariant-loop-self
invariant-loop-self g l =
    Keeps (told_behind (g.W.Write.contents l.initial.self.first.value) (g.W.Write.contents l.initial.self.writer) l.initial.self.waiting.items)
    (told_behind (g.W.Write.contents l.self.first.value) (g.W.Write.contents l.self.writer) l.self.waiting.items)
    × (l.self.mark ≡ l.initial.self.mark)

abbrev pub decreases-loop-self : goal.decreases-loop-self
decreases-loop-self g l = vec_len l.self.waiting
