use Rattle.std.proofs.Common.{◌≡◌, ◌-◌, take, drop, ap, ◌∙◌}
use Rattle.std.specs.Prelude.{slice_range}
use Rattle.std.proofs.lemmas.List.{take_rest}
use Rattle.oim_text.specs.Buffers.{BufferText}
use Rattle.oim_fast.proofs.WriteLaws.{range_of_front}
use Rattle.oim_fast.proofs.frame.write.copy_range.Goals as goal

pub returns : goal.returns
returns c =
    let memory = c.deref.result.now in
    let text = c.args.text.now.items in
    let from = c.args.from in
    let to = c.args.to in
    let is : take c.text.inside.len memory ≡ text = ap (take c.text.inside.len) c.deref.ensures.value ∙ ap (λ (b : BufferText). b.items) c.text.view_is in
    let same : take (to - from) (drop from memory) ≡ slice_range text from to = range_of_front memory text c.text.inside.len from to is c.requires.range.0 c.requires.range.1 in
    rw same at (rw (take_rest memory from) at c.copy_padded.ensures)
