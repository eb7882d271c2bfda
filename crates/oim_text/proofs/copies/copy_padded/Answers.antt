use Rattle.std.proofs.Common.{◌≡◌, ◌+◌, arith}
use Rattle.std.proofs.lemmas.List.{take_rest}
use Rattle.oim_text.proofs.PlacedBytes.{Placed-front, Placed-more}
use Rattle.oim_text.proofs.copies.copy_padded.Goals as goal

pub returns : goal.returns
returns c = Placed-front c.args.text.now c.args.len c.loop-done.done (omega arith) (omega arith) (omega arith) c.loop-done.invariant.bytes

pub loop-done-preserved : goal.loop-done-preserved
loop-done-preserved c =
    let text = c.args.text.now in
    let done = c.loop-done.done in
    let both = Placed-more text done 32 c.loop-done.invariant.bytes (rw (take_rest text done) at c.copy_chunk-in-loop-done.ensures) in
    let end : c.args.at + done + 32 ≡ c.args.at + (done + 32) = omega arith in
    record { within = omega arith; bytes = rw end at both }
