use Rattle.std.proofs.Common.{◌≡◌, ◌+◌, ◌-◌, ap, arith}
use Rattle.std.proofs.lemmas.List.{take_rest}
use lib.Count.{count_trailing_zeros}
use Rattle.oim_text.proofs.EscapeMarks.{marks_stand, more_behind}
use Rattle.oim_text.proofs.Escaping.{block_byte, block_front}
use Rattle.oim_text.proofs.copies.copy_block.Goals as goal

pub returns-then-run-len-clause-bytes : goal.returns-then-run-len-clause-bytes
returns-then-run-len-clause-bytes c =
    let text = c.args.text.now in
    let done = c.loop-done.done in
    let left = c.args.len - done in
    let i = c.loop-done.invariant in
    let stand = marks_stand text done left (omega arith) (omega arith) (omega (arith, ap (count_trailing_zeros 64) i.marks)) in
    let whole : done + left ≡ c.args.len = omega arith in
    rw whole at (block_front c.loop-done.at text done left (omega arith) (omega arith) (omega arith) stand i.bytes)

pub loop-done-preserved : goal.loop-done-preserved
loop-done-preserved c =
    let text = c.args.text.now in
    let done = c.loop-done.done in
    let run = count_trailing_zeros 64 c.loop-done.marks in
    let i = c.loop-done.invariant in
    let stand = marks_stand text done run (omega arith) (omega arith) (omega (arith, ap (count_trailing_zeros 64) i.marks)) in
    record {
      read = omega arith;
      within = omega (arith, c.copy_byte-at.ensures.within);
      marks = more_behind text done run c.loop-done.marks i.marks;
      bytes = block_byte c.loop-done.at c.copy_byte-at.result text done run (omega arith) (omega arith) (omega arith) stand i.bytes c.copy_byte-at.ensures.bytes (rw (take_rest text (done + (run + 1))) at c.copy_chunk-in-loop-done.ensures);
    }
