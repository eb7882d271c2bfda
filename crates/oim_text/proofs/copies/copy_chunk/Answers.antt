use Rattle.std.proofs.Common.{◌≡◌, length, take, arith, length-take-le}
use Rattle.std.proofs.lemmas.Simd.{take_more_put_chunk, length-put_chunk}
use Rattle.oim_text.proofs.copies.copy_chunk.Goals as goal

pub returns : goal.returns
returns c =
    let front = take 32 c.args.text.now in
    let long : length front ≡ 32 = length-take-le 32 c.args.text.now c.requires.text in
    record {
      bytes = take_more_put_chunk c.args.at c.args.memory.now front _ (omega arith) c.requires.memory;
      moved = omega arith;
      len = length-put_chunk c.args.at c.args.memory.now front;
    }
