use Rattle.std.proofs.Common.{arith}
use Rattle.oim_text.proofs.Escaping.{byte_copied}
use Rattle.oim_text.proofs.copies.copy_bytes.Goals as goal

pub loop-i-preserved : goal.loop-i-preserved
loop-i-preserved c = record {
  within = omega (arith, c.copy_byte-at.ensures.within);
  bytes = byte_copied c.args.text.now c.loop-i.i 0 (omega arith) c.loop-i.invariant.bytes c.copy_byte-at.ensures.bytes;
}
