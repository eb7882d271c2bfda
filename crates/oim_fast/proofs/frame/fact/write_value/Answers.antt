use Rattle.std.proofs.Common.{take, arith, length-take-le}
use Rattle.oim_text.proofs.EscapedLengths.{escaped_length}
use Rattle.oim_fast.proofs.FactTextLaws.{value_none, value_some}
use Rattle.oim_text.proofs.PlacedBytes.{Placed-then}
use Rattle.oim_fast.proofs.frame.fact.write_value.Goals as goal

pub write_byte-at-requires : goal.write_byte-at-requires
write_byte-at-requires c =
    let v = c.args.value.now in
    let text = take v.len v.bytes.now in
    omega (arith, c.requires.memory, c.copy_short-at.ensures.moved, c.copy_short-at.ensures.len, c.write_text-at.ensures.moved, c.write_text-at.ensures.len, escaped_length text, length-take-le v.len v.bytes.now c.requires.value)

pub write_byte-requires : goal.write_byte-requires
write_byte-requires c =
    let v = c.args.value.now in
    let text = take v.len v.bytes.now in
    omega (
      arith,
      c.requires.memory,
      c.copy_short-at.ensures.moved,
      c.copy_short-at.ensures.len,
      c.write_text-at.ensures.moved,
      c.write_text-at.ensures.len,
      c.write_byte-at.ensures.moved,
      c.write_byte-at.ensures.len,
      escaped_length text,
      length-take-le v.len v.bytes.now c.requires.value,
    )

pub returns-then-value-clause-bytes : goal.returns-then-value-clause-bytes
returns-then-value-clause-bytes c = value_none c.args.value.now c.if-value.true c.copy_short.ensures

pub returns-clause-behind : goal.returns-clause-behind
returns-clause-behind c =
    let v = c.args.value.now in
    let text = take v.len v.bytes.now in
    omega (
      arith,
      c.requires.memory,
      c.copy_short-at.ensures.moved,
      c.copy_short-at.ensures.len,
      c.write_text-at.ensures.moved,
      c.write_text-at.ensures.len,
      c.write_byte-at.ensures.moved,
      c.write_byte-at.ensures.len,
      c.write_byte.ensures.moved,
      c.write_byte.ensures.len,
      escaped_length text,
      length-take-le v.len v.bytes.now c.requires.value,
    )

pub returns-clause-bytes : goal.returns-clause-bytes
returns-clause-bytes c = value_some c.args.value.now c.if-value.false c.copy_short-at.ensures c.write_text-at.ensures (Placed-then c.write_byte-at.ensures c.write_byte.ensures)
