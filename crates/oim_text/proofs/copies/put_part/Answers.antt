use Rattle.std.proofs.Common.{◌++◌, arith, take, drop, length, length-append, length-take-le}
use Rattle.std.proofs.lemmas.List.{length-take}
use Rattle.oim_text.proofs.EscapedLengths.{escaped_length}
use Rattle.oim_text.proofs.copies.put_part.Goals as goal

pub invariant_of-out-2 : goal.invariant_of-out-2
invariant_of-out-2 c =
    let text = take c.args.len c.args.text.now in
    let memory = c.copy_escaped-end.new.memory in
    let long = length-append memory (drop (length memory) c.make_room.new.memory.items) in
    let part = length-take c.make_room.new.memory.len (memory ++ drop (length memory) c.make_room.new.memory.items) in
    let few = escaped_length text in
    let cut = length-take-le c.args.len c.args.text.now c.requires.text in
    record {
      within = omega (arith, long, part, few, cut, c.copy_escaped-end.ensures.moved, c.copy_escaped-end.ensures.len, c.in_ok-make_room.ensures.ready, c.deref_mut.ensures.len);
      behind = λ some. omega (arith, long, part, few, cut, c.copy_escaped-end.ensures.moved, c.copy_escaped-end.ensures.len, c.in_ok-make_room.ensures.ready, c.deref_mut.ensures.len);
    }
