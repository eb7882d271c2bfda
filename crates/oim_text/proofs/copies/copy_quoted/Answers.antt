use Rattle.std.proofs.Common.{take, arith, length-take-le}
use Rattle.oim_json.specs.JsonText.{quoted}
use Rattle.oim_text.proofs.EscapedLengths.{escaped_length}
use Rattle.oim_text.proofs.PlacedBytes.{Placed-then}
use Rattle.oim_text.proofs.copies.copy_quoted.Goals as goal

pub copy_short-requires : goal.copy_short-requires
copy_short-requires c =
    omega (arith, c.requires.memory, c.copy_short-at.ensures.moved, c.copy_short-at.ensures.len, c.copy_escaped-at.ensures.moved, c.copy_escaped-at.ensures.len, escaped_length (take c.args.len c.args.text.now), length-take-le c.args.len c.args.text.now c.requires.text)

pub returns-clause-bytes : goal.returns-clause-bytes
unfolding quoted
returns-clause-bytes c = Placed-then c.copy_short-at.ensures (Placed-then c.copy_escaped-at.ensures c.copy_short.ensures)

pub returns-clause-few : goal.returns-clause-few
returns-clause-few c =
    omega (arith, c.copy_short-at.ensures.moved, c.copy_escaped-at.ensures.moved, c.copy_short.ensures.moved, escaped_length (take c.args.len c.args.text.now), length-take-le c.args.len c.args.text.now c.requires.text)
