use Rattle.std.proofs.Common.{◌∙◌, ◌-◌, ◌*◌, ◌%◌, ap}
use lib.Bits.{bit_and, bit_or}
use Rattle.oim_records.specs.state.Places.{is_between}
use Rattle.oim_records.proofs.BlockBits.{firsts-masked}
use Rattle.oim_records.proofs.blocks.first_ends.Goals as goal

pub returns : goal.returns
returns c es long is =
    ap (λ n. bit_and c.args.ends (18446744073709551615 - bit_or (c.args.ends * 2 % 18446744073709551616) n)) c.between_bit.ensures
    ∙ firsts-masked (is_between c.args.place) es c.args.ends long is c.ranges.ends.fits
