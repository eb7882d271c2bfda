use Rattle.std.proofs.Common.{arith}
use Rattle.oim_records.specs.state.Bytes.{is_high}
use Rattle.oim_records.proofs.Masks.{at_most, from_splat, masked}
use Rattle.oim_records.proofs.text_block.high_marks.Goals as goal

pub returns : goal.returns
returns c =
    let v = c.args.v in
    let long = c.fits-v.0 in
    masked _ is_high v _ (omega arith) c.fits-v.1 (from_splat at_most 128 64 v long) tt
