use Rattle.std.proofs.Common.{arith}
use Rattle.std.proofs.lemmas.Simd.{zip2_splat}
use Rattle.oim_records.specs.state.Bytes.{begins_pair}
use Rattle.oim_records.proofs.Masks.{at_most, below, each, from_splat, masked}
use Rattle.oim_records.proofs.text_block.first_marks.Goals as goal

pub returns : goal.returns
returns c =
    let v = c.args.v in
    let long = c.fits-v.0 in
    masked _ begins_pair v _ (omega arith) c.fits-v.1 (each _ _ v (from_splat at_most 194 64 v long) (zip2_splat below v 64 224 long)) tt
