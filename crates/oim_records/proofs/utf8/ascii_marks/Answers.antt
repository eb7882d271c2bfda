use Rattle.std.proofs.Common.{arith}
use Rattle.std.proofs.lemmas.Simd.{zip2_splat}
use Rattle.oim_records.specs.state.Bytes.{is_ascii}
use Rattle.oim_records.proofs.Masks.{below, masked}
use Rattle.oim_records.proofs.utf8.ascii_marks.Goals as goal

pub returns : goal.returns
returns c =
    let v = c.args.v in
    let long = c.fits-v.0 in
    masked _ is_ascii v _ (omega arith) c.fits-v.1 (zip2_splat below v 16 128 long) tt
