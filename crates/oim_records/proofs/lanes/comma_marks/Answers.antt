use Rattle.std.proofs.Common.{arith}
use Rattle.std.proofs.lemmas.Simd.{zip2_splat}
use Rattle.oim_records.specs.state.Bytes.{is_comma}
use Rattle.oim_records.proofs.Masks.{hit, masked}
use Rattle.oim_records.proofs.lanes.comma_marks.Goals as goal

pub returns : goal.returns
returns c =
    let v = c.args.v in
    masked _ is_comma v _ (omega arith) c.fits-v.1 (zip2_splat hit v 64 44 c.fits-v.0) tt
