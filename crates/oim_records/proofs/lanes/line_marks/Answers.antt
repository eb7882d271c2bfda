use Rattle.std.proofs.Common.{arith}
use Rattle.std.proofs.lemmas.Simd.{zip2_splat}
use Rattle.oim_records.specs.Lines.{ends_line}
use Rattle.oim_records.proofs.Masks.{hit, either, masked}
use Rattle.oim_records.proofs.lanes.line_marks.Goals as goal

pub returns : goal.returns
returns c =
    let v = c.args.v in
    let long = c.fits-v.0 in
    masked _ ends_line v _ (omega arith) c.fits-v.1 (either _ _ v (zip2_splat hit v 64 10 long) (zip2_splat hit v 64 13 long)) tt
