use Rattle.std.proofs.Common.{arith}
use Rattle.std.proofs.lemmas.Simd.{zip2_splat}
use Rattle.oim_text.specs.state.Escapes.{is_escaped}
use Rattle.oim_records.proofs.Masks.{hit, either, masked}
use Rattle.oim_text.proofs.Escaping.{below}
use Rattle.oim_text.proofs.copies.escape_marks.Goals as goal

pub returns : goal.returns
returns c =
    let v = c.args.bytes in
    let long = c.fits-bytes.0 in
    masked _ is_escaped v _ (omega arith) c.fits-bytes.1 (either _ _ v (either _ _ v (zip2_splat hit v 32 34 long) (zip2_splat hit v 32 92 long)) (zip2_splat below v 32 32 long)) tt
