use Rattle.std.proofs.Common.{arith}
use Rattle.std.proofs.lemmas.Simd.{zip2_splat}
use Rattle.oim_text.specs.state.Digits.{is_other}
use Rattle.oim_records.proofs.Masks.{either, from_splat, masked}
use Rattle.oim_text.proofs.Escaping.{below}
use Rattle.oim_text.proofs.numeral.other_marks.Goals as goal

pub returns : goal.returns
returns c =
    let v = c.args.bytes in
    let long = c.fits-bytes.0 in
    masked _ is_other v _ (omega arith) c.fits-bytes.1 (either _ _ v (zip2_splat below v 16 48 long) (from_splat below 57 16 v long)) tt
