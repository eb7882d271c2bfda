use Rattle.std.proofs.Common.{None, arith}
use Rattle.std.specs.Str.Parse.{digits_value}
use Rattle.std.proofs.lemmas.Str.Pattern.{strip_prefix_char}
use Rattle.oim_schema.proofs.Bounds.{bounded_plain}
use Rattle.oim_schema.proofs.integers.is_bounded.Goals as goal

pub returns-in-None : goal.returns-in-None
returns-in-None c =
    let x = c.args.text.now in
    let r = c.is_within-in-None.ensures in
    let b = c.from_zero-in-None.ensures (digits_value 10 x) in
    bounded_plain c.args.kind x c.is_within-in-None.result
    (strip_prefix_char 45 x None c.in_default.ensures.cases (omega arith))
    (strip_prefix_char 43 x None c.in-None.ensures.cases (omega arith))
    (λ t. let k = r.0 t in (k.0, b.0 k.1), λ h. r.1 (h.0, b.1 h.1))
