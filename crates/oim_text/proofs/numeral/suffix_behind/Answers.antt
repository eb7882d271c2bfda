use Rattle.std.proofs.Common.{Some, sym, arith, ◌∙◌, drop}
use Rattle.std.proofs.lemmas.Str.Pattern.{strip_prefix_char}
use Rattle.oim_text.proofs.Numerals.{suffix_read}
use Rattle.oim_text.proofs.numeral.suffix_behind.Goals as goal

pub returns : goal.returns
returns c =
    let marked = strip_prefix_char 100 c.in_ok-rest.rest.now (Some c.in_ok-suffix.suffix) c.in_ok-suffix.ensures.cases (omega arith) in
    suffix_read (drop c.args.len c.args.text.now) c.in_ok-suffix.suffix.now c.decimals.result (sym c.in_ok-rest.ensures.back ∙ marked)
    (λ a is. (c.decimals.ensures.means a).0 is)
