use Rattle.std.proofs.Common.{◌≡◌, ◌++◌, ◌∙◌, ap, arith, length, subst}
use Rattle.std.specs.Prelude.{if◌then◌else◌, is_ok}
use Rattle.oim_text.proofs.Quotes.{quoted_length, quotes_off}
use Rattle.oim_text.proofs.quoted.put_written.Goals as goal

pub inside-requires : goal.inside-requires
inside-requires c = omega (arith, ap length (c.deref.ensures.value ∙ c.in_ok-bytes.ensures), quoted_length c.args.text.now)

pub returns : goal.returns
returns c =
    subst (λ t. c.put.new.self.items ≡ (if is_ok c.put.result then c.args.out.now.items ++ t else c.args.out.now.items))
    (c.inside.ensures ∙ quotes_off c.deref.result.now c.args.text.now (c.deref.ensures.value ∙ c.in_ok-bytes.ensures)) c.put.ensures.items
