use Rattle.std.proofs.Common.{◌∷◌, [], sym, subst, arith}
use Rattle.std.specs.Str.{IsUtf8}
use Rattle.oim_records.proofs.Pairs.{quadruple}
use Rattle.oim_records.proofs.utf8.is_quadruple.Goals as goal

pub returns : goal.returns
returns c h =
    let a = c.if-first-ne240.false in
    let b = c.if-second-lt144.false in
    let second = c.is_later.ensures c.if-not-is_later.false in
    let third = c.is_later-2.ensures c.if-not-is_later-2.false in
    let fourth = c.is_later-3.ensures h in
    subst (λ x. IsUtf8 (x ∷ c.args.second ∷ c.args.third ∷ c.args.fourth ∷ [])) (sym a)
    (quadruple c.args.second c.args.third c.args.fourth (omega arith) second.1 third.0 third.1 fourth.0 fourth.1)
