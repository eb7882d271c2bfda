use Rattle.std.proofs.Common.{arith}
use Rattle.oim_records.proofs.Pairs.{triple}
use Rattle.oim_records.proofs.utf8.is_triple.Goals as goal

pub returns : goal.returns
returns c h =
    let a = c.if-first-le224.false in
    let b = c.if-first-ge237.false in
    let second = c.is_later.ensures c.if-not-is_later.false in
    let third = c.is_later-2.ensures h in
    triple c.args.first c.args.second c.args.third (omega arith) (omega arith) second.0 second.1 third.0 third.1
