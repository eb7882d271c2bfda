use Rattle.std.proofs.Common.{ap}
use Rattle.std.specs.Option.{option_and_then}
use Rattle.oim_names.specs.Lookup.{value_at}
use Rattle.oim_report.proofs.types.Types.kind_of.Goals as goal

pub returns-in-Some : goal.returns-in-Some
returns-in-Some c =
    let e = ap (option_and_then (value_at c.args.local.now)) c.in-Some.ensures in
    rw (← c.self.view_is, ← c.self.invariant.kinds c.args.uri.now c.args.local.now) cc

pub returns-in-None : goal.returns-in-None
returns-in-None c =
    let e = ap (option_and_then (value_at c.args.local.now)) c.in-None.ensures in
    rw (← c.self.view_is, ← c.self.invariant.kinds c.args.uri.now c.args.local.now) cc
