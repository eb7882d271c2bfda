use Rattle.std.proofs.Common.{◌∙◌}
use Rattle.oim_report.proofs.named.Named.get.Goals as goal

pub returns : goal.returns
returns g c = rw (← c.self.view_is) (c.get.ensures.value ∙ c.self.invariant.0 c.args.name.now)
