use Rattle.std.specs.String.{string_bytes}
use Rattle.oim_report.proofs.NamedFacts.{none-added}
use Rattle.oim_report.proofs.named.Named.is_empty.Goals as goal

pub returns : goal.returns
returns g c = rw (c.len.ensures.len, ← c.self.view_is) (none-added string_bytes c.self.inside.values.entries c.self.inside.added.value c.self.invariant)
