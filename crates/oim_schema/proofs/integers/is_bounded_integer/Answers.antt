use Rattle.std.proofs.lemmas.Bool.Decides.{same_from_decides}
use Rattle.oim_schema.proofs.Bounds.{bounded_Decides}
use Rattle.oim_schema.proofs.integers.is_bounded_integer.Goals as goal

pub returns-clause-value : goal.returns-clause-value
returns-clause-value c = same_from_decides _ _ c.is_bounded.ensures (bounded_Decides c.args.kind c.args.text.now)
