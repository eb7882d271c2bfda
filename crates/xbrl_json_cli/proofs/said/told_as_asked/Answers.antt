use Rattle.std.specs.Prelude.{Bool, Option, Some, None}
use Rattle.std.proofs.Common.{inl, refl}
use Rattle.oim_run.specs.declared.outcome.Outcome.{Outcome}
use Rattle.oim_run.specs.Outputs.{Said, Says}
use Rattle.xbrl_json_cli.proofs.said.told_as_asked.Goals as goal

-- nothing was told, because memory may have run out for the lines
says_nothing : (terminal : Option Bool) (o : Outcome) (said : Option Said) → Says terminal o said said
says_nothing terminal o None = tt
says_nothing terminal o (Some earlier) = inl refl

pub returns-in-Tables-clause-says : goal.returns-in-Tables-clause-says
returns-in-Tables-clause-says g c = says_nothing _ c.args.outcome.now _

pub returns : goal.returns
returns g c = record { says = c.tell-2.ensures.says; same = c.tell-2.ensures.same }
