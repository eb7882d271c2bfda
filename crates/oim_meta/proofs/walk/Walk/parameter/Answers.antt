use Rattle.oim_meta.proofs.walk.Walk.parameter.Goals as goal

pub returns-clause-found : goal.returns-clause-found
returns-clause-found c = rw (← c.bad_parameter.ensures, ← c.member.ensures) c.add_if.ensures
