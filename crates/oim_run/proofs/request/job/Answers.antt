use Rattle.oim_run.proofs.request.job.Goals as goal

pub returns-in-Ok-clause-answers : goal.returns-in-Ok-clause-answers
returns-in-Ok-clause-answers c =
    let given = c.in-Ok.ensures.answers in
    (given.0, given.1, record { values = given.2.values.0; fails = given.2.fails })

pub returns-in-Err-clause-answers : goal.returns-in-Err-clause-answers
returns-in-Err-clause-answers c =
    let given = c.in-Err.ensures.answers in
    (given.0, given.1, record { values = given.2.values; fails = given.2.fails })
