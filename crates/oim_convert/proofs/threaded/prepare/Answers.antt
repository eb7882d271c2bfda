use Rattle.std.proofs.Common.{◌≡◌, All, List, subst, sym}
use Rattle.oim_convert.specs.declared.table_task.TableTask.{TableTask}
use Rattle.oim_convert.proofs.threaded.prepare.Goals as goal

pub returns-clause-rings : goal.returns-clause-rings
returns-clause-rings g c = subst (λ (tasks : List (TableTask g.row.R.Denot)). All (λ task. task.feed.size ≡ c.args.size) tasks) (sym c.in_ok-crew.ensures.claims) c.in_ok-tasks.ensures.sizes
