use Rattle.std.proofs.Common.{arith, refl}
use Rattle.oim_table_faults.proofs.ReadRows.{still_left}
use Rattle.oim_table_faults.proofs.table_faults.TableFaults.next_row.Goals as goal

pub loop-self-init : goal.loop-self-init
loop-self-init g c =
    let s = c.args.self.now in
    record { rows = λ none. still_left s.left s.table s.answered none; again = λ _. refl; begun = omega arith; same = (refl, refl, refl) }
