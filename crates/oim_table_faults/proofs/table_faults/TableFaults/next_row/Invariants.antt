use Rattle.std.proofs.Common.{◌≡◌, ◌≤◌, ◌+◌, ◌-◌, IfSome, IsSome, None}
use Rattle.oim_table_faults.specs.Reading.{KeepsTable}
use Rattle.oim_table_faults.specs.state.Rows.{StillLeft, turns_left}
use Rattle.oim_table_faults.proofs.table_faults.TableFaults.next_row.Given as goal

abbrev pub invariant-loop-self : goal.invariant-loop-self
invariant-loop-self g l = record {
  rows : l.fn.self.answered ≡ None → IfSome l.fn.self.left (λ rows. StillLeft l.fn.self.table rows l.self.answered l.self.left);
  again : IsSome l.fn.self.answered → l.self ≡ l.fn.self;
  begun : l.fn.self.given ≤ l.self.given;
  same : KeepsTable l.fn.self l.self;
}

abbrev pub decreases-loop-self : goal.decreases-loop-self
decreases-loop-self g l = turns_left l.self.answered ((l.self.limit + 1) - l.self.given)
