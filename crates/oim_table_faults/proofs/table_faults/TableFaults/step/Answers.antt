use Rattle.std.proofs.Common.{◌≡◌, ◌∙◌, ◌+◌, ◌≤◌, true, false, ap, arith, nat_lt, refl, le-ltb, lt-ltb, option_map}
use Rattle.oim_rows.specs.RowFacts.{TableHeaderValue}
use Rattle.oim_table_faults.specs.TableFaults.{bad_rows}
use Rattle.oim_table_faults.proofs.ReadRows.{none_left, on_some, row_past, row_read, row_within}
use Rattle.oim_table_faults.proofs.table_faults.TableFaults.step.Goals as goal

pub returns-in-Ok-false-clause-rows : goal.returns-in-Ok-false-clause-rows
returns-in-Ok-false-clause-rows g c =
    let a = c.self.inside in
    let begun = rw (← c.self.view_is) at c.requires in
    let took = rw c.in-Ok-false.field-0-test at c.in-Ok-false.ensures.takes in
    rw (← c.self.view_is, begun) (none_left a.rows.header (a.given + 1) a.rows.ids _ a.records.left _ took)

pub invariant_of-self-then-self : goal.invariant_of-self-then-self
invariant_of-self-then-self g c =
    let a = c.self.inside in
    let begun = rw (← c.self.view_is) at c.requires in
    let took = rw c.in-Ok-true.field-0-test at c.in-Ok-true.ensures.takes in
    let read = row_read (g.R.Read.remaining a.file.value) a.given c.read.new.self.fields a.records.left c.read.new.self.left (c.self.invariant.3 begun).1 took in
    let within : a.given + 1 ≤ a.limit = omega (arith, c.if-self.true) in
    (ap (λ (h : TableHeaderValue). h.limit) c.in-Ok.ensures.same ∙ c.self.invariant.0, c.self.invariant.1, omega (arith, within), λ _. (within, read.0))

pub returns-then-self-clause-row : goal.returns-then-self-clause-row
returns-then-self-clause-row g c =
    let a = c.self.inside in
    let begun = rw (← c.self.view_is) at c.requires in
    let took = rw c.in-Ok-true.field-0-test at c.in-Ok-true.ensures.takes in
    let read = row_read (g.R.Read.remaining a.file.value) a.given c.read.new.self.fields a.records.left c.read.new.self.left (c.self.invariant.3 begun).1 took in
    rw (← c.self.view_is) (on_some c.if_any.result _ (omega arith, read.1))

pub returns-clause-row : goal.returns-clause-row
returns-clause-row g c =
    let a = c.self.inside in
    let begun = rw (← c.self.view_is) at c.requires in
    let took = rw c.in-Ok-true.field-0-test at c.in-Ok-true.ensures.takes in
    let read = row_read (g.R.Read.remaining a.file.value) a.given c.read.new.self.fields a.records.left c.read.new.self.left (c.self.invariant.3 begun).1 took in
    rw (← c.self.view_is) (on_some c.if_any-2.result _ (omega arith, read.1))

pub returns-then-self-clause-rows : goal.returns-then-self-clause-rows
returns-then-self-clause-rows g c =
    let a = c.self.inside in
    let begun = rw (← c.self.view_is) at c.requires in
    let took = rw c.in-Ok-true.field-0-test at c.in-Ok-true.ensures.takes in
    let within : nat_lt a.rows.header.limit (a.given + 1) ≡ false = le-ltb a.rows.header.limit (a.given + 1) (omega (arith, c.if-self.true, c.self.invariant.0)) in
    rw (← c.self.view_is, begun)
    (row_within a.rows.header (a.given + 1) a.rows.ids c.faults_of.new.self.ids c.read.new.self.fields c.in-Ok.faults a.records.left c.read.new.self.left _ _
    took c.in-Ok.ensures.faults c.in-Ok.ensures.ids within c.if_any.ensures refl (ap (λ (h : TableHeaderValue). option_map (bad_rows h ((a.given + 1) + 1) c.faults_of.new.self.ids) c.read.new.self.left) c.in-Ok.ensures.same))

pub returns-clause-rows : goal.returns-clause-rows
returns-clause-rows g c =
    let a = c.self.inside in
    let begun = rw (← c.self.view_is) at c.requires in
    let took = rw c.in-Ok-true.field-0-test at c.in-Ok-true.ensures.takes in
    let past : nat_lt a.rows.header.limit (a.given + 1) ≡ true = lt-ltb a.rows.header.limit (a.given + 1) (omega (arith, c.if-self.false, c.self.invariant.0)) in
    rw (← c.self.view_is, begun)
    (row_past a.rows.header (a.given + 1) a.rows.ids c.faults_of.new.self.ids c.read.new.self.fields c.in-Ok.faults a.records.left c.read.new.self.left _ _
    took c.in-Ok.ensures.faults c.in-Ok.ensures.ids past c.if_any-2.ensures refl refl)
