use Rattle.std.proofs.Common.{rules, ◌≡◌, Ok, Some, slice_get, true}
use Rattle.csv.specs.Records.{fields_of}
use Rattle.oim_places.proofs.FaultLists.{first_given}
use Rattle.oim_places.proofs.fault_places.first_record.Goals as goal

pub returns-then-is_same : goal.returns-then-is_same
returns-then-is_same g c =
    let given : c.next_row.result ≡ Ok (Some c.in-Ok-Some.located) = search rules in
    let item : slice_get c.in-Ok-Some.located 0 ≡ Some c.in-Some.first.now = search rules in
    let yes : c.is_same.result ≡ true = search rules in
    let same : c.in-Some.first.now.fault ≡ c.args.fault.now = c.is_same.ensures yes in
    let header : fields_of c.in_ok-copied.field-0.header ≡ c.next_row.new.self.header = search rules in
    let row : fields_of c.in_ok-copied.field-0.row ≡ c.next_row.new.self.row = search rules in
    let place : c.in_ok-copied-2.field-0 ≡ c.in-Some.first.now.place = search rules in
    λ one. first_given c.args.rows.now c.next_row.new.self c.next_row.result c.in-Ok-Some.located c.in-Some.first.now c.args.fault.now
    (record { cells = c.in_ok-copied.field-0; place = c.in_ok-copied-2.field-0 }) given item same
    c.next_row.ensures.next (c.next_row.ensures.places one) (c.next_row.ensures.cells one) header row place
