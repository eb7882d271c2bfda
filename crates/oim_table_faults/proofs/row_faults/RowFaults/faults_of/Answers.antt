use Rattle.std.proofs.Common.{[]}
use Rattle.oim_table_faults.proofs.RowSteps.{kept_by, on_ok, own_none, text_row}
use Rattle.oim_table_faults.proofs.row_faults.RowFaults.faults_of.Goals as goal

pub unreachable-requires : goal.unreachable-requires
unreachable-requires g c =
    let a = c.self.inside in
    let r = c.args.records.now.fields in
    let own = own_none a.header c.args.number a.no_ids r c.fault_of_record-own.result c.self.invariant.1 c.fault_of_record-own.ensures c.in_default.is in
    let none = rw c.in_default-text_fields.is at c.text_fields.ensures in
    none (text_row a.header c.args.number [] r own)

pub returns-in-Some-2-clause-ids : goal.returns-in-Some-2-clause-ids
returns-in-Some-2-clause-ids g c =
    let a = c.self.inside in
    let r = c.args.records.now.fields in
    let own = own_none a.header c.args.number a.no_ids r c.fault_of_record-own.result c.self.invariant.1 c.fault_of_record-own.ensures c.in_default.is in
    rw (← c.self.view_is)
    (on_ok c.alone-in-Some-2.result _
    (kept_by c.new-row.result a.header c.args.number a.ids c.keep_id.new.ids c.in-Some-text_fields.texts r c.new-row.ensures c.in-Some-text_fields.ensures own c.in_ok-fault.ensures.ids))

pub returns-clause-ids : goal.returns-clause-ids
returns-clause-ids g c =
    let a = c.self.inside in
    let r = c.args.records.now.fields in
    let own = own_none a.header c.args.number a.no_ids r c.fault_of_record-own.result c.self.invariant.1 c.fault_of_record-own.ensures c.in_default.is in
    rw (← c.self.view_is)
    (on_ok c.faults_of_cells.result _
    (kept_by c.new-row.result a.header c.args.number a.ids c.keep_id.new.ids c.in-Some-text_fields.texts r c.new-row.ensures c.in-Some-text_fields.ensures own c.in_ok-fault.ensures.ids))
