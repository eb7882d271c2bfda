use Rattle.std.proofs.Common.{rules, ◌≡◌, false}
use Rattle.oim_places.specs.FaultPlaces.{is_of_file}
use Rattle.oim_places.proofs.FaultPlaces.{places_found, records_found}
use Rattle.oim_places.proofs.fault_places.fault_record.Goals as goal

pub returns-in-Some-clause-row : goal.returns-in-Some-clause-row
returns-in-Some-clause-row g c =
    records_found c.first_fault_is_of_stream.ensures.first (g.F.Folder.files c.args.folder.now) c.args.path.now c.args.report.now c.args.fault.now c.in-Some.rows
    c.first_record.result c.in-Some.ensures.faults c.first_record.ensures

pub returns-in-Some-clause-place : goal.returns-in-Some-clause-place
returns-in-Some-clause-place g c =
    let is : is_of_file c.args.fault.now.kind ≡ false = search rules in
    places_found c.first_fault_is_of_stream.ensures.first (g.F.Folder.files c.args.folder.now) c.args.path.now c.args.report.now c.args.fault.now c.in-Some.rows
    c.first_record.result is c.in-Some.ensures.faults c.first_record.ensures
