use Rattle.std.proofs.Common.{refl}
use Rattle.oim_records.specs.state.Bytes.{ends_field}
use Rattle.oim_records.proofs.LaneMarks.{bit-set, bit-within}
use Rattle.oim_records.proofs.lanes.field_ends.Goals as goal

pub returns-clause-set : goal.returns-clause-set
returns-clause-set c k = bit-set ends_field refl c.args.s.now c.args.at c.end_marks.result k c.end_marks.ensures

pub returns-clause-within : goal.returns-clause-within
returns-clause-within c k = bit-within ends_field refl c.args.s.now c.args.at c.end_marks.result k c.end_marks.ensures
