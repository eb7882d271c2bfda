use Rattle.std.proofs.Common.{rules, ◌≡◌, Some, slice_get}
use Rattle.csv.specs.Records.{fields_of, partial_of}
use Rattle.oim_places.proofs.Rereads.{fields_more}
use Rattle.oim_places.proofs.records.copy_fields.Goals as goal

pub loop-place-preserved : goal.loop-place-preserved
loop-place-preserved c =
    let item : slice_get c.args.fields.now c.loop-place.place ≡ Some c.in-Some.field.now = search rules in (
      fields_more c.args.fields.now (fields_of c.loop-place.row) (fields_of c.push_field.new.self) c.loop-place.place c.in-Some.field.now (partial_of c.loop-place.row)
          c.loop-place.invariant.0 c.loop-place.invariant.1 item c.in_ok-push_field-in-Some.ensures.fields,
      c.in_ok-push_field-in-Some.ensures.partial,
    )
