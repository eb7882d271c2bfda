use Rattle.std.proofs.Common.{sym, take}
use Rattle.oim_records.proofs.FieldPlaces.{text-at}
use Rattle.oim_records.proofs.text_fields.TextFields.with_rest.Goals as goal

pub new-requires-clause-text : goal.new-requires-clause-text
new-requires-clause-text c = text-at c.self.inside.fields c.args.place (take c.in-Some.len c.in-Some.rest.now) c.self.invariant (sym c.in-Some.ensures.field)
