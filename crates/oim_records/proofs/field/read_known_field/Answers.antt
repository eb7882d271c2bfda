use Rattle.std.proofs.Common.{subst, ℕ}
use Rattle.std.specs.Prelude.{Option, IfSome}
use Rattle.oim_records.specs.state.Fields.{IsPlainEnd}
use Rattle.oim_records.proofs.FieldReads.{plain-field}
use Rattle.oim_records.proofs.field.read_known_field.Goals as goal

pub returns-in-Some-clause-field : goal.returns-in-Some-clause-field
returns-in-Some-clause-field c =
    let text = c.args.text.now in
    let start = c.args.start in
    let known = subst (λ (end : Option ℕ). IfSome end (IsPlainEnd text start)) c.in-Some.is c.requires.end in
    plain-field text start c.in-Some.end (λ _. known.unquoted) known.end
