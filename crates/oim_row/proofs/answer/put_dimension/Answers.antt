use Rattle.std.proofs.Common.{Some, sym, ap, ◌∙◌}
use Rattle.oim_names.specs.Unit.{unit_of}
use Rattle.oim_row.proofs.ReadLaws.{member_given, unit_written}
use Rattle.oim_row.proofs.answer.put_dimension.Goals as goal

pub returns-in-Some-Written-clause-text : goal.returns-in-Some-Written-clause-text
returns-in-Some-Written-clause-text c =
    let written = sym (ap (λ n. unit_of n c.in-Unit-Text.text.now) c.namespaces-names.ensures) ∙ sym c.unit.ensures.value ∙ c.in-Some-Written.is ∙ ap Some c.in-Some-Written.field-0-is in
    rw (c.in-Unit-Text.is-0, c.in-Unit-Text.is-1, sym (unit_written c.args.report.now c.args.side c.in-Unit-Text.text.now written)) c.put_formed.ensures.text

pub returns-after-is_some-clause-text : goal.returns-after-is_some-clause-text
returns-after-is_some-clause-text c =
    rw (c.in-Explicit-Text.is-0, c.in-Explicit-Text.is-1, sym (member_given c.args.report.now c.args.side c.in-Explicit-Text.text.now)) c.put_formed-in-Explicit-Text.ensures.text
