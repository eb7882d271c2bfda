use Rattle.std.proofs.Common.{◌≡◌, ◌<◌, true, arith, length, take, sym, ap, ◌∙◌, subst, get_or-take, length-take-le}
use Rattle.oim_cells.specs.Cells.{Meaning, Text, meaning_of}
use Rattle.oim_row.specs.Answers.{IsAnswer}
use Rattle.oim_row.specs.state.Reading.{is_typed_purpose}
use Rattle.oim_row.specs.References.{ReferenceValue}
use Rattle.oim_row.specs.declared.purpose.Purpose.{Purpose}
use Rattle.oim_row.specs.declared.purpose.Purpose.TheVariants.{Dimension}
use Rattle.oim_resolve.specs.declared.role.Role.TheVariants.{Typed}
use Rattle.oim_row.proofs.AnswerLaws.{for_typed}
use Rattle.oim_row.proofs.KeptLaws.{kept_typed}
use Rattle.oim_row.proofs.Texts.{plain_meaning}
use Rattle.oim_row.proofs.row_reference.RowReference.refresh_typed.Goals as goal

pub invariant_of-self : goal.invariant_of-self
invariant_of-self c =
    let r = c.self.inside.report.now in
    let p = c.self.inside.purpose in
    let bytes = c.bytes_at-len.result.0.now in
    let len = c.bytes_at-len.result.1 in
    let text = take len bytes in
    let typed : is_typed_purpose p ≡ true = ap (λ (s : ReferenceValue). is_typed_purpose s.key.purpose) c.self.view_is ∙ c.requires in
    let some : 0 < length text = omega (arith, length-take-le len bytes c.bytes_at-len.ensures.within) in
    let means : meaning_of text ≡ Text text = plain_meaning text 0 some (λ e. c.if-bytes-ne35.true (sym (get_or-take len bytes 0 0 (omega arith)) ∙ e)) in
    let told : Text text ≡ meaning_of c.of.result.value = sym means ∙ ap meaning_of (sym c.of.ensures) in
    let answer : IsAnswer r p (meaning_of c.of.result.value) c.read_typed.new.self.answer =
    for_typed (λ (q : Purpose). IsAnswer r q (meaning_of c.of.result.value) c.read_typed.new.self.answer) p typed
    (λ side. subst (λ (v : Meaning). IsAnswer r (Dimension Typed side) v c.read_typed.new.self.answer) told (c.read_typed.ensures.answer r side)) in
    kept_typed r p c.of.result.value c.self.inside.answers.items c.read_typed.new.self c.read_typed.ensures.kept (omega (arith, c.self.invariant.within)) c.self.invariant.cached answer
