use Rattle.std.proofs.Common.{string_bytes}
use Rattle.std.proofs.lemmas.Result.{IfOk-weaker}
use Rattle.oim_places.proofs.CellTexts.{excerpt_of_bytes, excerpt_of_text}
use Rattle.oim_places.proofs.cells.field_excerpt.Goals as goal

pub returns-in-Ok : goal.returns-in-Ok
returns-in-Ok c =
    IfOk-weaker c.excerpt.result _ _
    (λ s is. excerpt_of_text (string_bytes s) c.args.field.now c.in-Ok.text.now is c.in-Ok.ensures.cases.0 c.in-Ok.ensures.cases.1)
    c.excerpt.ensures

pub returns-in-Err : goal.returns-in-Err
returns-in-Err c =
    IfOk-weaker c.bytes_excerpt.result _ _
    (λ s is. excerpt_of_bytes (string_bytes s) c.args.field.now is c.in-Err.ensures.cases.0)
    c.bytes_excerpt.ensures
