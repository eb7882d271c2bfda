use Rattle.std.proofs.Common.{◌∷◌, [], ◌++◌, ap, ◌∙◌, take}
use Rattle.oim_json.specs.JsonText.{quoted}
use Rattle.oim_row.proofs.AnswerLaws.{typed_said}
use Rattle.oim_row.proofs.answer.Answer.read_typed.Goals as goal

pub returns : goal.returns
returns c = λ report side.
    let text = take c.args.len c.args.text.now in
    typed_said report side text _
    (c.in_ok-push.ensures.items ∙ ap (λ t. t ++ 44 ∷ []) (c.in_ok-put_quoted_front.ensures ∙ ap (λ t. t ++ quoted text) c.forget.ensures.json)) c.forget.ensures.concept
