use Rattle.std.proofs.Common.{◌≡◌, ◌∙◌, ap, drop}
use Rattle.oim_decode.specs.PieceAnswers.{PieceLeft, refused}
use Rattle.oim_decode.proofs.HeadLaws.{refused_decoded}
use Rattle.oim_decode.proofs.piece.piece_decoder.PieceDecoder.decode_head.Goals as goal

pub returns-in_default-clause-answer : goal.returns-in_default-clause-answer
returns-in_default-clause-answer c =
    let table : c.table.result ≡ c.args.self.now.header.table = c.table.ensures.value ∙ ap (λ (p : PieceLeft). p.header.table) c.self.view_is in
    refused_decoded c.args.self.now.header 1 (drop 1 c.args.head.now) c.refused.result (c.refused.ensures ∙ ap refused table)

pub returns-in-Err-clause-answer : goal.returns-in-Err-clause-answer
returns-in-Err-clause-answer c =
    let table : c.table-in-Err.result ≡ c.args.self.now.header.table = c.table-in-Err.ensures.value ∙ ap (λ (p : PieceLeft). p.header.table) c.self.view_is in
    refused_decoded c.args.self.now.header 1 (drop 1 c.args.head.now) c.refused-in-Err.result (c.refused-in-Err.ensures ∙ ap refused table)
