use Rattle.std.proofs.Common.{◌∙◌, ap, arith, length, subst, sym}
use Rattle.oim_rows.specs.RowFacts.{TableHeaderValue}
use Rattle.oim_decode.specs.Apart.{Apart}
use Rattle.oim_decode.specs.PieceAnswers.{PieceLeft}
use Rattle.oim_decode.specs.state.PieceAnswers.{EndsRows, TakesRow}
use Rattle.oim_decode.proofs.PieceSteps.{HasDecoded, all_decoded, decoded_within, front_within, none_decoded, one_decoded, taken_within}
use Rattle.oim_decode.proofs.piece.piece_decoder.PieceDecoder.decode_left.Goals as goal

pub loop-init : goal.loop-init
loop-init c = record {
  decoded = subst (λ (p : PieceLeft). HasDecoded c.args.self.now.header c.args.first c.args.self.now.left c.args.first p.left c.begin-answer.result) (sym c.begin-answer.ensures.same)
      (none_decoded c.args.self.now.header c.args.first c.args.self.now.left c.begin-answer.result c.begin-answer.ensures.answer);
  header = ap (λ (p : PieceLeft). p.header) c.begin-answer.ensures.same;
  within = c.requires;
}

pub next_row-requires : goal.next_row-requires
next_row-requires c = c.loop.invariant.decoded.4

pub returns-then-not-next_row-clause-answer : goal.returns-then-not-next_row-clause-answer
returns-then-not-next_row-clause-answer c =
    let ends = subst (λ (g : TableHeaderValue). EndsRows g c.loop.number c.loop.self.left c.loop.answer c.next_row.new.answer) c.loop.invariant.header c.if-not-next_row.ensures.row in
    all_decoded c.args.self.now.header c.args.first c.args.self.now.left c.loop.number c.loop.self.left c.loop.answer c.next_row.new.answer c.loop.invariant.decoded ends

pub returns-then-not-next_row-clause-numbers : goal.returns-then-not-next_row-clause-numbers
returns-then-not-next_row-clause-numbers c =
    let ends = subst (λ (g : TableHeaderValue). EndsRows g c.loop.number c.loop.self.left c.loop.answer c.next_row.new.answer) c.loop.invariant.header c.if-not-next_row.ensures.row in
    let all = all_decoded c.args.self.now.header c.args.first c.args.self.now.left c.loop.number c.loop.self.left c.loop.answer c.next_row.new.answer c.loop.invariant.decoded ends in
    omega (arith, decoded_within c.args.self.now.header c.args.first c.args.self.now.left c.next_row.new.answer c.requires all, c.self.invariant.2, ap (λ (p : PieceLeft). p.header.limit) c.self.view_is)

pub loop-preserved : goal.loop-preserved
loop-preserved c =
    let takes = subst (λ (g : TableHeaderValue). TakesRow g c.loop.number c.loop.self.left c.loop.answer c.next_row.new.self.left c.next_row.new.answer) c.loop.invariant.header c.if-not-next_row.ensures.row in
    record {
      decoded = one_decoded c.args.self.now.header c.args.first c.args.self.now.left c.loop.number c.loop.self.left c.next_row.new.self.left c.loop.answer c.next_row.new.answer
          c.loop.invariant.decoded takes;
      header = c.if-not-next_row.ensures.header ∙ c.loop.invariant.header;
      within = omega (arith, taken_within c.args.self.now.header c.loop.number c.loop.self.left c.loop.answer c.next_row.new.self.left c.next_row.new.answer takes);
    }

pub returns-clause-numbers : goal.returns-clause-numbers
returns-clause-numbers c =
    omega (
      arith,
      front_within c.args.self.now.header c.args.first c.args.self.now.left c.loop.number c.loop.self.left c.loop.answer c.requires c.loop.invariant.decoded,
      ap (λ (a : Apart). length a.ids) c.end.ensures,
      c.self.invariant.2,
      ap (λ (p : PieceLeft). p.header.limit) c.self.view_is,
    )
