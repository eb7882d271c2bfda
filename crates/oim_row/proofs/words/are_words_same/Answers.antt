use Rattle.std.proofs.Common.{◌-◌, length, ap, sym, ◌∙◌, arith}
use Rattle.std.specs.Int.{to_le_bytes, w64}
use Rattle.std.proofs.lemmas.Bool.{eqb-true}
use Rattle.oim_row.proofs.SameEnds.{same_ends}
use Rattle.oim_row.proofs.words.are_words_same.Goals as goal

pub returns-then-word_at : goal.returns-then-word_at
returns-then-word_at c same = same_ends 8 (length c.args.one.now - 8) c.args.one.now c.args.other.now
    (omega (arith, c.requires.few)) (omega (arith, c.requires.few, c.requires.length)) (omega (arith, c.requires.few))
    (sym c.word_at.ensures ∙ ap (to_le_bytes w64) c.if-word_at.true ∙ c.word_at-2.ensures)
    (sym c.word_at-then-word_at.ensures ∙ ap (to_le_bytes w64) (eqb-true c.word_at-then-word_at.result c.word_at-then-word_at-2.result same) ∙ c.word_at-then-word_at-2.ensures)
