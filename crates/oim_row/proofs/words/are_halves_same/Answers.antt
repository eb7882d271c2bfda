use Rattle.std.proofs.Common.{◌-◌, length, ap, sym, ◌∙◌, arith}
use Rattle.std.specs.Int.{to_le_bytes, w32}
use Rattle.std.proofs.lemmas.Bool.{eqb-true}
use Rattle.oim_row.proofs.SameEnds.{same_ends}
use Rattle.oim_row.proofs.words.are_halves_same.Goals as goal

pub returns-then-half_word_at : goal.returns-then-half_word_at
returns-then-half_word_at c same = same_ends 4 (length c.args.one.now - 4) c.args.one.now c.args.other.now
    (omega (arith, c.requires.few)) (omega (arith, c.requires.few, c.requires.length)) (omega (arith, c.requires.few))
    (sym c.half_word_at.ensures ∙ ap (to_le_bytes w32) c.if-half_word_at.true ∙ c.half_word_at-2.ensures)
    (sym c.half_word_at-then-half_word_at.ensures ∙ ap (to_le_bytes w32) (eqb-true c.half_word_at-then-half_word_at.result c.half_word_at-then-half_word_at-2.result same) ∙ c.half_word_at-then-half_word_at-2.ensures)
