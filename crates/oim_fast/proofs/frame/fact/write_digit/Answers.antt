use Rattle.std.proofs.Common.{sym, subst, List, ℕ}
use Rattle.std.specs.Prelude.{pos}
use Rattle.oim_text.specs.Places.{Placed}
use Rattle.oim_fast.proofs.FactTextLaws.{places_placed}
use Rattle.oim_fast.proofs.OneDigit.{digit_decimal}
use Rattle.oim_fast.proofs.frame.fact.write_digit.Goals as goal

pub returns-clause-bytes : goal.returns-clause-bytes
returns-clause-bytes c =
    let written = subst (λ (t : List ℕ). Placed c.copy_short-at.new.memory c.write_byte-end.new.memory c.copy_short-at.result t c.write_byte-end.result) (sym (digit_decimal c.args.digit c.requires.digit)) c.write_byte-end.ensures in
    places_placed (pos c.args.digit) c.copy_short-at.ensures written c.write_byte.ensures
