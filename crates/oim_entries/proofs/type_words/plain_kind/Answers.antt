use Rattle.std.proofs.Common.{refl}
use Rattle.oim_entries.proofs.TypeFacts.{differs}
use Rattle.oim_entries.proofs.type_words.plain_kind.Goals as goal

pub returns-in_default : goal.returns-in_default
returns-in_default c =
    let d = c.in_default in
    let t = c.args.word.now in
    rw (differs _ t d.not-integer, differs _ t d.not-decimal, differs _ t d.not-double, differs _ t d.not-text, differs _ t d.not-other, differs _ t d.not-explicit, differs _ t d.not-typed) refl
