use Rattle.std.proofs.Common.{sym, ◌∙◌, arith}
use Rattle.std.proofs.lemmas.Slice.Eq.{bytes_eq-Decides}
use Rattle.oim_fast.proofs.MakingLaws.{entry_known}
use Rattle.oim_fast.proofs.frame.parts.FrameParts.is_at.Goals as goal

pub returns-then-eq : goal.returns-then-eq
returns-then-eq c = λ yes.
    entry_known c.args.self.now.list.items c.args.place c.index-part.result.now c.args.name.now c.args.written.now (omega arith) c.index-part.ensures
    ((bytes_eq-Decides _ _).0 (sym c.eq.ensures ∙ c.if-eq.true)) (c.is_same_written.ensures yes)
