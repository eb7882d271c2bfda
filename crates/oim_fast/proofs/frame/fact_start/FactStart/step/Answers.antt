use Rattle.std.proofs.Common.{◌≡◌, ℕ, ◌+◌, ◌++◌, ◌∙◌, Option, codes, ap, subst, arith}
use Rattle.std.specs.Prelude.{IfSome, decimal}
use Rattle.oim_fast.specs.state.CellWriters.{IsNumbered}
use Rattle.oim_fast.specs.state.Facts.{lead_text}
use Rattle.oim_fast.proofs.NextNumbers.{stepped}
use Rattle.oim_fast.proofs.StartLaws.{front_found, numbered_start}
use Rattle.oim_fast.proofs.frame.fact_start.FactStart.step.Goals as goal

pub returns-clause-lead : goal.returns-clause-lead
returns-clause-lead c =
    let f = c.args.row.now.header in
    let old = c.args.self.now in
    let before = c.in-Some.before in
    let text = c.as_slice-text.result.now in
    let out = lead_text f ++ codes "r_" in
    let was : IsNumbered f old.start.items before = subst (λ (o : Option ℕ). IfSome o (IsNumbered f old.start.items)) c.in-Some.is c.requires.number in
    let next : c.set_last.new.self.items ≡ out ++ decimal (before + 1) =
    stepped out old.start.items text c.set_last.new.self.items before (omega arith) c.as_slice-text.ensures.value was.1 (λ e. omega (arith, e, c.if-digit-ge57.false)) c.set_last.ensures.items in
    record {
      text = front_found old.lead (lead_text f) (codes "r_") (decimal (before + 1)) c.set_last.new.self.items c.requires.size next;
      size = c.requires.size;
      number = (was.0, next ∙ ap (λ n. out ++ decimal n) (omega arith));
    }

pub returns-clause-start : goal.returns-clause-start
returns-clause-start c h =
    let x = c.args.row.now in
    let f = x.header in
    let old = c.args.self.now in
    let before = c.in-Some.before in
    let text = c.as_slice-text.result.now in
    let out = lead_text f ++ codes "r_" in
    let was : IsNumbered f old.start.items before = subst (λ (o : Option ℕ). IfSome o (IsNumbered f old.start.items)) c.in-Some.is c.requires.number in
    let next : c.set_last.new.self.items ≡ out ++ decimal (before + 1) =
    stepped out old.start.items text c.set_last.new.self.items before (omega arith) c.as_slice-text.ensures.value was.1 (λ e. omega (arith, e, c.if-digit-ge57.false)) c.set_last.ensures.items in
    next ∙ ap (λ n. out ++ decimal n) (omega (arith, c.number-number.ensures.value)) ∙ numbered_start x c.number-number.ensures.within was.0
