use Rattle.std.proofs.Common.{◌∙◌, ap, subst, take}
use Rattle.oim_fast.specs.state.FactTexts.{AddsFact}
use Rattle.oim_fast.specs.declared.frame.value.Value.{Value}
use Rattle.oim_fast.proofs.LongValues.{long_added, old_kept, put_true, two_there}
use Rattle.oim_fast.proofs.frame.fact.put_long.Goals as goal

pub put_value-requires-clause-end : goal.put_value-requires-clause-end
put_value-requires-clause-end c =
    let adds = subst (λ (q : Value). AddsFact c.args.references.now c.args.frame.now q c.args.start.now.items c.args.out.now.items c.put_short.new.out.items) c.emptied-empty.ensures
    (put_true c.put_short.result c.in_ok-put_short.field-0 c.in_ok-put_short.was c.if-not-branch.false c.put_short.ensures) in
    two_there c.args.references.now c.args.frame.now c.args.value c.args.start.now.items c.args.out.now.items c.put_short.new.out.items c.if-value.false adds

pub returns-in-Ok : goal.returns-in-Ok
returns-in-Ok c =
    let adds = subst (λ (q : Value). AddsFact c.args.references.now c.args.frame.now q c.args.start.now.items c.args.out.now.items c.put_short.new.out.items) c.emptied-empty.ensures
    (put_true c.put_short.result c.in_ok-put_short.field-0 c.in_ok-put_short.was c.if-not-branch.false c.put_short.ensures) in
    long_added c.args.references.now c.args.frame.now c.args.value c.args.start.now.items c.args.out.now.items c.put_short.new.out.items c.if-value.false adds c.in-Ok.ensures.text

pub returns-in-Err : goal.returns-in-Err
returns-in-Err c =
    let adds = subst (λ (q : Value). AddsFact c.args.references.now c.args.frame.now q c.args.start.now.items c.args.out.now.items c.put_short.new.out.items) c.emptied-empty.ensures
    (put_true c.put_short.result c.in_ok-put_short.field-0 c.in_ok-put_short.was c.if-not-branch.false c.put_short.ensures) in
    c.truncate.ensures.items ∙ ap (λ n. take n c.put_value.new.out.items) c.len-before.ensures
    ∙ old_kept c.args.references.now c.args.frame.now c.args.value c.args.start.now.items c.args.out.now.items c.put_short.new.out.items c.if-value.false adds c.put_value.ensures.stays
