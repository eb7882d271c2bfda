use Rattle.std.proofs.Common.{◌≡◌, ◌++◌, ◌∙◌, ◌-◌, ap, arith, length, take, List}
use Rattle.oim_resolve.specs.FactParts.{FactParts as Fact}
use Rattle.oim_decode.proofs.Cuts.{held_more}
use Rattle.oim_decode.proofs.RowPartLaws.{continued, grown, part_added, part_kept}
use Rattle.oim_decode.proofs.table.pending_facts.PendingFacts.put_more.Goals as goal

pub overflow_sub-more : goal.overflow_sub-more
overflow_sub-more c = omega (arith, grown c.self.inside.ends.items c.put_more.new.ends.items c.put_more.ensures.front.1, c.len-count.ensures, c.len.ensures, c.self.inside.ends.ok.0, c.put_more.new.ends.ok.0)

pub after-requires : goal.after-requires
after-requires c =
    let x = c.args.row.now in
    let held = c.self.inside in
    let rest = c.args.rest.now in
    let more = c.len.result - c.len-count.result in
    let many : more ≡ length c.put_more.new.ends.items - length held.ends.items = omega (arith, c.len-count.ensures, c.len.ensures, held.ends.ok.0, c.put_more.new.ends.ok.0) in
    let part = continued x rest c.in-Ok.next more held.bytes.items c.put_more.new.out.items held.ends.items c.put_more.new.ends.items c.requires.rest many c.in-Ok.ensures.facts in
    part.room

pub invariant_of-self : goal.invariant_of-self
invariant_of-self c =
    let x = c.args.row.now in
    let held = c.self.inside in
    let rest = c.args.rest.now in
    let more = c.len.result - c.len-count.result in
    let many : more ≡ length c.put_more.new.ends.items - length held.ends.items = omega (arith, c.len-count.ensures, c.len.ensures, held.ends.ok.0, c.put_more.new.ends.ok.0) in
    let part = continued x rest c.in-Ok.next more held.bytes.items c.put_more.new.out.items held.ends.items c.put_more.new.ends.items c.requires.rest many c.in-Ok.ensures.facts in
    let added = c.then_first.ensures ∙ ap (λ (fs : List Fact). held.facts.value ++ take more fs) c.facts.ensures in
    held_more held.bytes.items c.put_more.new.out.items held.ends.items c.put_more.new.ends.items held.facts.value (take more rest.facts) c.then_first.result.value
    c.self.invariant.0 c.self.invariant.1 part.text part.ends added

pub returns-in-Ok-clause-facts : goal.returns-in-Ok-clause-facts
returns-in-Ok-clause-facts c =
    let x = c.args.row.now in
    let held = c.self.inside in
    let rest = c.args.rest.now in
    let more = c.len.result - c.len-count.result in
    let many : more ≡ length c.put_more.new.ends.items - length held.ends.items = omega (arith, c.len-count.ensures, c.len.ensures, held.ends.ok.0, c.put_more.new.ends.ok.0) in
    let part = continued x rest c.in-Ok.next more held.bytes.items c.put_more.new.out.items held.ends.items c.put_more.new.ends.items c.requires.rest many c.in-Ok.ensures.facts in
    let added = c.then_first.ensures ∙ ap (λ (fs : List Fact). held.facts.value ++ take more fs) c.facts.ensures in
    let all = part_added x rest c.in-Ok.next more held.bytes.items c.put_more.new.out.items held.ends.items c.put_more.new.ends.items held.facts.value c.then_first.result.value c.after.result part added c.after.ensures in
    rw (← c.self.view_is) all

pub returns-in-Ok-clause-rest : goal.returns-in-Ok-clause-rest
returns-in-Ok-clause-rest c =
    let x = c.args.row.now in
    let held = c.self.inside in
    let rest = c.args.rest.now in
    let more = c.len.result - c.len-count.result in
    let many : more ≡ length c.put_more.new.ends.items - length held.ends.items = omega (arith, c.len-count.ensures, c.len.ensures, held.ends.ok.0, c.put_more.new.ends.ok.0) in
    let part = continued x rest c.in-Ok.next more held.bytes.items c.put_more.new.out.items held.ends.items c.put_more.new.ends.items c.requires.rest many c.in-Ok.ensures.facts in
    let added = c.then_first.ensures ∙ ap (λ (fs : List Fact). held.facts.value ++ take more fs) c.facts.ensures in
    let texts = held_more held.bytes.items c.put_more.new.out.items held.ends.items c.put_more.new.ends.items held.facts.value (take more rest.facts) c.then_first.result.value
    c.self.invariant.0 c.self.invariant.1 part.text part.ends added in
    part_kept x rest c.in-Ok.next more held.bytes.items c.put_more.new.out.items held.ends.items c.put_more.new.ends.items c.then_first.result.value c.after.result part texts.0 c.after.ensures
