use Rattle.std.proofs.Common.{◌<◌, ◌++◌, ◌∙◌, ap, arith, length}
use Rattle.oim_json.specs.JsonText.{member_text}
use Rattle.oim_decode.proofs.PlainLaws.{nothing_put, one_put, one_noted}
use Rattle.oim_decode.proofs.table.plain_rows.put_facts.Goals as goal

pub loop-fact-init : goal.loop-fact-init
loop-fact-init c =
    let none = nothing_put c.args.facts.now c.args.out.now.items c.args.ends.now.items in
    record { texts = none.0; ends = none.1 }

pub loop-fact-preserved : goal.loop-fact-preserved
loop-fact-preserved c =
    let fs = c.args.facts.now in
    let i = c.loop-fact.fact-index in
    let within : i < length fs = omega (arith, c.loop-fact-test.true) in
    let item = c.fact-item.is in
    let texts = one_put fs i c.fact-item.result c.args.out.now.items c.loop-fact.out.items c.push.new.self.items c.put.new.self.items
    within item c.loop-fact.invariant.texts c.in_ok-push.ensures.items (c.in_ok-put.ensures.items ∙ ap (λ t. c.push.new.self.items ++ t) (c.bytes.ensures.text ∙ ap member_text c.in_ok-member.ensures)) in
    record {
      texts = texts;
      ends = one_noted fs i c.len.result c.fact-item.result c.args.out.now.items c.put.new.self.items c.args.ends.now.items c.loop-fact.ends.items c.push-in-loop-fact.new.self.items
          within item texts c.len.ensures c.loop-fact.invariant.ends c.in_ok-push-2.ensures.items;
    }
