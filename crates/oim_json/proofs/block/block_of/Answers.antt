use Rattle.std.proofs.Common.{◌≡◌, ◌+◌, ◌<◌, ◌∙◌, ap, arith, length, take}
use Rattle.oim_json.specs.Blocks.{behind_commas}
use Rattle.oim_json.proofs.Blocks.{nothing_written, written_one, noted_one}
use Rattle.oim_json.proofs.block.block_of.Goals as goal

pub loop-fact-init : goal.loop-fact-init
loop-fact-init c = record { texts = c.new-bytes.ensures.items ∙ nothing_written.0; ends = c.in_ok-ends.ensures.items ∙ nothing_written.1 }

pub loop-fact-preserved : goal.loop-fact-preserved
loop-fact-preserved c =
    let fs = c.args.facts.now in
    let within : c.loop-fact.fact-index < length fs = omega (arith, c.loop-fact-test.true) in
    let item = c.fact-item.is in
    let written = written_one fs c.loop-fact.fact-index c.fact-item.result c.loop-fact.bytes.items c.push.new.self.items c.push_member.new.out.items
    within item c.loop-fact.invariant.texts c.in_ok-push.ensures.items c.in_ok-push_member.ensures in
    let end : c.len.result ≡ 0 + length (behind_commas (take (c.loop-fact.fact-index + 1) fs)) = omega (arith, c.len.ensures, ap length written) in
    record {
      texts = written;
      ends = noted_one fs c.loop-fact.fact-index 0 c.len.result c.fact-item.result c.loop-fact.ends.items c.push-in-loop-fact.new.self.items
          within c.loop-fact.invariant.ends end c.in_ok-push-2.ensures.items;
    }
