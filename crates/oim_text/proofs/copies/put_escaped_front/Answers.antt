use Rattle.std.proofs.Common.{◌≡◌, ◌+◌, ◌-◌, ◌++◌, ap, ◌∙◌, arith, take, drop}
use Rattle.std.specs.List.{flat_map}
use Rattle.std.proofs.lemmas.List.{take_rest}
use Rattle.oim_json.specs.JsonText.{escaped_byte}
use Rattle.oim_text.proofs.Appends.{appended, spelled_more, still_front}
use Rattle.oim_text.proofs.copies.put_escaped_front.Goals as goal

pub loop-done-preserved : goal.loop-done-preserved
loop-done-preserved c =
    let text = c.args.text.now in
    let done = c.loop-done.done in
    let put = rw (take_rest text done) at c.in_ok-put_part.ensures in
    record {
      within = omega arith;
      text = put ∙ ap (λ t. t ++ flat_map escaped_byte (take 1024 (drop done text))) c.loop-done.invariant.text ∙ spelled_more escaped_byte c.args.out.now.items text done 1024;
    }

pub returns-clause-stays : goal.returns-clause-stays
returns-clause-stays c =
    still_front c.put_part-2.result c.args.out.now.items c.loop-done.out.items (flat_map escaped_byte (take c.loop-done.done c.args.text.now)) _ c.put_part-2.new.out.items c.loop-done.invariant.text c.put_part-2.ensures

pub returns-clause-escaped : goal.returns-clause-escaped
returns-clause-escaped c =
    let text = c.args.text.now in
    let done = c.loop-done.done in
    let all : done + (c.args.len - done) ≡ c.args.len = omega arith in
    let whole = ap (λ t. t ++ flat_map escaped_byte (take (c.args.len - done) (drop done text))) c.loop-done.invariant.text ∙ spelled_more escaped_byte c.args.out.now.items text done (c.args.len - done) in
    appended c.put_part-2.result c.loop-done.out.items _ _ c.put_part-2.new.out.items (rw (take_rest text done) at c.put_part-2.ensures) (rw all at whole)
