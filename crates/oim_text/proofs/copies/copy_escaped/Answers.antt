use Rattle.std.proofs.Common.{◌≡◌, ◌+◌, ◌++◌, ap, take, drop, take-add, ◌∙◌, arith}
use Rattle.std.specs.List.{flat_map}
use Rattle.std.proofs.lemmas.Grind.{flat_map-append}
use Rattle.std.proofs.lemmas.List.{take_rest}
use Rattle.oim_json.specs.JsonText.{escaped_byte}
use Rattle.oim_text.proofs.PlacedBytes.{Placed-then}
use Rattle.oim_text.proofs.copies.copy_escaped.Goals as goal

pub loop-done-preserved : goal.loop-done-preserved
loop-done-preserved c =
    let text = c.args.text.now in
    let done = c.loop-done.done in
    let part = c.if-len-done-lt-AT_ONCE.part in
    let both : flat_map escaped_byte (take (done + part) text) ≡ flat_map escaped_byte (take done text) ++ flat_map escaped_byte (take part (drop done text)) =
    ap (flat_map escaped_byte) (take-add done part text) ∙ flat_map-append escaped_byte (take done text) (take part (drop done text)) in
    record {
      read = omega arith;
      within = omega (arith, c.copy_block-at.ensures.within);
      bytes = rw both (Placed-then c.loop-done.invariant.bytes (rw (take_rest text done) at c.copy_block-at.ensures.bytes));
    }
