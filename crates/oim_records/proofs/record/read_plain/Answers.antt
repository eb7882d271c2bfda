use Rattle.std.proofs.Common.{◌≡◌, ◌+◌, ◌∙◌, ap, arith, get_or, sym, true}
use Rattle.oim_records.specs.state.Bits.{IsLowest}
use Rattle.oim_records.specs.state.Bytes.{ends_field}
use Rattle.oim_records.proofs.Ends.{ends-first, ends-next, plain-read}
use Rattle.oim_records.proofs.record.read_plain.Goals as goal

pub loop-left-preserved : goal.loop-left-preserved
loop-left-preserved c =
    let i = c.loop-left.invariant in
    let xs = c.args.text.now in
    let from = c.args.from in
    let start = c.loop-left.start in
    let mark = c.lowest-mark.result in
    let lowest : IsLowest c.loop-left.left mark = (c.lowest-mark.ensures.set, c.lowest-mark.ensures.below) in
    let here = i.marks.within mark c.lowest-mark.ensures.set in
    let comma = c.if-text-stop-ne44.false in
    let end = ends-first xs from start c.loop-left.left mark i.marks i.low c.lowest-mark.ensures.set c.lowest-mark.ensures.below (omega arith) (ap ends_field comma) in
    record {
      fields = λ old first h. plain-read old xs c.loop-left.ranges.items c.push.new.self.items first start (from + mark) c.if-text-start-eq34.false end (omega arith) comma c.in_ok-push.ensures.items (i.fields old first h);
      low = omega arith;
      high = omega arith;
      marks = ends-next xs from start c.loop-left.left c.without_lowest-left.result mark i.marks c.lowest-mark.ensures.set (c.without_lowest-left.ensures.cleared mark lowest) c.lowest-mark.ensures.below (λ k small. c.without_lowest-left.ensures.kept mark lowest k) c.without_lowest-left.ensures.no_more;
    }

pub returns-then-is_field_end-clause-end : goal.returns-then-is_field_end-clause-end
returns-then-is_field_end-clause-end c =
    let i = c.loop-left.invariant in
    let xs = c.args.text.now in
    let mark = c.lowest-mark.result in
    let here = i.marks.within mark c.lowest-mark.ensures.set in
    let ends : ends_field (get_or xs (c.args.from + mark) 0) ≡ true = sym c.is_field_end.ensures ∙ c.if-is_field_end.true in
    record {
      unquoted = c.if-text-start-eq34.false;
      end = ends-first xs c.args.from c.loop-left.start c.loop-left.left mark i.marks i.low c.lowest-mark.ensures.set c.lowest-mark.ensures.below (omega arith) ends;
      within = omega arith;
    }
