use Rattle.std.proofs.Common.{◌∙◌, ap, sym, arith, inl}
use Rattle.oim_rows.specs.RowFacts.{TableHeaderValue}
use Rattle.oim_decode.specs.Blocks.{BlocksLeft}
use Rattle.oim_decode.specs.state.Blocks.{end_or_left}
use Rattle.oim_decode.specs.state.RowParts.{with_rest}
use Rattle.oim_decode.proofs.Advances.{behind_end, behind_fault, behind_row, end_reached, fault_reached, no_answer, no_rest, none_more, row_added, stays}
use Rattle.oim_decode.proofs.table.table_blocks.fill_with_rows.Goals as goal

pub next_row-requires : goal.next_row-requires
next_row-requires g c =
    no_rest c.loop-whole.rows.rest c.loop-whole.facts c.count.result c.bytes.result c.loop-whole.invariant.long c.count.ensures c.bytes.ensures (c.has_room.ensures.short c.loop-whole-test.true)

pub loop-whole-preserved-in-Ok-true : goal.loop-whole-preserved-in-Ok-true
loop-whole-preserved-in-Ok-true g c =
    let held = c.loop-whole in
    let rows = c.args.rows.now in
    let before = with_rest c.args.facts.now rows.rest in
    let first = end_or_left c.args.settled.now rows.left in
    let left = rw c.in-None.is at held.invariant.reads in
    let none = no_rest held.rows.rest held.facts c.count.result c.bytes.result held.invariant.long c.count.ensures c.bytes.ensures (c.has_room.ensures.short c.loop-whole-test.true) in
    let so = rw none at left in
    let next = rw c.in-Ok-true.field-0-test at c.in-Ok-true.ensures.next in
    let here = rw held.invariant.table at next in
    let counted = rw c.in-Ok-true.field-0-test at c.in-Ok-true.ensures.counts in
    let taken = rw c.in-Ok-true.field-0-test at c.in-Ok-true.ensures.unread in
    let begun = held.invariant.begun in
    record {
      reads = rw c.in-None.is (row_added rows.header.table first before held.facts (with_rest c.next_row.new.facts c.next_row.new.self.rest) held.rows.left c.next_row.new.self.left so here);
      again = λ settled. absurd (no_answer c.args.settled.now (sym c.in-None.is ∙ ap (λ (b : BlocksLeft). b.answered) (held.invariant.again settled)) settled);
      table = ap (λ (r : TableHeaderValue). r.table) c.in-Ok-true.ensures.header ∙ held.invariant.table;
      limit = ap (λ (r : TableHeaderValue). r.limit) c.in-Ok-true.ensures.header ∙ held.invariant.limit;
      whole = omega (arith, c.has_room.ensures.most c.loop-whole-test.true, c.count.ensures, c.count-whole.ensures);
      behind = λ live. rw c.in-None.is (behind_row rows.header.table rows.given held.rows.given c.next_row.new.self.given rows.unread held.rows.unread c.next_row.new.self.unread
          begun counted.0 (rw c.in-None.is at (held.invariant.behind live)) taken);
      begun = omega (arith, begun, counted.0);
      within = omega (arith, counted.1, ap (λ (r : TableHeaderValue). r.limit) c.in-Ok-true.ensures.header);
      moves = inl (omega (arith, begun, counted.0));
      long = λ some. omega (arith, c.in-Ok-true.ensures.long some);
      closed = λ settled. absurd (no_answer c.loop-whole.settled (sym c.in-None.is) settled);
    }

pub loop-whole-preserved-in-Ok-false : goal.loop-whole-preserved-in-Ok-false
loop-whole-preserved-in-Ok-false g c =
    let held = c.loop-whole in
    let rows = c.args.rows.now in
    let before = with_rest c.args.facts.now rows.rest in
    let first = end_or_left c.args.settled.now rows.left in
    let left = rw c.in-None.is at held.invariant.reads in
    let none = no_rest held.rows.rest held.facts c.count.result c.bytes.result held.invariant.long c.count.ensures c.bytes.ensures (c.has_room.ensures.short c.loop-whole-test.true) in
    let so = rw none at left in
    let here = rw c.in-Ok-false.field-0-test at c.in-Ok-false.ensures.next in
    let counted = rw c.in-Ok-false.field-0-test at c.in-Ok-false.ensures.counts in
    let taken = rw c.in-Ok-false.field-0-test at c.in-Ok-false.ensures.unread in
    let added = rw c.in-Ok-false.field-0-test at c.in-Ok-false.ensures.none in
    record {
      reads = end_reached rows.header.table first before held.facts (with_rest c.next_row.new.facts c.next_row.new.self.rest) held.rows.left c.next_row.new.self.left so here;
      again = λ settled. absurd (no_answer c.args.settled.now (sym c.in-None.is ∙ ap (λ (b : BlocksLeft). b.answered) (held.invariant.again settled)) settled);
      table = ap (λ (r : TableHeaderValue). r.table) c.in-Ok-false.ensures.header ∙ held.invariant.table;
      limit = ap (λ (r : TableHeaderValue). r.limit) c.in-Ok-false.ensures.header ∙ held.invariant.limit;
      whole = omega (arith, c.has_room.ensures.most c.loop-whole-test.true, c.count.ensures, c.count-whole.ensures);
      behind = λ live. behind_end rows.header.table rows.given held.rows.given c.next_row.new.self.given rows.unread held.rows.unread c.next_row.new.self.unread
          counted (rw c.in-None.is at (held.invariant.behind live)) taken;
      begun = omega (arith, held.invariant.begun, counted);
      within = omega (arith, counted, held.invariant.within, ap (λ (r : TableHeaderValue). r.limit) c.in-Ok-false.ensures.header);
      moves = stays rows.given held.rows.given c.next_row.new.self.given before (with_rest held.facts held.rows.rest) (with_rest c.next_row.new.facts c.next_row.new.self.rest) counted
          (none_more held.facts c.next_row.new.facts held.rows.rest c.next_row.new.self.rest none added.1 added.0) held.invariant.moves;
      long = λ some. omega (arith, c.in-Ok-false.ensures.long some);
      closed = λ _. added.1;
    }

pub loop-whole-preserved : goal.loop-whole-preserved
loop-whole-preserved g c =
    let held = c.loop-whole in
    let rows = c.args.rows.now in
    let before = with_rest c.args.facts.now rows.rest in
    let first = end_or_left c.args.settled.now rows.left in
    let left = rw c.in-None.is at held.invariant.reads in
    let none = no_rest held.rows.rest held.facts c.count.result c.bytes.result held.invariant.long c.count.ensures c.bytes.ensures (c.has_room.ensures.short c.loop-whole-test.true) in
    let so = rw none at left in
    let here = rw held.invariant.table at c.in-Err.ensures.next in
    let counted = c.in-Err.ensures.counts in
    let taken = rw held.invariant.table at c.in-Err.ensures.unread in
    record {
      reads = fault_reached rows.header.table first before held.facts (with_rest c.next_row.new.facts c.next_row.new.self.rest) held.rows.left c.next_row.new.self.left c.in-Err.fault so here;
      again = λ settled. absurd (no_answer c.args.settled.now (sym c.in-None.is ∙ ap (λ (b : BlocksLeft). b.answered) (held.invariant.again settled)) settled);
      table = ap (λ (r : TableHeaderValue). r.table) c.in-Err.ensures.header ∙ held.invariant.table;
      limit = ap (λ (r : TableHeaderValue). r.limit) c.in-Err.ensures.header ∙ held.invariant.limit;
      whole = omega (arith, c.has_room.ensures.most c.loop-whole-test.true, c.count.ensures, c.count-whole.ensures);
      behind = λ live. behind_fault rows.header.table rows.given held.rows.given c.next_row.new.self.given rows.unread held.rows.unread c.next_row.new.self.unread c.in-Err.fault
          counted (rw c.in-None.is at (held.invariant.behind live)) taken;
      begun = omega (arith, held.invariant.begun, counted);
      within = omega (arith, counted, held.invariant.within, ap (λ (r : TableHeaderValue). r.limit) c.in-Err.ensures.header);
      moves = stays rows.given held.rows.given c.next_row.new.self.given before (with_rest held.facts held.rows.rest) (with_rest c.next_row.new.facts c.next_row.new.self.rest) counted
          (none_more held.facts c.next_row.new.facts held.rows.rest c.next_row.new.self.rest none c.in-Err.ensures.none.1 c.in-Err.ensures.none.0) held.invariant.moves;
      long = λ some. omega (arith, c.in-Err.ensures.long some);
      closed = λ _. c.in-Err.ensures.none.1;
    }
