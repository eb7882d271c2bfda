use Rattle.std.proofs.Common.{rules, ◌≡◌, IfSome, None, Ok, Some, Err, subst}
use Rattle.oim_places.specs.FaultLists.{GivesRow}
use Rattle.oim_explain.specs.ListedFaults.{WritesEach}
use Rattle.oim_explain.specs.state.ListedRows.{located_record}
use Rattle.oim_places.specs.FaultLists.{record_of}
use Rattle.oim_explain.proofs.FaultTexts.{completes_cut, completes_end, completes_failed, completes_more, kept_on, places_known, readers_kept}
use Rattle.oim_explain.proofs.fault_list.put_rest.Goals as goal

pub returns-in-None : goal.returns-in-None
returns-in-None g c =
    let from = g.W.Write.contents c.args.to.now in
    let a = g.W.Write.contents c.loop.to in
    let b = g.W.Write.contents c.put_located.new.to in
    let located = c.in-Ok-Some.located in
    let next = c.next_row.new.self.left in
    let gives = subst (λ t. IfSome c.loop.rows.left (λ rows. GivesRow t rows (Ok (Some located)) next)) c.loop.invariant.same.0 (rw c.in-Ok-Some.field-0-is at c.in-Ok-Some.ensures.next) in
    let places = rw c.in-Ok-Some.field-0-is at c.in-Ok-Some.ensures.places in
    let same : c.as_slice-located.result.now ≡ located = search rules in
    let there : WritesEach a b c.args.id.now c.loop.left (located_record c.args.id.now) c.as_slice-located.result.now c.in_ok-after-in-Ok-Some.field-0 = c.in_ok-after-in-Ok-Some.ensures in
    let here = subst (λ ls. WritesEach a b c.args.id.now c.loop.left (located_record c.args.id.now) ls c.in_ok-after-in-Ok-Some.field-0) same there in
    let writes = subst (λ o. WritesEach a b c.args.id.now c.loop.left (located_record c.args.id.now) located o) c.in-None.is here in
    λ bytes of. completes_cut from a b c.args.rows.now.table c.args.id.now bytes c.args.room c.loop.left c.args.rows.now.left c.loop.rows.left next located
    (c.loop.invariant.rest bytes of) gives (places_known c.loop.rows bytes located (readers_kept c.args.rows.now c.loop.rows bytes c.loop.invariant.same of) places) writes

pub returns-in-Ok-None : goal.returns-in-Ok-None
returns-in-Ok-None g c =
    let next = c.next_row.new.self.left in
    let gives = subst (λ t. IfSome c.loop.rows.left (λ rows. GivesRow t rows (Ok None) next)) c.loop.invariant.same.0 (rw c.in-Ok-None.field-0-is at c.in-Ok-None.ensures.next) in
    λ bytes of. completes_end (g.W.Write.contents c.args.to.now) (g.W.Write.contents c.loop.to) c.args.rows.now.table c.args.id.now (record_of c.args.id.now bytes) c.args.room c.loop.left
    c.args.rows.now.left c.loop.rows.left next (c.loop.invariant.rest bytes of) gives

pub returns-in-Err : goal.returns-in-Err
returns-in-Err g c =
    let next = c.next_row.new.self.left in
    let gives = subst (λ t. IfSome c.loop.rows.left (λ rows. GivesRow t rows (Err c.in-Err.failure) next)) c.loop.invariant.same.0 c.in-Err.ensures.next in
    λ bytes of. completes_failed (g.W.Write.contents c.args.to.now) (g.W.Write.contents c.loop.to) (g.W.Write.contents c.put_alone.new.to) c.args.rows.now.table c.args.id.now (record_of c.args.id.now bytes)
    c.args.room c.loop.left c.args.rows.now.left c.loop.rows.left next c.in-Err.failure (c.loop.invariant.rest bytes of) gives c.in_ok-put_alone-in-Err.ensures

pub loop-preserved : goal.loop-preserved
loop-preserved g c =
    let from = g.W.Write.contents c.args.to.now in
    let a = g.W.Write.contents c.loop.to in
    let b = g.W.Write.contents c.put_located.new.to in
    let located = c.in-Ok-Some.located in
    let next = c.next_row.new.self.left in
    let gives = subst (λ t. IfSome c.loop.rows.left (λ rows. GivesRow t rows (Ok (Some located)) next)) c.loop.invariant.same.0 (rw c.in-Ok-Some.field-0-is at c.in-Ok-Some.ensures.next) in
    let places = rw c.in-Ok-Some.field-0-is at c.in-Ok-Some.ensures.places in
    let same : c.as_slice-located.result.now ≡ located = search rules in
    let there : WritesEach a b c.args.id.now c.loop.left (located_record c.args.id.now) c.as_slice-located.result.now c.in_ok-after-in-Ok-Some.field-0 = c.in_ok-after-in-Ok-Some.ensures in
    let here = subst (λ ls. WritesEach a b c.args.id.now c.loop.left (located_record c.args.id.now) ls c.in_ok-after-in-Ok-Some.field-0) same there in
    let writes = subst (λ o. WritesEach a b c.args.id.now c.loop.left (located_record c.args.id.now) located o) c.in-Some.is here in
    record {
      same = kept_on c.args.rows.now c.loop.rows c.next_row.new.self c.loop.invariant.same c.in-Ok-Some.ensures.same;
      rest = λ bytes of. completes_more from a b c.args.rows.now.table c.args.id.now bytes c.args.room c.loop.left c.in-Some.after c.args.rows.now.left c.loop.rows.left next located
          (c.loop.invariant.rest bytes of) gives (places_known c.loop.rows bytes located (readers_kept c.args.rows.now c.loop.rows bytes c.loop.invariant.same of) places) writes;
    }
