use Rattle.std.proofs.Common.{rules, ◌≡◌, IfSome, subst, sym, true}
use Rattle.oim_places.specs.FaultLists.{record_of}
use Rattle.oim_explain.specs.ListedFaults.{WritesEach, WritesRows}
use Rattle.oim_explain.specs.state.ListedRows.{ListsRows, StartsWith, located_record}
use Rattle.oim_explain.proofs.FaultTexts.{places_known, readers_kept, rows_listed, rows_listed_cut}
use Rattle.oim_explain.proofs.fault_list.put_rows.Goals as goal

pub returns-in-Some : goal.returns-in-Some
returns-in-Some g c =
    let from = g.W.Write.contents c.args.to.now in
    let a = g.W.Write.contents c.put_located.new.to in
    let out = g.W.Write.contents c.put_rest.new.to in
    let id = c.args.table.id.now in
    let most = c.args.table.most in
    let located = c.in-Ok-Some.located in
    let next = c.next_row.new.self.left in
    let gives = rw c.in-Ok-Some.field-0-is at c.in-Ok-Some.ensures.next in
    let places = rw c.in-Ok-Some.field-0-is at c.in-Ok-Some.ensures.places in
    let begun : c.as_slice-located.result.now ≡ located = search rules in
    let written : c.as_slice-located.result.now ≡ located = search rules in
    let yes : c.begin_with.result ≡ true = search rules in
    let starts = subst (λ ls. StartsWith c.args.table.fault.now ls) begun (c.begin_with.ensures yes) in
    let there : WritesEach from a id most (located_record id) c.as_slice-located.result.now c.in_ok-room.field-0 = c.in_ok-room.ensures in
    let here = subst (λ ls. WritesEach from a id most (located_record id) ls c.in_ok-room.field-0) written there in
    let first = subst (λ o. WritesEach from a id most (located_record id) located o) c.in-Some.is here in
    λ bytes of.
    let others = subst (λ t. IfSome next (λ later. WritesRows a out t id (record_of id bytes) c.in-Some.room later c.in_ok-after-in-Some.after)) c.in-Ok-Some.ensures.same.0
    (c.in_ok-after-in-Some.ensures bytes (readers_kept c.args.rows.now c.next_row.new.self bytes c.in-Ok-Some.ensures.same of)) in
    subst (λ listed. IfSome c.args.rows.now.left (λ rows. ListsRows from out c.args.rows.now.table id c.args.table.fault.now most (record_of id bytes) rows listed)) (sym c.counted.ensures)
    (rows_listed from a out c.args.rows.now.table id bytes c.args.table.fault.now most c.in-Some.room c.args.rows.now.left next located c.in_ok-after-in-Some.after _ starts gives
    (places_known c.args.rows.now bytes located of places) first others)

pub returns : goal.returns
returns g c =
    let from = g.W.Write.contents c.args.to.now in
    let out = g.W.Write.contents c.put_located.new.to in
    let id = c.args.table.id.now in
    let most = c.args.table.most in
    let located = c.in-Ok-Some.located in
    let gives = rw c.in-Ok-Some.field-0-is at c.in-Ok-Some.ensures.next in
    let places = rw c.in-Ok-Some.field-0-is at c.in-Ok-Some.ensures.places in
    let begun : c.as_slice-located.result.now ≡ located = search rules in
    let written : c.as_slice-located.result.now ≡ located = search rules in
    let yes : c.begin_with.result ≡ true = search rules in
    let starts = subst (λ ls. StartsWith c.args.table.fault.now ls) begun (c.begin_with.ensures yes) in
    let there : WritesEach from out id most (located_record id) c.as_slice-located.result.now c.in_ok-room.field-0 = c.in_ok-room.ensures in
    let here = subst (λ ls. WritesEach from out id most (located_record id) ls c.in_ok-room.field-0) written there in
    let first = subst (λ o. WritesEach from out id most (located_record id) located o) c.in-None.is here in
    λ bytes of.
    subst (λ listed. IfSome c.args.rows.now.left (λ rows. ListsRows from out c.args.rows.now.table id c.args.table.fault.now most (record_of id bytes) rows listed)) (sym c.counted-in-None.ensures)
    (rows_listed_cut from out c.args.rows.now.table id bytes c.args.table.fault.now most c.args.rows.now.left c.next_row.new.self.left located _ starts gives
    (places_known c.args.rows.now bytes located of places) first)
