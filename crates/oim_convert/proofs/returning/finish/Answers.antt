use Rattle.std.specs.Prelude.{◌≡◌, ◌⊎◌, true, false, Option, Some, None, Any, Contains, IfNone, IfSome, length}
use Rattle.std.proofs.Common.{ap, sym, ◌∙◌, subst, inl, inr}
use Rattle.std.specs.List.{list_all}
use Rattle.oim_convert.specs.state.Tasks.{tables_promised, results_of}
use Rattle.oim_crew.specs.Numbers.{EachOnceBelow}
use Rattle.oim_convert.specs.declared.table_task.TaskResult.{TaskResult}
use Rattle.oim_convert.proofs.ResultCover.{covered, lost_result, seats_mine, some_finished}
use Rattle.oim_convert.proofs.RunHistories.{replicate_len, closed_feeds_begin}
use Rattle.oim_convert.proofs.returning.finish.Goals as goal

pub place_all-seats-requires-clause-closed_feeds : goal.place_all-seats-requires-clause-closed_feeds
place_all-seats-requires-clause-closed_feeds g c =
    closed_feeds_begin g.R.Read.remaining c.args.report.now c.args.limits.rows c.args.shifts.served c.args.claims.items (length c.args.claims.items) c.as_mut_slice-closed_feeds.result.now
    (c.as_mut_slice-closed_feeds.ensures.value ∙ c.requires.room.closed_feeds)

pub close-requires-clause-mine : goal.close-requires-clause-mine
close-requires-clause-mine g c =
    seats_mine g.R.Read.remaining c.args.report.now c.args.limits.rows c.args.shifts.served c.args.claims c.args.shifts.list.items c.place_all-seats.result.items c.requires.shifts c.place_all-seats.ensures.seats

pub close-requires-clause-finished : goal.close-requires-clause-finished
close-requires-clause-finished g c =
    let busy = subst (λ l. list_all (λ s. s.stopped) l ≡ false) c.as_slice.ensures.value (sym c.all_idle.ensures ∙ c.if-all_idle.false) in
    some_finished g.R.Read.remaining c.args.report.now c.args.limits.rows c.args.shifts.served c.args.claims c.args.shifts.list.items
    c.place_all-seats.result.items c.requires.shifts c.place_all-seats.ensures.seats busy

pub returns-then-all_idle-clause-lost : goal.returns-then-all_idle-clause-lost
returns-then-all_idle-clause-lost g c =
    inl (subst (λ l. list_all (λ s. s.stopped) l ≡ true) c.as_slice.ensures.value (sym c.all_idle.ensures ∙ c.if-all_idle.true))

if_some : {A : Type 0} (o : Option A) (P : Type 0) → P → IfSome o (λ _. P)
if_some (Some x) P p = p
if_some None P p = tt

if_none : {A : Type 0} (o : Option A) (P Q : Type 0) → (P → Q) → IfNone o P → IfNone o Q
if_none (Some x) P Q f p = tt
if_none None P Q f p = f p

pub returns-clause-cover : goal.returns-clause-cover
returns-clause-cover g c =
    if_some c.settle_all-all.result (EachOnceBelow (length c.args.claims.items) (tables_promised c.args.shifts.list.items))
    (covered g.R.Read.remaining c.args.report.now c.args.limits.rows c.args.shifts.served c.args.claims c.args.shifts.list.items c.place_all-seats.result.items
    c.requires.shifts c.place_all-seats.ensures.seats c.close.ensures)

pub returns-clause-lost : goal.returns-clause-lost
returns-clause-lost g c =
    let tokens = results_of c.args.shifts.list.items in
    let first = c.as_mut_slice-closed_feeds.result.now in
    let after = c.place_all-seats.new.closed_feeds in
    let n = length c.args.claims.items in
    let len : length first ≡ n = ap length (c.as_mut_slice-closed_feeds.ensures.value ∙ c.requires.room.closed_feeds) ∙ replicate_len n None in
    let each =
    covered g.R.Read.remaining c.args.report.now c.args.limits.rows c.args.shifts.served c.args.claims c.args.shifts.list.items c.place_all-seats.result.items
    c.requires.shifts c.place_all-seats.ensures.seats c.close.ensures in
    if_none c.settle_all-all.result (Contains after None) ((list_all (λ s. s.stopped) c.args.shifts.list.items ≡ true) ⊎ Any (λ (t : TaskResult). t.closed ≡ None) tokens)
    (λ gap. inr (lost_result tokens first after n len c.place_all-seats.ensures.placed each gap)) c.settle_all-all.ensures.lost
