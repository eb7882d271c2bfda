use Rattle.std.specs.Prelude.{◌≡◌, ℕ, ◌<◌, ◌+◌, suc, List, [], ◌∷◌, ◌++◌, Option, None, Some, Contains, IfNone, length, map}
use Rattle.std.proofs.Common.{◌≢◌, arith, ap, get_or, get_or-set_other, sym, ◌∙◌, subst, length-append}
use Rattle.std.proofs.Math.ListN.{length-set}
use Rattle.std.proofs.lemmas.List.{get_or_default}
use Rattle.std.specs.Vec.Iter.{into_iter_items}
use Rattle.oim_ring.specs.declared.item.Item.{Item}
use Rattle.oim_convert.specs.Tasks.{Each}
use Rattle.oim_convert.specs.state.Tasks.{IsEnded, IsKeptOwn, IsSentOf, IsTable}
use Rattle.oim_convert.specs.declared.table_task.TableTask.{TableTask}
use Rattle.oim_convert.proofs.ClosedFeeds.{closed_kept, closed_read, each_first, each_more, map_one}
use Rattle.oim_convert.proofs.closed_feeds.settle_all.Given as given
use Rattle.oim_convert.proofs.closed_feeds.settle_all.Goals as goal
use Rattle.oim_convert.proofs.closed_feeds.settle_all.Goals.{After-settled-in-loop-drain-1}

-- The token in the place is that of the table.
token_is : (g : given.Over) (c : After-settled-in-loop-drain-1 g)
    → IsSentOf g.R.Read.remaining c.args.terms.now.report.now c.args.terms.now.limits.rows c.args.terms.now.served c.args.terms.now.claims.now.items (length c.loop-drain.settled.items) c.in_ok-closed.closed
token_is g c =
    let r = c.loop-drain.invariant in
    let at : c.len-at.result ≡ length c.loop-drain.settled.items = c.len-at.ensures ∙ c.loop-drain.settled.ok.0 in
    let steps = c.in-Some.ensures.steps.1 in
    let lt : c.len-at.result < length c.loop-drain.closed_feeds = omega arith in
    let here = r.4 c.len-at.result c.in_ok-closed.closed (closed_read c.loop-drain.closed_feeds c.len-at.result c.index-closed_feeds-at.result c.in_ok-closed.closed
    lt (sym c.take.ensures.value ∙ c.in_ok-closed.was)) in
    subst (λ (n : ℕ). IsSentOf g.R.Read.remaining c.args.terms.now.report.now c.args.terms.now.limits.rows c.args.terms.now.served c.args.terms.now.claims.now.items n c.in_ok-closed.closed) at here

-- The drain is that of the table.
drain_is : (g : given.Over) (c : After-settled-in-loop-drain-1 g)
    → IsEnded c.args.terms.now.claims.now.items (length c.loop-drain.settled.items) c.in-Some.drain
    × Each (IsEnded c.args.terms.now.claims.now.items) (suc (length c.loop-drain.settled.items)) (into_iter_items c.next.new.self)
drain_is g c =
    each_first (IsEnded c.args.terms.now.claims.now.items) (length c.loop-drain.settled.items) c.in-Some.drain (into_iter_items c.next.new.self)
    (into_iter_items c.loop-drain.drain-iterator) c.in-Some.ensures.steps.0
    c.loop-drain.invariant.3

pub settle-requires-clause-one_ring : goal.settle-requires-clause-one_ring
settle-requires-clause-one_ring g c =
    let s = token_is g c in let d = (drain_is g c).0 in
    let same : s.task ≡ d.task = let e : Some s.task ≡ Some d.task = sym s.planned ∙ d.planned in cc in
    s.ring ∙ (ap (λ (j : TableTask g.row.R.Denot). j.feed.ring) same ∙ sym d.ring)

pub loop-drain-preserved : goal.loop-drain-preserved
loop-drain-preserved g c =
    let r = c.loop-drain.invariant in
    let b : After-settled-in-loop-drain-1 g = c.before.before in
    let s = token_is g b in let d = drain_is g b in
    let told = g.R.Read.remaining in let report = c.args.terms.now.report.now in let limit = c.args.terms.now.limits.rows in let served = c.args.terms.now.served in
    let plan = c.args.terms.now.claims.now.items in
    let done = c.loop-drain.settled.items in
    let steps = c.in-Some.ensures.steps in
    let pushed = c.push_reserved.ensures.items in
    let len : length c.push_reserved.new.self.items ≡ suc (length done) = omega (arith, ap length pushed, length-append done (c.settle.result ∷ [])) in
    let kept : IsKeptOwn told report limit served (length done) s.task.reader c.settle.result =
    subst (λ (l : List Item). IsKeptOwn told report limit served (length done) s.task.reader l) (sym c.settle.ensures.sent) s.kept in
    let table : IsTable told report limit served plan (length done) c.settle.result = record { task = s.task; planned = s.planned; kept = kept } in
    let zero_more : length done ≡ 0 + length done = omega arith in (
      omega arith,
      (let e = length-set c.loop-drain.closed_feeds c.len-at.result c.take.new.self in omega arith),
      r.2 ∙ (map_one (λ d. d.taken) done c.in-Some.drain (into_iter_items c.next.new.self) _ c.settle.result steps.0 c.settle.ensures.taken
          ∙ ap (λ l. l ++ map (λ d. d.taken) (into_iter_items c.next.new.self)) (sym pushed)),
      subst (λ (n : ℕ). Each (IsEnded plan) n (into_iter_items c.next.new.self)) (sym len) d.1,
      (λ t closed e. r.4 t closed (closed_kept c.loop-drain.closed_feeds c.len-at.result t closed (rw (← c.take.ensures.after) e))),
      subst (λ (l : List (List Item)). Each (IsTable told report limit served plan) 0 l) (sym pushed)
          (each_more (IsTable told report limit served plan) 0 done c.settle.result r.5
          (subst (λ (n : ℕ). IsTable told report limit served plan n c.settle.result) zero_more table)),
      (λ t le.
          let at : c.len-at.result ≡ length done = c.len-at.ensures ∙ c.loop-drain.settled.ok.0 in
          let apart : t ≢ c.len-at.result = (λ e. omega (arith, e, at, len, le)) in
          get_or-set_other c.loop-drain.closed_feeds c.len-at.result t c.take.new.self None apart ∙ r.6 t (omega (arith, len, le))),
    )

if_none : {A : Type 0} (o : Option A) (P : Type 0) → P → IfNone o P
if_none (Some x) P p = tt
if_none None P p = p

-- The place at which the loop ends has no token.
pub returns-in_err-closed-clause-lost : goal.returns-in_err-closed-clause-lost
returns-in_err-closed-clause-lost g c =
    let r = c.loop-drain.invariant in
    let closed_feeds = c.loop-drain.closed_feeds in
    let at : c.len-at.result ≡ length c.loop-drain.settled.items = c.len-at.ensures ∙ c.loop-drain.settled.ok.0 in
    let steps = c.in-Some.ensures.steps.1 in
    let lt : c.len-at.result < length closed_feeds = omega arith in
    let here : get_or closed_feeds c.len-at.result None ≡ None =
    get_or_default closed_feeds c.len-at.result None c.index-closed_feeds-at.result lt ∙ (sym c.take.ensures.value ∙ c.in_err-closed.was) in
    let len = c.loop-drain.auto.closed_feeds in
    let gap : Contains c.args.closed_feeds.now None = (c.len-at.result, omega (arith, lt, len), sym (r.6 c.len-at.result (omega (arith, at))) ∙ here) in
    if_none c.from_residual.result (Contains c.args.closed_feeds.now None) gap
